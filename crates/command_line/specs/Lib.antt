pub mod Given
pub mod CommandLine
