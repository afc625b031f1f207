pub mod Bounds
pub mod Given
pub mod LineLengths
pub mod SaidLengths
