pub mod Failures
pub mod Troubles
pub mod Streams
pub mod Observations
pub mod Laws
