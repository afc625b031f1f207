pub mod Counted
pub mod Fair
pub mod LapRows
pub mod Turns
pub mod Visited
