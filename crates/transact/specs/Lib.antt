pub mod Calls
pub mod Tables
pub mod Plans
pub mod Submits
pub mod Memory
