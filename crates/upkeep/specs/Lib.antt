pub mod Calls
pub mod Events
pub mod Laps
pub mod Steps
pub mod Rounds
