pub mod Visits
pub mod Steps
pub mod Looks
