pub mod Clear
pub mod Rule
pub mod Plays
pub mod Words
pub mod Seats
