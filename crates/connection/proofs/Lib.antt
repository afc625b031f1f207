pub mod Turns
pub mod Conversing
pub mod Called
pub mod Briefs
pub mod Opened
pub mod Known
