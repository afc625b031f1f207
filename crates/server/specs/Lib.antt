pub mod Accepting
pub mod Closing
pub mod Crew
pub mod Faults
pub mod Numbers
