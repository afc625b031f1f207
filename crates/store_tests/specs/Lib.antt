pub mod Nothing
pub mod Visits
