pub mod Resident
pub mod Ring
pub mod Lends
