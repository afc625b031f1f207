pub mod Visiting
pub mod Settling
