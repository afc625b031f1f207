pub mod Fits
pub mod Lasts
pub mod Visiting
