pub mod Lists
pub mod Steps
pub mod Scanning
pub mod Moments
