pub mod Windows
pub mod Shown
