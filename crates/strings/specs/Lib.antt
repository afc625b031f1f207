pub mod Overlays
pub mod Kinds
