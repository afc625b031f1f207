pub mod Short
pub mod Counts
pub mod Raised
pub mod Freed
pub mod Refreed
pub mod Cleaned
pub mod Lacking
