pub mod Holding
pub mod Standing
pub mod Counting
pub mod Placing
pub mod Talking
pub mod Marking
pub mod Keeping
pub mod Committing
pub mod Begins
pub mod Telling
pub mod Soundness
pub mod Else
pub mod Planning
pub mod Rising
pub mod Ordering
pub mod Waiting
pub mod Falling
mod EventRows
mod LogRows
pub mod Filling
