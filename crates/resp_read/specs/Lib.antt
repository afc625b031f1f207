pub mod Lines
pub mod Pieces
pub mod Unread
pub mod Looks
pub mod Memory
pub mod Faults
pub mod Taking
