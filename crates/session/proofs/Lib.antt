pub mod Watched
pub mod Queued
