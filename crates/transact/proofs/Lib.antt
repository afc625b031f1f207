pub mod Watched
pub mod Keys
pub mod Heavy
