pub mod Accepted
pub mod Closing
pub mod Counts
pub mod Pausing
pub mod Polling
pub mod Sockets
pub mod SystemCalls
