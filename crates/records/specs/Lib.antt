pub mod Fields
pub mod Page
pub mod Records
pub mod Read
pub mod Lends
pub mod Memory
