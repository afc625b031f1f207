pub mod Laws
pub mod Peers
pub mod Desks
pub mod Stripes
pub mod Planning
pub mod Members
pub mod Tables
pub mod Still
