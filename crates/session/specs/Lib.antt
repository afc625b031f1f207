pub mod Transactions
pub mod Standings
pub mod Steps
pub mod Sizes
pub mod Laws
