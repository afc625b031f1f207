pub mod Shows
pub mod KeyLists
pub mod Deleting
