pub mod Add
pub mod AddTree
pub mod Commit
pub mod Copying
pub mod Host
pub mod Places
pub mod Scripts
