pub mod Clearing
pub mod Doing
pub mod Finish
pub mod Journaling
pub mod Recover
pub mod Staging
pub mod Txn
