pub mod Accessors
pub mod Chests
pub mod Claims
pub mod Contents
pub mod Notes
pub mod PrivateLaws
pub mod Read
pub mod Reading
