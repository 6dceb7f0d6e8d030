pub mod Fields
pub mod Text
pub mod Print
pub mod Names
pub mod Reading
pub mod Order
pub mod Refusal
