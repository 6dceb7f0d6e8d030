pub mod Sparing
pub mod Within
pub mod Unseen
pub mod Cases
