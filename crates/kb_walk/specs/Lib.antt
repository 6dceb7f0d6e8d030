pub mod Copy
pub mod PrivateLaws
pub mod Walking
pub mod Wipe
