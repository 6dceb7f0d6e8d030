pub mod Begun
pub mod Calls
pub mod Lost
pub mod Plan
pub mod Sink
pub mod World
