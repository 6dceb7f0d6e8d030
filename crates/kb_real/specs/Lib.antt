pub mod Children
pub mod Faults
pub mod Listing
pub mod Modes
pub mod Outputs
pub mod Pieces
pub mod Untold
