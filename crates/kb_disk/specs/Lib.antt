pub mod Coded
pub mod Edits
pub mod Stored
pub mod Undo
