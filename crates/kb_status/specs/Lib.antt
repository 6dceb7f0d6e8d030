pub mod Built
pub mod Filter
pub mod Line
pub mod LineOf
pub mod Lines
pub mod Order
pub mod Status
