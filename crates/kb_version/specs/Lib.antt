pub mod Signs
pub mod Items
pub mod Order
pub mod OrderLaws
pub mod Piece
pub mod Digits
