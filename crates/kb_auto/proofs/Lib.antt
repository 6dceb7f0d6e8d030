pub mod NextLaws
pub mod OrderLaws
pub mod PlacedLaws
pub mod QueueLaws
pub mod RingLaws
pub mod RowLaws
pub mod WebLaws
