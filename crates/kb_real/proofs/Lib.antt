pub mod ChildLaws
pub mod ListingLaws
pub mod OutputLaws
pub mod PieceLaws
pub mod UntoldLaws
