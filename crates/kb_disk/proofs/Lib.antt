pub mod EditLaws
pub mod EffectLaws
pub mod ListLaws
pub mod MoveLaws
pub mod NodeLaws
pub mod UndoLaws
