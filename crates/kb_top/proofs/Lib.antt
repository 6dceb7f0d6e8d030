pub mod BootLaws
pub mod ReadyLaws
pub mod RepeatLaws
pub mod RunLaws
pub mod ServeLaws
pub mod SettingLaws
pub mod StartLaws
pub mod TellLaws
