pub mod CallLaws
pub mod EffectsLaws
pub mod LostLaws
pub mod PlanLaws
pub mod PutLaws
pub mod RunLaws
pub mod ScriptLaws
