mod AddLaws
mod AddRun
pub mod AddTreeRun
mod CommitPatch
mod DoesAdd
pub mod DoesAddTree
pub mod PrepareCopy
mod PrepareLaws
mod ScriptLaws
pub mod StageLaws
mod TreeLaws
mod WantLaws
pub mod CopyLaws
pub mod DecideLaws
pub mod TreeConf
pub mod RepeatLaws
