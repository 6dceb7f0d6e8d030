pub mod GroupLaws
pub mod NumberLaws
pub mod PatchDone
pub mod PathsLaws
pub mod PatchForeign
pub mod PatchGroups
pub mod PatchMet
mod PatchOwn
pub mod PatchParents
pub mod PatchPlaces
mod PatchPlain
pub mod PatchPublic
mod PatchPuts
pub mod PatchValid
pub mod RisingLaws
pub mod RunLaws
pub mod SetLaws
pub mod StepLaws
pub mod TreeFits
pub mod TreePatch
