-- That what is given and assigned is text.
use Rattle.std.specs.Str.{IsUtf8}
use Rattle.kb_conf.specs.Assignment.{Assignment, Given}

pub record IsTextAssignment (a : Assignment) : Type 0 where
  pub name : IsUtf8 a.name
  pub value : IsUtf8 a.value

pub record IsTextGiven (g : Given) : Type 0 where
  pub kernel : IsUtf8 g.kernel
  pub arch : IsUtf8 g.arch
  pub kernel_source_dir : IsUtf8 g.kernel_source_dir
  pub dkms_tree : IsUtf8 g.dkms_tree
  pub source_tree : IsUtf8 g.source_tree
