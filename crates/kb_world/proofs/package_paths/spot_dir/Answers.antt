-- A kernel and an architecture can name entries of directories.
use Rattle.std.specs.Cmp.{first_so, second_so}
use Rattle.kb_world.specs.Names.{is_kernel, is_arch}
use Rattle.kb_world.proofs.PartLaws.{kernel-is_name, arch-is_name}
use Rattle.kb_world.proofs.package_paths.spot_dir.Goals as goal

pub descend-requires-clause-first : goal.descend-requires-clause-first
descend-requires-clause-first c = let spot = c.args.spot.now in kernel-is_name spot.kernel (first_so (is_kernel spot.kernel) (is_arch spot.arch) c.requires)

pub descend-requires-clause-second : goal.descend-requires-clause-second
descend-requires-clause-second c = let spot = c.args.spot.now in arch-is_name spot.arch (second_so (is_kernel spot.kernel) (is_arch spot.arch) c.requires)
