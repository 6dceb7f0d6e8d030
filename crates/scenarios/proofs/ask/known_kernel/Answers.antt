-- A kernel's name can name an entry of a directory.
use Rattle.std.proofs.Common.{◌≡◌, true}
use Rattle.kb_world.specs.Names.{is_kernel}
use Rattle.kb_world.proofs.PartLaws.{kernel-is_name}
use Rattle.scenarios.proofs.ask.known_kernel.Goals as goal

pub returns-in-Some : goal.returns-in-Some
returns-in-Some c x is =
    let same : c.in-Some.kernel ≡ x.now = cc in
    let holds : is_kernel x.now ≡ true = cc in
    kernel-is_name x.now holds
