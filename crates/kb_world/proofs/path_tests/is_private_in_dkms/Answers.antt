use Rattle.std.proofs.Common.{◌≡◌, ◌||◌, ◌∙◌, ap, sym, cond, length, drop, None}
use Rattle.kb_world.specs.Public.{private_dkms_names}
use Rattle.kb_world.specs.StorePath.{is_in_scratch, told_by, store_path}
use Rattle.kb_world.proofs.PathLaws.{any_behind, none_behind}
use Rattle.kb_world.proofs.path_tests.is_private_in_dkms.Goals as goal

pub returns-in-Some : goal.returns-in-Some
returns-in-Some c =
    let p = c.args.path.now in
    let place = c.are_in_dkms_place-place.ensures ∙ any_behind p c.args.roots.now.dkms private_dkms_names c.in-Some.names.now c.in-Some.ensures.names.0 c.in-Some.ensures.names.1 in
    let scratch : c.is_scratch-scratch.result ≡ is_in_scratch (store_path c.args.roots.now p) =
    c.is_scratch-scratch.ensures ∙ ap (λ names. is_in_scratch (told_by names)) c.in-Some.ensures.names.1
    ∙ sym (ap (λ b. is_in_scratch (cond b (told_by (drop (length c.args.roots.now.dkms) p)) None)) c.in-Some.ensures.names.0) in
    λ i. (place i || scratch i)

pub returns-in-None : goal.returns-in-None
returns-in-None c =
    let p = c.args.path.now in
    let place = none_behind p c.args.roots.now.dkms private_dkms_names c.in-None.ensures.names in
    let scratch = sym (ap (λ b. is_in_scratch (cond b (told_by (drop (length c.args.roots.now.dkms) p)) None)) c.in-None.ensures.names) in
    λ i. (place i || scratch i)
