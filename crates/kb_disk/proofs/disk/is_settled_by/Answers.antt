use Rattle.std.proofs.Common.{◌&&◌, sym, ap, ◌∙◌}
use Rattle.std.specs.Prelude.{bytes_eq}
use Rattle.std.specs.List.{list_any, list_all}
use Rattle.kb_world.specs.Area.{is_settled_by}
use Rattle.kb_disk.proofs.MoveLaws.{same_path_told}
use Rattle.kb_disk.proofs.disk.is_settled_by.Goals as goal

pub returns-then-eq : goal.returns-then-eq
returns-then-eq c =
    let among = list_all (λ name. list_any (bytes_eq name) c.in-Names-Names.names) c.in-Names-Names.others in
    c.are_among.ensures
    ∙ (λ i. list_all (λ name. list_any (bytes_eq name) (c.as_slice-then-eq.ensures i)) (c.as_slice.ensures i))
    ∙ ap (λ b. b && among) (c.if-eq.ensures ∙ same_path_told c.in-Names-Names.outer c.in-Names-Names.directory)
    ∙ sym (λ i. is_settled_by (c.in-Names-Names.is-0 i) (c.in-Names-Names.is-1 i))

pub returns-else-eq : goal.returns-else-eq
returns-else-eq c =
    let among = list_all (λ name. list_any (bytes_eq name) c.in-Names-Names.names) c.in-Names-Names.others in
    c.if-eq.false
    ∙ ap (λ b. b && among) (c.if-eq.ensures ∙ same_path_told c.in-Names-Names.outer c.in-Names-Names.directory)
    ∙ sym (λ i. is_settled_by (c.in-Names-Names.is-0 i) (c.in-Names-Names.is-1 i))
