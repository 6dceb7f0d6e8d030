-- Part by part.
use Rattle.std.proofs.Common.{rules, ◌≡◌, ◌++◌, [], map, ap, ◌∙◌}
use Rattle.kb_changes.specs.Changes.{numbered_puts, scratches}
use Rattle.kb_changes.specs.PatchPaths.{some_puts}
use Rattle.kb_changes.specs.declared.change.Change.TheVariants.{Dir, Drop, Wipe}
use Rattle.kb_changes.proofs.PathsLaws.{changes-are, from_parts}
use Rattle.kb_changes.proofs.patch_changes.changes_of.Goals as goal

pub returns : goal.returns
returns c patch are =
    let roots = c.args.roots.now in
    let paths = c.args.paths.now in
    let wipes : c.in_ok-wipes.wipes.items ≡ paths.wipes = search rules in
    let tidied = ap (scratches roots) c.deref.ensures.value in
    let drops = c.in_ok-changes.ensures ∙ ap (map Drop) c.in_ok-drops_of.ensures in
    let wiped = c.in_ok-as_wipes.ensures ∙ ap (map Wipe) (c.in_ok-append.ensures.items ∙ (λ k. wipes k ++ (c.in_ok-scratches.ensures ∙ tidied) k)) in
    let made = c.in_ok-as_dirs.ensures ∙ ap (map Dir) c.in_ok-dirs_of.ensures in
    let put = c.in_ok-puts_to.ensures ∙ ap (λ targets. numbered_puts roots [] (some_puts targets)) c.as_slice-2.ensures in
    c.in_ok-append-5.ensures.items
    ∙ (λ k. (c.in_ok-append-4.ensures.items ∙ (λ l. (c.in_ok-append-3.ensures.items ∙ (λ m. (c.in_ok-append-2.ensures.items ∙ (λ n. drops n ++ wiped n)) m ++ made m)) l ++ put l)) k ++ c.in_ok-as_drop_dirs.ensures k)
    ∙ from_parts roots paths c.in_ok-emptied.emptied.items c.in_ok-emptied.ensures ∙ changes-are roots patch paths are
