-- The same words again come to the same store.
use Rattle.std.proofs.Common.{◌≡◌, Bool, true, false, List, ◌∷◌, Option, Result, Ok, Err, refl, sym, ap, ◌∙◌, subst, inl}
use Rattle.kb_world.specs.Layout.{united}
use Rattle.kb_world.specs.Path.{Path}
use Rattle.kb_world.specs.Public.{public_tree, foreign_tree}
use Rattle.kb_world.specs.Script.{Script}
use Rattle.kb_world.specs.Store.{is_added}
use Rattle.kb_world.specs.Tree.{Tree}
use Rattle.kb_world.specs.declared.job.Filter.{Filter}
use Rattle.kb_world.specs.declared.job.Host.{Host}
use Rattle.kb_world.specs.declared.refusal.Refusal.{Refusal}
use Rattle.kb_world.specs.declared.roots.Roots.{Roots}
use Rattle.kb_changes.specs.declared.change.Intent.{Intent}
use Rattle.kb_conf.specs.declared.conf.Conf.{Conf}
use Rattle.kb_machine.specs.Outcome.{Action, last_of, print, ◌then◌}
use Rattle.kb_machine.specs.Repeat.{LeavesNone, IsOnce}
use Rattle.kb_machine.specs.Repeat.IsOnce.{none, one}
use Rattle.kb_machine.specs.Stands.{IsOneOf, OpensOneOf}
use Rattle.kb_machine.proofs.OnceLaws.{none_unless, none_reads, once_unless, once_reads, once_same}
use Rattle.kb_store.specs.Read.{read_of}
use Rattle.kb_status.specs.Status.{text_of_status}
use Rattle.kb_words.specs.Reading.{reading}
use Rattle.kb_words.specs.Words.{Word}
use Rattle.kb_words.specs.declared.command.Command.{Command}
use Rattle.kb_words.specs.declared.command.Command.TheVariants as command
use Rattle.kb_dkms.specs.Add.{add}
use Rattle.kb_dkms.specs.AddTree.{add_tree, tree_conf}
use Rattle.kb_dkms.proofs.RepeatLaws.{add_none, add_tree_none, add_once, add_tree_once, same_conf}
use Rattle.kb_top.specs.Machine.{known_host, no_root, no_roots_of_add, add_to_store, perform_add, print_status, perform_status, perform_read, machine, telling, is_recovery, journal_words, outcome_of}
use Rattle.kb_top.specs.Repeat.{AreAlikeBelow, KeepDirectory, ComesToSameStore}

-- ---- an addition behind its roots and its store

performed_none : (roots : Roots) (added : Action) (store foreign : Tree) → LeavesNone added store foreign → LeavesNone (perform_add roots added) store foreign
performed_none roots added store foreign empty =
    none_unless (no_roots_of_add roots) (add_to_store roots added) store foreign (none_reads (read_of roots) (λ read. added) store foreign (λ value is. empty))

performed_once : (Holds : Tree → Type 0) (roots : Roots) (added : Action) (store foreign : Tree) → IsOnce Holds added store foreign → IsOnce Holds (perform_add roots added) store foreign
performed_once Holds roots added store foreign once =
    once_unless Holds (no_roots_of_add roots) (add_to_store roots added) store foreign (once_reads Holds (read_of roots) (λ read. added) store foreign (λ value is. once))

-- ---- each command makes one store at most, and none from there

module _ (host : Host) (script : Script) (store foreign : Tree) where
  abbrev performed : Result Command Refusal → Action
  performed read = perform_read host script read

  status_none : (filter : Filter) → LeavesNone (perform_status host.roots filter) store foreign
  status_none filter = none_unless (no_root host.roots.dkms) (print_status host.roots filter) store foreign
      (none_reads (read_of host.roots) (λ read. print (text_of_status read filter)) store foreign (λ value is. refl))

  tree_once : (path : Path) → ((other : Tree) → IsOneOf other (performed (Ok (command.AddTree path)) store foreign).after → AreAlikeBelow path foreign store other)
      → IsOnce (λ next. LeavesNone (performed (Ok (command.AddTree path))) next foreign) (performed (Ok (command.AddTree path))) store foreign
  tree_once path keep = by (performed_once Holds host.roots (add_tree host script path) store foreign (add_tree_once Holds host script path store foreign ends))
    where
      Holds : Tree → Type 0
      Holds next = AreAlikeBelow path foreign store next → LeavesNone (performed (Ok (command.AddTree path))) next foreign

      ends : (conf : Conf) (next : Tree) → tree_conf host path (united store foreign) ≡ Ok conf → is_added host.roots conf.key next ≡ true → Holds next
      ends conf next read added alike =
          performed_none host.roots (add_tree host script path) next foreign
          (add_tree_none host script path conf next foreign (same_conf host path (united next foreign) (united store foreign) alike ∙ read) added)

      by : IsOnce Holds (performed (Ok (command.AddTree path))) store foreign → IsOnce (λ next. LeavesNone (performed (Ok (command.AddTree path))) next foreign) (performed (Ok (command.AddTree path))) store foreign
      by (none empty) = none empty
      by (one next after holds) = one next after (holds (keep next (subst (IsOneOf next) (sym after) (inl refl))))

  performed_same : (read : Result Command Refusal) → KeepDirectory read foreign store (performed read store foreign).after
      → IsOnce (λ next. LeavesNone (performed read) next foreign) (performed read) store foreign
  performed_same (Ok command.Help) keep = none refl
  performed_same (Ok command.Recover) keep = none refl
  performed_same (Ok (command.Add key)) keep =
      performed_once (λ next. LeavesNone (performed (Ok (command.Add key))) next foreign) host.roots (add host script key) store foreign
      (add_once (λ next. LeavesNone (performed (Ok (command.Add key))) next foreign) host script key store foreign
      (λ next added. performed_none host.roots (add host script key) next foreign (add_none host script key next foreign added)))
  performed_same (Ok (command.AddTree path)) keep = tree_once path keep
  performed_same (Ok (command.Status filter)) keep = none (status_none filter)
  performed_same (Err why) keep = none refl

-- ---- behind what is told of a recovery

told_before : (host : Host) (script : Script) (words : List Word) (found : Option (List Word)) (store foreign : Tree)
    → (machine host script words found store foreign).after ≡ (perform_read (known_host host) script (reading words) store foreign).after
told_before host script words found store foreign = by (is_recovery (reading words))
  where
    by : (b : Bool) → ((telling found b then perform_read (known_host host) script (reading words)) store foreign).after ≡ (perform_read (known_host host) script (reading words) store foreign).after
    by true = refl
    by false = refl

pub comes_to_same_store : (host : Host) (script : Script) (words : List Word) (tree ready image : Tree) (found : Option Intent)
    → OpensOneOf host.roots script (public_tree host.roots ready ∷ (outcome_of host script words tree ready found).after) image
    → KeepDirectory (reading words) (foreign_tree host.roots ready) (public_tree host.roots ready) (outcome_of host script words tree ready found).after
    → ComesToSameStore host script words ready (outcome_of host script words tree ready found) image
comes_to_same_store host script words tree ready image found opens keep = record {
  again = again;
  found = refound;
  is_ready = opens.2.2;
  same = λ foreign_same.
      ap (last_of (public_tree host.roots again)) (told_before host script words (journal_words refound) (public_tree host.roots again) (foreign_tree host.roots again))
      ∙ ap (λ f. last_of (public_tree host.roots again) (whole (public_tree host.roots again) f).after) foreign_same
      ∙ once_same whole whole store foreign refl (performed_same (known_host host) script store foreign (reading words) (subst (KeepDirectory (reading words) foreign store) told keep))
      (public_tree host.roots again) (subst (λ s. IsOneOf s (store ∷ (whole store foreign).after)) (sym opens.2.3) (subst (λ after. IsOneOf opens.0 (store ∷ after)) told opens.1))
      ∙ sym (ap (last_of store) told);
}
  where
    store : Tree
    store = public_tree host.roots ready

    foreign : Tree
    foreign = foreign_tree host.roots ready

    whole : Action
    whole = perform_read (known_host host) script (reading words)

    told : (outcome_of host script words tree ready found).after ≡ (whole store foreign).after
    told = told_before host script words (journal_words found) store foreign

    again : Tree
    again = opens.2.0

    refound : Option Intent
    refound = opens.2.1
