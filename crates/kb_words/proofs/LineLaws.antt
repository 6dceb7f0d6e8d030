-- What can follow in a command line, from each state of the walk.
use Rattle.std.proofs.Common.{◌≡◌, Bool, true, false, cond, List, [], ◌∷◌, Option, Some, None, codes, bytes_eq, refl, sym, ap, ◌∙◌, subst, true≢false}
use Rattle.std.specs.List.{list_all}
use Rattle.std.specs.Option.{option_map}
use Rattle.std.specs.Cmp.Lexicographic.{bytes_decides}
use Rattle.kb_world.specs.Path.{Path, path_text}
use Rattle.kb_words.specs.declared.command.Command.{Command}
use Rattle.kb_words.specs.declared.command.Command.TheVariants as command
use Rattle.kb_words.specs.declared.parts.DkmsAction.{DkmsAction}
use Rattle.kb_words.specs.declared.parts.DkmsAction.TheVariants as action
use Rattle.kb_words.specs.declared.parts.Seen.{Seen}
use Rattle.kb_words.specs.declared.progress.Progress.{Progress}
use Rattle.kb_words.specs.declared.progress.Progress.TheVariants.{Start, Help, Recover, Dkms, Archive, Add, Tree, Parts}
use Rattle.kb_words.specs.Words.{Word, Part, may_follow, first_bad, NamePackage, NameFilter, action_word, IsActionLine, Line, ForCommand, ForArchive, IsLine, is_archive}
use Rattle.kb_words.specs.Reading.{nothing, seen_after, after_start, action_named, action_or_archive, after_dkms, path_read, after_part, tree_or_part, after_word, ended}
use Rattle.kb_words.proofs.PartLaws.{Completes, FollowsSeen, none_some, same_some, heads, tails, no_head, found_where, line_after, parts_go_on, parts_come_from, parts_end, parts_ended}
use Rattle.kb_words.proofs.PathLaws.{path_into, path_from, parts_no_path}
use Rattle.kb_words.proofs.FitLaws.{Fits, nothing_fits, fits_after, parts_completed}
use Rattle.kb_words.proofs.MeaningLaws.{IsMeaning, add_in, add_out, status_in, status_out}

-- from this state on, these words complete this line
abbrev pub Rest : Progress → List Word → Line → Type 0
Rest Start words line = IsLine words line
Rest Help words line = (words ≡ []) × (line ≡ ForCommand command.Help None)
Rest Recover words line = (words ≡ []) × (line ≡ ForCommand command.Recover None)
Rest Dkms words line = IsLine (codes "dkms" ∷ words) line
Rest (Archive action) words line = line ≡ ForArchive action
Rest Add words line = IsLine (codes "dkms" ∷ codes "add" ∷ words) line
Rest (Tree path) words line = (words ≡ []) × (line ≡ ForCommand (command.AddTree path) None)
Rest (Parts seen) words line = FollowsSeen seen words line

other_word : (word text : Word) → bytes_eq word text ≡ false → word ≡ text → ⊥
other_word word text other same = true≢false (sym ((bytes_decides word text).1 same) ∙ other)

-- ---- the words of the actions

named_from : (word : Word) (it : DkmsAction) → action_named word ≡ Some it → word ≡ action_word it
named_from word it h = by_case (bytes_eq word (codes "add")) (bytes_eq word (codes "status")) refl refl h
  where
    this : (known : DkmsAction) → word ≡ action_word known → Some known ≡ Some it → word ≡ action_word it
    this known at e = at ∙ ap action_word (same_some known it e)

    by_case : (a s : Bool) → bytes_eq word (codes "add") ≡ a → bytes_eq word (codes "status") ≡ s → cond a (Some action.Add) (cond s (Some action.Status) None) ≡ Some it → word ≡ action_word it
    by_case true s ea es e = this action.Add ((bytes_decides word (codes "add")).0 ea) e
    by_case false true ea es e = this action.Status ((bytes_decides word (codes "status")).0 es) e
    by_case false false ea es e = absurd (none_some it e)

-- an action on archives is none of them
no_archive : (it : DkmsAction) → is_archive (action_word it) ≡ false
no_archive action.Add = refl
no_archive action.Status = refl

archive_goes : (word : Word) → is_archive word ≡ true → after_dkms word ≡ Some (Archive word)
archive_goes word is = by_case (action_named word) refl
  where
    by_case : (found : Option DkmsAction) → action_named word ≡ found → after_dkms word ≡ Some (Archive word)
    by_case None e = ap (action_or_archive word) e ∙ ap (λ b. cond b (Some (Archive word)) None) is
    by_case (Some it) e = absurd (true≢false (sym is ∙ ap is_archive (named_from word it e) ∙ no_archive it))

-- ---- a word more

abbrev GoesOn : Progress → Word → List Word → Line → Type 0
GoesOn state word rest line = (next : Progress) × (after_word state word ≡ Some next) × Rest next rest line

dkms_goes : (it : DkmsAction) (IsMeant : List Part → Type 0) (word : Word) (rest : List Word) (bad : Option Word) → IsActionLine it IsMeant (word ∷ rest) bad
    → (after_word Start word ≡ Some Dkms) × IsActionLine it IsMeant (codes "dkms" ∷ rest) bad
dkms_goes it IsMeant word rest bad is =
    let behind = action_word it ∷ is.behind in (
      ap after_start (heads word (codes "dkms") rest behind is.are),
      record {
        behind = is.behind;
        parts = is.parts;
        are = ap (λ words. codes "dkms" ∷ words) (tails word (codes "dkms") rest behind is.are);
        follow = is.follow;
        meant = is.meant;
        bad_is = is.bad_is;
      },
    )

-- the parts behind an action make the line
action_completes : (it : DkmsAction) (IsMeant : List Part → Type 0) (asked : Command) (rest : List Word) (bad : Option Word) → IsActionLine it IsMeant (codes "dkms" ∷ action_word it ∷ rest) bad
    → ((parts : List Part) → list_all (may_follow it) parts ≡ true → IsMeant parts → line_after (nothing it) parts ≡ Some (ForCommand asked (first_bad parts)))
    → Completes (nothing it) rest (ForCommand asked bad)
action_completes it IsMeant asked rest bad is means =
    let words = tails (codes "dkms") (codes "dkms") (action_word it ∷ rest) (action_word it ∷ is.behind) is.are in
    record {
      parts = is.parts;
      are = tails (action_word it) (action_word it) rest is.behind words ∙ is.follow.are;
      good = is.follow.good;
      line_is = means is.parts is.follow.behind is.meant ∙ ap (λ first. Some (ForCommand asked first)) (sym is.bad_is);
    }

-- the word of the action
action_is : (it : DkmsAction) (IsMeant : List Part → Type 0) (word : Word) (rest : List Word) (bad : Option Word) → IsActionLine it IsMeant (codes "dkms" ∷ word ∷ rest) bad → word ≡ action_word it
action_is it IsMeant word rest bad is = heads word (action_word it) rest is.behind (tails (codes "dkms") (codes "dkms") (word ∷ rest) (action_word it ∷ is.behind) is.are)

add_goes : (word : Word) → word ≡ codes "add" → after_dkms word ≡ Some Add
add_goes word at = ap after_dkms at

-- behind `dkms add`, with a first part
add_part_goes : (word : Word) (rest : List Word) (line : Line) → Completes (nothing action.Add) (word ∷ rest) line → GoesOn Add word rest line
add_part_goes word rest line c =
    let more = parts_go_on (nothing action.Add) word rest line c in
    (Parts more.0, ap (tree_or_part word) (parts_no_path word more.0 more.1) ∙ ap (option_map Parts) more.1, more.2)

pub goes_on : (state : Progress) (word : Word) (rest : List Word) (line : Line) → Rest state (word ∷ rest) line → (next : Progress) × (after_word state word ≡ Some next) × Rest next rest line
goes_on Start word rest (ForCommand command.Help bad) is = (Help, ap after_start (heads word (codes "help") rest [] is.0), (tails word (codes "help") rest [] is.0, ap (ForCommand command.Help) is.1))
goes_on Start word rest (ForCommand command.Recover bad) is = (Recover, ap after_start (heads word (codes "recover") rest [] is.0), (tails word (codes "recover") rest [] is.0, ap (ForCommand command.Recover) is.1))
goes_on Start word rest (ForCommand (command.Add key) bad) is = let goes = dkms_goes action.Add (λ parts. NamePackage parts key) word rest bad is in (Dkms, goes.0, goes.1)
goes_on Start word rest (ForCommand (command.AddTree path) bad) is =
    let behind = codes "add" ∷ path_text path ∷ [] in (
      Dkms,
      ap after_start (heads word (codes "dkms") rest behind is.1),
      (is.0, ap (λ words. codes "dkms" ∷ words) (tails word (codes "dkms") rest behind is.1), is.2),
    )
goes_on Start word rest (ForCommand (command.Status filter) bad) is = let goes = dkms_goes action.Status (λ parts. NameFilter parts filter) word rest bad is in (Dkms, goes.0, goes.1)
goes_on Start word rest (ForArchive action) is =
    let behind = action ∷ is.0 in (
      Dkms,
      ap after_start (heads word (codes "dkms") rest behind is.1),
      (is.0, ap (λ words. codes "dkms" ∷ words) (tails word (codes "dkms") rest behind is.1), is.2),
    )
goes_on Help word rest line is = absurd (no_head word rest is.0)
goes_on Recover word rest line is = absurd (no_head word rest is.0)
goes_on Dkms word rest (ForCommand command.Help bad) is = absurd (no_head word rest (tails (codes "dkms") (codes "help") (word ∷ rest) [] is.0))
goes_on Dkms word rest (ForCommand command.Recover bad) is = absurd (no_head word rest (tails (codes "dkms") (codes "recover") (word ∷ rest) [] is.0))
goes_on Dkms word rest (ForCommand (command.Add key) bad) is =
    let at = action_is action.Add (λ parts. NamePackage parts key) word rest bad is in
    (Add, add_goes word at, subst (λ first. IsLine (codes "dkms" ∷ first ∷ rest) (ForCommand (command.Add key) bad)) at is)
goes_on Dkms word rest (ForCommand (command.AddTree path) bad) is =
    let at = heads word (codes "add") rest (path_text path ∷ []) (tails (codes "dkms") (codes "dkms") (word ∷ rest) (codes "add" ∷ path_text path ∷ []) is.1) in
    (Add, add_goes word at, subst (λ first. IsLine (codes "dkms" ∷ first ∷ rest) (ForCommand (command.AddTree path) bad)) at is)
goes_on Dkms word rest (ForCommand (command.Status filter) bad) is =
    let at = action_is action.Status (λ parts. NameFilter parts filter) word rest bad is in
    let there = subst (λ first. IsLine (codes "dkms" ∷ first ∷ rest) (ForCommand (command.Status filter) bad)) at is in
    (Parts (nothing action.Status), ap after_dkms at, action_completes action.Status (λ parts. NameFilter parts filter) (command.Status filter) rest bad there (λ parts. status_in parts filter))
goes_on Dkms word rest (ForArchive action) is =
    let both = tails (codes "dkms") (codes "dkms") (word ∷ rest) (action ∷ is.0) is.1 in
    (Archive action, ap after_dkms (heads word action rest is.0 both) ∙ archive_goes action is.2, refl)
goes_on (Archive action) word rest line is = (Archive action, refl, is)
goes_on Add word rest (ForCommand command.Help bad) is = absurd (no_head (codes "add") (word ∷ rest) (tails (codes "dkms") (codes "help") (codes "add" ∷ word ∷ rest) [] is.0))
goes_on Add word rest (ForCommand command.Recover bad) is = absurd (no_head (codes "add") (word ∷ rest) (tails (codes "dkms") (codes "recover") (codes "add" ∷ word ∷ rest) [] is.0))
goes_on Add word rest (ForCommand (command.Add key) bad) is =
    add_part_goes word rest (ForCommand (command.Add key) bad) (action_completes action.Add (λ parts. NamePackage parts key) (command.Add key) (word ∷ rest) bad is (λ parts. add_in parts key))
goes_on Add word rest (ForCommand (command.AddTree path) bad) is =
    let words = tails (codes "add") (codes "add") (word ∷ rest) (path_text path ∷ []) (tails (codes "dkms") (codes "dkms") (codes "add" ∷ word ∷ rest) (codes "add" ∷ path_text path ∷ []) is.1) in
    let at = heads word (path_text path) rest [] words in
    (Tree path, ap (tree_or_part word) (path_into path word is.0 (sym at)), (tails word (path_text path) rest [] words, ap (ForCommand (command.AddTree path)) is.2))
goes_on Add word rest (ForCommand (command.Status filter) bad) is =
    absurd (other_word (codes "add") (codes "status") refl (action_is action.Status (λ parts. NameFilter parts filter) (codes "add") (word ∷ rest) bad is))
goes_on Add word rest (ForArchive action) is =
    let at = heads (codes "add") action (word ∷ rest) is.0 (tails (codes "dkms") (codes "dkms") (codes "add" ∷ word ∷ rest) (action ∷ is.0) is.1) in
    absurd (true≢false (sym is.2 ∙ ap is_archive (sym at)))
goes_on (Tree path) word rest line is = absurd (no_head word rest is.0)
goes_on (Parts seen) word rest line is =
    let more = parts_go_on seen word rest line is in
    (Parts more.0, ap (option_map Parts) more.1, more.2)

-- ---- a word less

rest_as : (a b : Progress) (rest : List Word) (line : Line) → Some a ≡ Some b → Rest b rest line → Rest a rest line
rest_as a b rest line same is = subst (λ state. Rest state rest line) (sym (same_some a b same)) is

help_comes : (word : Word) (rest : List Word) (line : Line) → word ≡ codes "help" → Rest Help rest line → IsLine (word ∷ rest) line
help_comes word rest line at is = subst (IsLine (word ∷ rest)) (sym is.1) ((λ i. at i ∷ is.0 i), refl)

recover_comes : (word : Word) (rest : List Word) (line : Line) → word ≡ codes "recover" → Rest Recover rest line → IsLine (word ∷ rest) line
recover_comes word rest line at is = subst (IsLine (word ∷ rest)) (sym is.1) ((λ i. at i ∷ is.0 i), refl)

action_line : (it : DkmsAction) (IsMeant : List Part → Type 0) (asked : Command) (word : Word) (rest : List Word) (line : Line) → word ≡ action_word it
    → (c : Completes (nothing it) rest line) → IsMeaning it IsMeant asked c.parts line → IsActionLine it IsMeant (codes "dkms" ∷ word ∷ rest) (first_bad c.parts)
action_line it IsMeant asked word rest line at c means = record {
  behind = rest;
  parts = c.parts;
  are = (λ i. codes "dkms" ∷ at i ∷ rest);
  follow = record { are = c.are; good = c.good; behind = means.follow };
  meant = means.meant;
  bad_is = refl;
}

action_comes : (it : DkmsAction) (word : Word) (rest : List Word) (line : Line) → word ≡ action_word it → Completes (nothing it) rest line → IsLine (codes "dkms" ∷ word ∷ rest) line
action_comes action.Add word rest line at c =
    let (key, means) = add_out c.parts line c.line_is in
    subst (IsLine (codes "dkms" ∷ word ∷ rest)) (sym means.line_is) (action_line action.Add (λ parts. NamePackage parts key) (command.Add key) word rest line at c means)
action_comes action.Status word rest line at c =
    let (filter, means) = status_out c.parts line c.line_is in
    subst (IsLine (codes "dkms" ∷ word ∷ rest)) (sym means.line_is) (action_line action.Status (λ parts. NameFilter parts filter) (command.Status filter) word rest line at c means)

archive_comes : (word : Word) (rest : List Word) (line : Line) → is_archive word ≡ true → line ≡ ForArchive word → IsLine (codes "dkms" ∷ word ∷ rest) line
archive_comes word rest line archive is = subst (IsLine (codes "dkms" ∷ word ∷ rest)) (sym is) (rest, refl, archive)

pub comes_from : (state next : Progress) (word : Word) (rest : List Word) (line : Line) → after_word state word ≡ Some next → Rest next rest line → Rest state (word ∷ rest) line
comes_from Start next word rest line e is = by_case (bytes_eq word (codes "help")) (bytes_eq word (codes "recover")) (bytes_eq word (codes "dkms")) refl refl refl e
  where
    by_case : (h r d : Bool) → bytes_eq word (codes "help") ≡ h → bytes_eq word (codes "recover") ≡ r → bytes_eq word (codes "dkms") ≡ d
        → cond h (Some Help) (cond r (Some Recover) (cond d (Some Dkms) None)) ≡ Some next → IsLine (word ∷ rest) line
    by_case true r d eh er ed e = help_comes word rest line ((bytes_decides word (codes "help")).0 eh) (rest_as Help next rest line e is)
    by_case false true d eh er ed e = recover_comes word rest line ((bytes_decides word (codes "recover")).0 er) (rest_as Recover next rest line e is)
    by_case false false true eh er ed e = subst (λ first. IsLine (first ∷ rest) line) (sym ((bytes_decides word (codes "dkms")).0 ed)) (rest_as Dkms next rest line e is)
    by_case false false false eh er ed e = absurd (none_some next e)
comes_from Help next word rest line e is = absurd (none_some next e)
comes_from Recover next word rest line e is = absurd (none_some next e)
comes_from Dkms next word rest line e is = by_action (action_named word) refl e
  where
    by_action : (found : Option DkmsAction) → action_named word ≡ found → action_or_archive word found ≡ Some next → IsLine (codes "dkms" ∷ word ∷ rest) line
    by_action (Some action.Add) en e = subst (λ first. IsLine (codes "dkms" ∷ first ∷ rest) line) (sym (named_from word action.Add en)) (rest_as Add next rest line e is)
    by_action (Some action.Status) en e = action_comes action.Status word rest line (named_from word action.Status en) (rest_as (Parts (nothing action.Status)) next rest line e is)
    by_action None en e =
        let found = found_where (is_archive word) (Some (Archive word)) next e in
        archive_comes word rest line found.0 (rest_as (Archive word) next rest line found.1 is)
comes_from (Archive action) next word rest line e is = rest_as (Archive action) next rest line e is
comes_from Add next word rest line e is = by_path (path_read word) refl e
  where
    tree_comes : (path : Path) → path_read word ≡ Some path → Rest (Tree path) rest line → IsLine (codes "dkms" ∷ codes "add" ∷ word ∷ rest) line
    tree_comes path found is =
        let of = path_from word path found in
        subst (IsLine (codes "dkms" ∷ codes "add" ∷ word ∷ rest)) (sym is.1) (of.named, (λ i. codes "dkms" ∷ codes "add" ∷ sym of.is i ∷ is.0 i), refl)

    by_part : (found : Option Seen) → seen_after (nothing action.Add) word ≡ found → option_map Parts found ≡ Some next → IsLine (codes "dkms" ∷ codes "add" ∷ word ∷ rest) line
    by_part None es e = absurd (none_some next e)
    by_part (Some more) es e = action_comes action.Add (codes "add") (word ∷ rest) line refl (parts_come_from (nothing action.Add) more word rest line es (rest_as (Parts more) next rest line e is))

    by_path : (found : Option Path) → path_read word ≡ found → tree_or_part word found ≡ Some next → IsLine (codes "dkms" ∷ codes "add" ∷ word ∷ rest) line
    by_path None ep e = by_part (seen_after (nothing action.Add) word) refl e
    by_path (Some path) ep e = tree_comes path ep (rest_as (Tree path) next rest line e is)
comes_from (Tree path) next word rest line e is = absurd (none_some next e)
comes_from (Parts seen) next word rest line e is = by_case (seen_after seen word) refl e
  where
    by_case : (found : Option Seen) → seen_after seen word ≡ found → option_map Parts found ≡ Some next → FollowsSeen seen (word ∷ rest) line
    by_case None ef e = absurd (none_some next e)
    by_case (Some more) ef e = parts_come_from seen more word rest line ef (rest_as (Parts more) next rest line e is)

-- ---- no word more

pub ends : (state : Progress) (line : Line) → ended state ≡ Some line → Rest state [] line
ends Start line is = absurd (none_some line is)
ends Help line is = (refl, sym (same_some (ForCommand command.Help None) line is))
ends Recover line is = (refl, sym (same_some (ForCommand command.Recover None) line is))
ends Dkms line is = absurd (none_some line is)
ends (Archive action) line is = sym (same_some (ForArchive action) line is)
ends Add line is = absurd (none_some line is)
ends (Tree path) line is = (refl, sym (same_some (ForCommand (command.AddTree path) None) line is))
ends (Parts seen) line is = parts_end seen line is

no_action : (it : DkmsAction) (IsMeant : List Part → Type 0) (bad : Option Word) → IsActionLine it IsMeant (codes "dkms" ∷ []) bad → ⊥
no_action it IsMeant bad is = no_head (action_word it) is.behind (sym (tails (codes "dkms") (codes "dkms") [] (action_word it ∷ is.behind) is.are))

dkms_alone : (line : Line) → IsLine (codes "dkms" ∷ []) line → ⊥
dkms_alone (ForCommand command.Help bad) is = other_word (codes "dkms") (codes "help") refl (heads (codes "dkms") (codes "help") [] [] is.0)
dkms_alone (ForCommand command.Recover bad) is = other_word (codes "dkms") (codes "recover") refl (heads (codes "dkms") (codes "recover") [] [] is.0)
dkms_alone (ForCommand (command.Add key) bad) is = no_action action.Add (λ parts. NamePackage parts key) bad is
dkms_alone (ForCommand (command.AddTree path) bad) is = no_head (codes "add") (path_text path ∷ []) (sym (tails (codes "dkms") (codes "dkms") [] (codes "add" ∷ path_text path ∷ []) is.1))
dkms_alone (ForCommand (command.Status filter) bad) is = no_action action.Status (λ parts. NameFilter parts filter) bad is
dkms_alone (ForArchive action) is = no_head action is.0 (sym (tails (codes "dkms") (codes "dkms") [] (action ∷ is.0) is.1))

no_words : (line : Line) → IsLine [] line → ⊥
no_words (ForCommand command.Help bad) is = no_head (codes "help") [] (sym is.0)
no_words (ForCommand command.Recover bad) is = no_head (codes "recover") [] (sym is.0)
no_words (ForCommand (command.Add key) bad) is = no_head (codes "dkms") (codes "add" ∷ is.behind) (sym is.are)
no_words (ForCommand (command.AddTree path) bad) is = no_head (codes "dkms") (codes "add" ∷ path_text path ∷ []) (sym is.1)
no_words (ForCommand (command.Status filter) bad) is = no_head (codes "dkms") (codes "status" ∷ is.behind) (sym is.are)
no_words (ForArchive action) is = no_head (codes "dkms") (action ∷ is.0) (sym is.1)

-- behind `dkms add` alone no line ends
add_alone : (line : Line) → IsLine (codes "dkms" ∷ codes "add" ∷ []) line → ⊥
add_alone (ForCommand command.Help bad) is = no_head (codes "add") [] (tails (codes "dkms") (codes "help") (codes "add" ∷ []) [] is.0)
add_alone (ForCommand command.Recover bad) is = no_head (codes "add") [] (tails (codes "dkms") (codes "recover") (codes "add" ∷ []) [] is.0)
add_alone (ForCommand (command.Add key) bad) is =
    let c = action_completes action.Add (λ parts. NamePackage parts key) (command.Add key) [] bad is (λ parts. add_in parts key) in
    none_some (ForCommand (command.Add key) bad) (parts_ended (nothing action.Add) (ForCommand (command.Add key) bad) c)
add_alone (ForCommand (command.AddTree path) bad) is =
    no_head (path_text path) [] (sym (tails (codes "add") (codes "add") [] (path_text path ∷ []) (tails (codes "dkms") (codes "dkms") (codes "add" ∷ []) (codes "add" ∷ path_text path ∷ []) is.1)))
add_alone (ForCommand (command.Status filter) bad) is = other_word (codes "add") (codes "status") refl (action_is action.Status (λ parts. NameFilter parts filter) (codes "add") [] bad is)
add_alone (ForArchive action) is =
    let at = heads (codes "add") action [] is.0 (tails (codes "dkms") (codes "dkms") (codes "add" ∷ []) (action ∷ is.0) is.1) in
    true≢false (sym is.2 ∙ ap is_archive (sym at))

pub ended_so : (state : Progress) (line : Line) → Rest state [] line → ended state ≡ Some line
ended_so Start line is = absurd (no_words line is)
ended_so Help line is = ap Some (sym is.1)
ended_so Recover line is = ap Some (sym is.1)
ended_so Dkms line is = absurd (dkms_alone line is)
ended_so (Archive action) line is = ap Some (sym is)
ended_so Add line is = absurd (add_alone line is)
ended_so (Tree path) line is = ap Some (sym is.1)
ended_so (Parts seen) line is = parts_ended seen line is

-- ---- every state of a walk is on the way to a line

-- what was seen agrees
abbrev pub IsOpen : Progress → Type 0
IsOpen Start = Unit {0}
IsOpen Help = Unit {0}
IsOpen Recover = Unit {0}
IsOpen Dkms = Unit {0}
IsOpen (Archive action) = Unit {0}
IsOpen Add = Unit {0}
IsOpen (Tree path) = Unit {0}
IsOpen (Parts seen) = Fits seen

open_as : (made next : Progress) → IsOpen made → Some made ≡ Some next → IsOpen next
open_as made next agrees e = subst IsOpen (same_some made next e) agrees

part_open : (seen : Seen) (next : Progress) (word : Word) → after_part seen word ≡ Some next → Fits seen → IsOpen next
part_open seen next word e fits = by_case (seen_after seen word) refl e
  where
    by_case : (found : Option Seen) → seen_after seen word ≡ found → option_map Parts found ≡ Some next → IsOpen next
    by_case None ef e = absurd (none_some next e)
    by_case (Some more) ef e = open_as (Parts more) next (fits_after seen more word ef fits) e

pub open_after : (state next : Progress) (word : Word) → after_word state word ≡ Some next → IsOpen state → IsOpen next
open_after Start next word e agrees = by_case (bytes_eq word (codes "help")) (bytes_eq word (codes "recover")) (bytes_eq word (codes "dkms")) e
  where
    by_case : (h r d : Bool) → cond h (Some Help) (cond r (Some Recover) (cond d (Some Dkms) None)) ≡ Some next → IsOpen next
    by_case true r d e = open_as Help next tt e
    by_case false true d e = open_as Recover next tt e
    by_case false false true e = open_as Dkms next tt e
    by_case false false false e = absurd (none_some next e)
open_after Help next word e agrees = absurd (none_some next e)
open_after Recover next word e agrees = absurd (none_some next e)
open_after Dkms next word e agrees = by_action (action_named word) e
  where
    by_action : (found : Option DkmsAction) → action_or_archive word found ≡ Some next → IsOpen next
    by_action (Some action.Add) e = open_as Add next tt e
    by_action (Some action.Status) e = open_as (Parts (nothing action.Status)) next (nothing_fits action.Status) e
    by_action None e = open_as (Archive word) next tt (found_where (is_archive word) (Some (Archive word)) next e).1
open_after (Archive action) next word e agrees = open_as (Archive action) next tt e
open_after Add next word e agrees = by_path (path_read word) e
  where
    by_path : (found : Option Path) → tree_or_part word found ≡ Some next → IsOpen next
    by_path None e = part_open (nothing action.Add) next word e (nothing_fits action.Add)
    by_path (Some path) e = open_as (Tree path) next tt e
open_after (Tree path) next word e agrees = absurd (none_some next e)
open_after (Parts seen) next word e agrees = part_open seen next word e agrees

pub completed : (state : Progress) → IsOpen state → (words : List Word) × (line : Line) × Rest state words line
completed Start agrees = (codes "help" ∷ [], ForCommand command.Help None, (refl, refl))
completed Help agrees = ([], ForCommand command.Help None, (refl, refl))
completed Recover agrees = ([], ForCommand command.Recover None, (refl, refl))
completed Dkms agrees = (codes "mkrpm" ∷ [], ForArchive (codes "mkrpm"), ([], refl, refl))
completed (Archive action) agrees = ([], ForArchive action, refl)
completed Add agrees = (codes "/" ∷ [], ForCommand (command.AddTree []) None, (refl, refl, refl))
completed (Tree path) agrees = ([], ForCommand (command.AddTree path) None, (refl, refl))
completed (Parts seen) agrees = parts_completed seen agrees
