-- A reading of the store gives the store, or its refusal.
use Rattle.std.proofs.Common.{◌≡◌, ℕ, Bool, true, false, cond, ◌&&◌, not, List, [], ◌∷◌, ◌++◌, length, drop, map, Option, Some, None, is_some, Result, Ok, Err, refl, sym, ap, ◌∙◌, subst, append_assoc}
use Rattle.std.specs.Prelude.{filter_map, flat_map, OnOk, IsErrOf}
use Rattle.std.specs.List.{list_any}
use Rattle.std.proofs.lemmas.List.Sums.{fold-append}
use Rattle.std.proofs.lemmas.List.{append-nil}
use Rattle.std.specs.FinMap.{keys}
use Rattle.kb_world.specs.Path.{Path, is_under}
use Rattle.kb_world.specs.Tree.{Tree, node_at, is_dir, IsFormed}
use Rattle.kb_world.specs.TreeLaws.{same_path}
use Rattle.kb_world.specs.Read.{IsRead, Gives, IsAnswer}
use Rattle.kb_world.specs.State.{State, Looks}
use Rattle.kb_world.specs.declared.stop.Stop.{Stop}
use Rattle.kb_world.specs.declared.stop.Stop.TheVariants.{Refused, Fault, NoMemory}
use Rattle.kb_world.specs.declared.world.WorldError.{WorldError}
use Rattle.kb_world.specs.declared.world.WorldError.TheVariants.{Failed}
use Rattle.kb_world.proofs.DamageLaws.{under-split}
use Rattle.kb_world.proofs.CallLaws.{cause_then, unchanged_then}
use Rattle.kb_world.proofs.FormedLaws.{dir_above}
use Rattle.kb_world.specs.Public.{is_private}
use Rattle.kb_world.specs.Roots.{AreApart, is_below}
use Rattle.kb_world.specs.Store.{added_at, added_by}
use Rattle.kb_world.specs.Boxes.{places_at}
use Rattle.kb_world.specs.Damage.{hurt, least, harm_at}
use Rattle.kb_world.specs.declared.roots.Roots.{Roots}
use Rattle.kb_world.specs.declared.refusal.Refusal.{Refusal}
use Rattle.kb_store.specs.Contents.{at_place, build_by, installation_by, chest_by, chest_files, store_of}
use Rattle.kb_store.specs.Notes.{linked, told_build, told_installation, noted, noted_all, no_notes, notes_of, version_above, version_within, version_entries}
use Rattle.kb_store.specs.Read.{store_entries, first_refusal, over, store_refusal, store_unless, read_of, entries_over, paths_met, IsReading, IsWholeReading}
use Rattle.kb_walk.specs.Walking.{walked, LIMITS, met_at}
use Rattle.kb_store.specs.declared.notes.Notes.{Notes}
use Rattle.kb_store.specs.declared.read.Reading.{Reading}
use Rattle.kb_store.specs.declared.store.Chest.{Chest}
use Rattle.kb_store.specs.declared.store.Store.{Store}
use Rattle.kb_walk.specs.declared.walking.Met.{Met}
use Rattle.kb_walk.specs.declared.walking.Walk.{Walk}
use Rattle.kb_store.proofs.FarLaws.{far_harms}
use Rattle.kb_walk.proofs.LimitLaws.{met_all, met_before}
use Rattle.kb_store.proofs.StoreLimitLaws.{over_is}
use Rattle.kb_walk.proofs.MemberLaws.{in_entries}
use Rattle.kb_walk.proofs.OrderLaws.{is_in, in_front, in_more}
use Rattle.kb_store.proofs.NotesOfLists.{noted_all_is}
use Rattle.kb_walk.proofs.WalkLaws.{standing}
use Rattle.kb_store.proofs.ToldByEntries.{told_by_entries, harms_told}
use Rattle.kb_store.proofs.ToldIsThere.{told_builds_held, told_installations_held}
use Rattle.kb_store.proofs.ReadLaws.{unhurt}

-- the paths of entries are the entries
pub paths_of_met : (tree : Tree) (paths : List Path) → paths_met (map (met_at tree) paths) ≡ paths
paths_of_met tree [] = refl
paths_of_met tree (path ∷ paths) = ap (λ rest. path ∷ rest) (paths_of_met tree paths)

-- a whole reading of a store without damage is that store
pub whole_is_store : (roots : Roots) → AreApart roots → (tree : Tree) → hurt roots tree ≡ None → (met : List Met) (notes : Notes) → IsWholeReading roots tree met notes
    → (chests : List Chest) → chests ≡ filter_map (at_place roots (chest_by (chest_files roots tree))) (store_entries roots tree)
    → record { added = notes.added; builds = notes.builds; installed = notes.installed; chests = chests } ≡ store_of roots tree
unfolding store_of
whole_is_store roots apart tree sound met notes is chests chests_are =
    let paths : paths_met met ≡ store_entries roots tree = ap paths_met is.all ∙ paths_of_met tree (store_entries roots tree) in
    let added = is.added ∙ ap (filter_map (added_at roots tree)) paths ∙ sym (told_by_entries roots apart (added_by roots tree) (λ key rest. refl) tree) in
    let builds = is.builds ∙ ap (filter_map (told_build roots tree)) paths ∙ sym (told_by_entries roots apart (build_by (places_at roots tree)) (λ key rest. refl) tree) ∙ told_builds_held roots tree sound in
    let installed = is.installed ∙ ap (filter_map (told_installation roots tree)) paths ∙ sym (told_by_entries roots apart (installation_by (linked roots tree)) (λ key rest. refl) tree)
    ∙ told_installations_held roots tree sound in
    let all_chests = chests_are ∙ sym (told_by_entries roots apart (chest_by (chest_files roots tree)) (λ key rest. refl) tree) in
    λ i. record { added = added i; builds = builds i; installed = installed i; chests = all_chests i }

-- ---- the refusal

-- the damage that the entries tell of is that of the tree
harms_are : (roots : Roots) → AreApart roots → (tree : Tree) → least (flat_map (harm_at roots tree) (store_entries roots tree)) ≡ hurt roots tree
unfolding hurt
harms_are roots apart tree = ap least (sym (harms_told roots apart tree))

-- of a walk that met all
refusal_of_all : (roots : Roots) → AreApart roots → (tree : Tree) (reading : Reading) → IsReading roots tree reading → reading.walk.over ≡ None
    → first_refusal reading.notes.hurt reading.walk.over ≡ store_refusal roots tree
refusal_of_all roots apart tree reading is none =
    let walk_over : (walked LIMITS tree (is_private roots) roots.dkms).over ≡ None = sym (ap (λ (w : Walk). w.over) is.walk) ∙ none in
    let met : reading.walk.met ≡ map (met_at tree) (store_entries roots tree) = ap (λ (w : Walk). w.met) is.walk ∙ met_all LIMITS tree (is_private roots) roots.dkms walk_over in
    let paths : paths_met reading.walk.met ++ entries_over roots tree reading.walk.over ≡ store_entries roots tree =
    ap (λ o. paths_met reading.walk.met ++ entries_over roots tree o) none ∙ append-nil (paths_met reading.walk.met) ∙ ap paths_met met ∙ paths_of_met tree (store_entries roots tree) in
    let harm : reading.notes.hurt ≡ hurt roots tree =
    ap (λ (n : Notes). n.hurt) is.notes ∙ ap (λ p. least (flat_map (harm_at roots tree) p)) paths ∙ harms_are roots apart tree in
    ap (λ h. first_refusal h reading.walk.over) harm ∙ ap (λ (w : Walk). first_refusal (hurt roots tree) w.over) is.walk ∙ ap (first_refusal (hurt roots tree)) (over_is roots tree)

-- of a walk that ended at a limit
refusal_at_limit : (roots : Roots) → AreApart roots → (tree : Tree) (reading : Reading) (far : Path) → IsReading roots tree reading → reading.walk.over ≡ Some far
    → first_refusal reading.notes.hurt reading.walk.over ≡ store_refusal roots tree
refusal_at_limit roots apart tree reading far is found =
    let walk_over : (walked LIMITS tree (is_private roots) roots.dkms).over ≡ Some far = sym (ap (λ (w : Walk). w.over) is.walk) ∙ found in
    let front = met_before LIMITS tree (is_private roots) roots.dkms far walk_over in
    let met : reading.walk.met ≡ map (met_at tree) front.before = ap (λ (w : Walk). w.met) is.walk ∙ front.met in
    let paths : paths_met reading.walk.met ++ entries_over roots tree reading.walk.over ≡ front.before ++ version_entries roots tree far =
    ap (λ o. paths_met reading.walk.met ++ entries_over roots tree o) found ∙ ap (λ p. p ++ version_entries roots tree far) (ap paths_met met ∙ paths_of_met tree front.before) in
    let harm : reading.notes.hurt ≡ least (flat_map (harm_at roots tree) (front.before ++ version_entries roots tree far)) =
    ap (λ (n : Notes). n.hurt) is.notes ∙ ap (λ p. least (flat_map (harm_at roots tree) p)) paths in
    ap (λ o. first_refusal reading.notes.hurt o) found ∙ ap (λ h. first_refusal h (Some far)) harm
    ∙ far_harms roots tree apart front.before far front.behind front.split ∙ ap (first_refusal (hurt roots tree)) (sym walk_over ∙ over_is roots tree)

pub refusal_is : (roots : Roots) → AreApart roots → (tree : Tree) (reading : Reading) → IsReading roots tree reading
    → first_refusal reading.notes.hurt reading.walk.over ≡ store_refusal roots tree
refusal_is roots apart tree reading is = by reading.walk.over refl
  where
    by : (o : Option Path) → reading.walk.over ≡ o → first_refusal reading.notes.hurt reading.walk.over ≡ store_refusal roots tree
    by None e = refusal_of_all roots apart tree reading is e
    by (Some far) e = refusal_at_limit roots apart tree reading far is e

-- ---- the answer

pub answer_refused : (roots : Roots) → AreApart roots → (tree : Tree) (reading : Reading) (why : Refusal) → IsReading roots tree reading
    → first_refusal reading.notes.hurt reading.walk.over ≡ Some why → read_of roots tree ≡ Err why
unfolding read_of
answer_refused roots apart tree reading why is found = ap (λ due. store_unless due (store_of roots tree)) (sym (refusal_is roots apart tree reading is) ∙ found)

pub answer_read : (roots : Roots) → AreApart roots → (tree : Tree) (reading : Reading) (store : Store) → IsReading roots tree reading
    → first_refusal reading.notes.hurt reading.walk.over ≡ None → store ≡ store_of roots tree → read_of roots tree ≡ Ok store
unfolding read_of
answer_read roots apart tree reading store is none same = ap (λ due. store_unless due (store_of roots tree)) (sym (refusal_is roots apart tree reading is) ∙ none) ∙ ap Ok (sym same)

-- no refusal is due where nothing is damaged and no limit passed
unpassed : (harm far : Option Path) → first_refusal harm far ≡ None → far ≡ None
unpassed None None h = refl
unpassed None (Some far) h = absurd (cc)
unpassed (Some path) None h = refl
unpassed (Some path) (Some far) h = absurd (cc)

pub answer_sound : (roots : Roots) → AreApart roots → (tree : Tree) (reading : Reading) → IsReading roots tree reading
    → first_refusal reading.notes.hurt reading.walk.over ≡ None → hurt roots tree ≡ None
answer_sound roots apart tree reading is none = unhurt (hurt roots tree) (over roots tree) (sym (refusal_is roots apart tree reading is) ∙ none)

-- and the reading is of all
pub answer_whole : (roots : Roots) (tree : Tree) (reading : Reading) → IsReading roots tree reading
    → first_refusal reading.notes.hurt reading.walk.over ≡ None → IsWholeReading roots tree reading.walk.met reading.notes
answer_whole roots tree reading is none =
    let open_end : reading.walk.over ≡ None = unpassed reading.notes.hurt reading.walk.over none in
    let walk_over : (walked LIMITS tree (is_private roots) roots.dkms).over ≡ None = sym (ap (λ (w : Walk). w.over) is.walk) ∙ open_end in
    let paths : paths_met reading.walk.met ++ entries_over roots tree reading.walk.over ≡ paths_met reading.walk.met =
    ap (λ o. paths_met reading.walk.met ++ entries_over roots tree o) open_end ∙ append-nil (paths_met reading.walk.met) in
    let notes : reading.notes ≡ notes_of roots tree (paths_met reading.walk.met) = is.notes ∙ ap (notes_of roots tree) paths in
    record {
      all = ap (λ (w : Walk). w.met) is.walk ∙ met_all LIMITS tree (is_private roots) roots.dkms walk_over;
      added = ap (λ (n : Notes). n.added) notes;
      builds = ap (λ (n : Notes). n.builds) notes;
      installed = ap (λ (n : Notes). n.installed) notes;
    }

-- ---- how a reading is put together

-- the names before the last two of a path that lies below a version's directory
pub record IsBelowVersion (directory path : Path) : Type 0 where
  pub name : List ℕ
  pub behind : Path
  pub split : path ≡ directory ++ name ∷ behind

pub version_split : (roots : Roots) (path directory : Path) → version_above roots path ≡ Some directory → IsBelowVersion directory path
version_split roots path directory above = by (is_under path roots.dkms) refl
  where
    within : (names : Path) → path ≡ roots.dkms ++ names → version_within roots names ≡ Some directory → IsBelowVersion directory path
    within [] is e = absurd (cc)
    within (word ∷ []) is e = absurd (cc)
    within (word ∷ version ∷ []) is e = absurd (cc)
    within (word ∷ version ∷ name ∷ behind) is e =
        let same : roots.dkms ++ word ∷ version ∷ [] ≡ directory = cc in
        record { name = name; behind = behind; split = is ∙ sym (append_assoc roots.dkms (word ∷ version ∷ []) (name ∷ behind)) ∙ ap (λ d. d ++ name ∷ behind) same }

    by : (b : Bool) → is_under path roots.dkms ≡ b → IsBelowVersion directory path
    by true e =
        within (drop (length roots.dkms) path) (under-split path roots.dkms e)
        (sym (ap (λ b. cond b (version_within roots (drop (length roots.dkms) path)) None) e) ∙ above)
    by false e = let impossible : None ≡ Some directory = sym (ap (λ b. cond b (version_within roots (drop (length roots.dkms) path)) None) e) ∙ above in absurd (cc)

-- a version's directory is one, where anything stands below it
pub version_is_dir : (roots : Roots) (tree : Tree) (path directory : Path) → IsFormed tree → version_above roots path ≡ Some directory → is_some (node_at tree path) ≡ true
    → is_dir (node_at tree directory) ≡ true
version_is_dir roots tree path directory formed above stands =
    let is = version_split roots path directory above in
    dir_above tree formed directory is.name is.behind (ap (λ p. is_some (node_at tree p)) (sym is.split) ∙ stands)

-- something stands where a walk ended
pub over_stands : (roots : Roots) (tree : Tree) (walk : Walk) (far : Path) → walk ≡ walked LIMITS tree (is_private roots) roots.dkms → walk.over ≡ Some far
    → is_some (node_at tree far) ≡ true
over_stands roots tree walk far is found =
    let front = met_before LIMITS tree (is_private roots) roots.dkms far (sym (ap (λ (w : Walk). w.over) is) ∙ found) in
    let there : is_in far (store_entries roots tree) = subst (is_in far) (sym front.split) (among front.before front.behind) in
    standing tree far ∙ third (not (is_private roots far)) (is_below far roots.dkms) (list_any (same_path far) (keys tree)) (sym (in_entries tree (is_private roots) roots.dkms far) ∙ there)
  where
    among : (before behind : List Path) → is_in far (before ++ far ∷ behind)
    among [] behind = in_front far behind
    among (path ∷ before) behind = in_more far path (before ++ far ∷ behind) (among before behind)

    third : (a b c : Bool) → (a && (b && c)) ≡ true → c ≡ true
    third true true c h = h
    third true false c h = absurd (cc)
    third false b c h = absurd (cc)

-- a call is over with this, since it is with that
pub on_ok : {A E P Q : Type 0} (result : Result A E) → OnOk result P → (P → Q) → OnOk result Q
on_ok (Ok value) p leads = leads p
on_ok (Err error) p leads = tt

-- notes of some paths, and then of others
pub noted_more : (roots : Roots) (tree : Tree) (paths others : List Path) → noted_all roots tree (noted_all roots tree no_notes paths) others ≡ notes_of roots tree (paths ++ others)
noted_more roots tree paths others = sym (fold-append (noted roots tree) no_notes paths others) ∙ noted_all_is roots tree (paths ++ others)

-- an answer of a reader is an answer of a call that reads
pub read_answers : {A : Type 0} (result : Result A Stop) (right : Result A Refusal) → IsRead result right → IsAnswer result right
read_answers (Ok value) right is = is
read_answers (Err (Refused why)) right is = is
read_answers (Err Fault) right is = absurd is
read_answers (Err NoMemory) right is = tt

-- a call that only looked gives what was read of the tree
pub gives_read : {A B : Type 0} (right : Tree → Result A Refusal) (old new : State) (looked : Result B WorldError) (result : Result A Stop)
    → Looks old new looked → ((tree : Tree) → old.tree ≡ Some tree → IsAnswer result (right tree)) → (IsErrOf result Fault → ⊥) → Gives right old new result
gives_read right old new looked result looks answers never = record {
  answers = answers;
  unchanged = looks.unchanged;
  cause = record {
    later = looks.cause.later;
    rose = λ failed. absurd (never failed);
    steady = looks.cause.steady;
    never = λ told is failed. never failed;
  };
}

-- two calls that only looked
pub looks_twice : {A B : Type 0} (old mid new : State) (first : Result A WorldError) (second : Result B WorldError) → Looks old mid first → Looks mid new second → Looks old new second
looks_twice old mid new first second a b = record {
  unchanged = unchanged_then old mid new a.unchanged b.unchanged;
  cause = cause_then Failed old mid new first second a.unchanged.ran_none.lasts.told a.cause b.cause;
}
