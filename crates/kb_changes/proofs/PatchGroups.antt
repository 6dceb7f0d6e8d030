-- The groups of the changes of a patch.
use Rattle.std.proofs.Common.{◌≡◌, ◌⊎◌, ℕ, true, List, [], ◌∷◌, ◌++◌, map, filter_map, Option, Some, None, refl, sym, ap, ◌∙◌, inl, inr}
use Rattle.std.proofs.lemmas.List.{append-nil}
use Rattle.std.proofs.lemmas.List.Elements.{filter_map-append}
use Rattle.std.specs.Prelude.{◌&&◌, nat_le}
use Rattle.std.specs.List.{cons_option}
use Rattle.kb_world.specs.Patch.{Patch, dirs_of, emptied_of}
use Rattle.kb_world.specs.Path.{Path}
use Rattle.kb_world.specs.declared.child.Request.{Request}
use Rattle.kb_world.specs.declared.roots.Roots.{Roots}
use Rattle.kb_world.specs.declared.tree.Node.{Node}
use Rattle.kb_changes.specs.Changes.{changes_of, drops_of, numbered_puts, scratches}
use Rattle.kb_changes.specs.Groups.{drop_of, wipe_of, drop_dir_of, dir_of, target_of, staged_of, run_of, drops_in, wipes_in, drop_dirs_in, first_drop_dirs, second_drop_dirs, dirs_in, targets_in, staged_in, runs_in}
use Rattle.kb_changes.specs.Valid.{are_in_order}
use Rattle.kb_changes.specs.declared.change.Change.{Change}
use Rattle.kb_changes.specs.declared.change.Change.TheVariants.{Dir, Put, Drop, DropDir, Wipe, Run}
use Rattle.kb_changes.specs.declared.change.RootName.{RootName}

module _ {X : Type 0} (f : Change → Option X) where
  picked-none : {Y : Type 0} (make : Y → Change) → ((y : Y) → f (make y) ≡ None) → (ys : List Y) → filter_map f (map make ys) ≡ []
  picked-none make none [] = refl
  picked-none make none (y ∷ ys) = ap (λ o. cons_option o (filter_map f (map make ys))) (none y) ∙ picked-none make none ys

  put-none : (roots : Roots) → ((root : RootName) (number : ℕ) (target : Path) → f (Put root number target) ≡ None) → (earlier puts : List (Path × Node)) → filter_map f (numbered_puts roots earlier puts) ≡ []
  put-none roots none earlier [] = refl
  put-none roots none earlier (put ∷ puts) = ap (λ o. cons_option o (filter_map f (numbered_puts roots (earlier ++ put ∷ []) puts))) (none _ _ put.0) ∙ put-none roots none (earlier ++ put ∷ []) puts

picked-all : {X : Type 0} (f : Change → Option X) (make : X → Change) → ((x : X) → f (make x) ≡ Some x) → (xs : List X) → filter_map f (map make xs) ≡ xs
picked-all f make all [] = refl
picked-all f make all (x ∷ xs) = ap (λ o. cons_option o (filter_map f (map make xs))) (all x) ∙ ap (λ l. x ∷ l) (picked-all f make all xs)

put_targets : (roots : Roots) (earlier puts : List (Path × Node)) → filter_map target_of (numbered_puts roots earlier puts) ≡ map (λ (put : Path × Node). put.0) puts
put_targets roots earlier [] = refl
put_targets roots earlier (put ∷ puts) = ap (λ l. put.0 ∷ l) (put_targets roots (earlier ++ put ∷ []) puts)

-- the changes by their groups
abbrev pub grouped : Roots → List Path → List Path → List Path → List (Path × Node) → List Path → List Request → List Change
grouped roots drops wipes dirs puts emptied requests =
    (map Drop drops ++ (map Wipe wipes ++ (map Dir dirs ++ (numbered_puts roots [] puts ++ map DropDir emptied)))) ++ map Run requests

module _ (roots : Roots) (drops wipes dirs : List Path) (puts : List (Path × Node)) (emptied : List Path) (requests : List Request) where
  abbrev changes : List Change
  changes = grouped roots drops wipes dirs puts emptied requests

  split : {X : Type 0} (f : Change → Option X) → filter_map f changes
      ≡ (filter_map f (map Drop drops) ++ (filter_map f (map Wipe wipes) ++ (filter_map f (map Dir dirs) ++ (filter_map f (numbered_puts roots [] puts) ++ filter_map f (map DropDir emptied))))) ++ filter_map f (map Run requests)
  split f =
      filter_map-append f (map Drop drops ++ (map Wipe wipes ++ (map Dir dirs ++ (numbered_puts roots [] puts ++ map DropDir emptied)))) (map Run requests)
      ∙ ap (λ l. l ++ filter_map f (map Run requests)) (
      filter_map-append f (map Drop drops) (map Wipe wipes ++ (map Dir dirs ++ (numbered_puts roots [] puts ++ map DropDir emptied)))
      ∙ ap (λ l. filter_map f (map Drop drops) ++ l) (
      filter_map-append f (map Wipe wipes) (map Dir dirs ++ (numbered_puts roots [] puts ++ map DropDir emptied))
      ∙ ap (λ l. filter_map f (map Wipe wipes) ++ l) (
      filter_map-append f (map Dir dirs) (numbered_puts roots [] puts ++ map DropDir emptied)
      ∙ ap (λ l. filter_map f (map Dir dirs) ++ l) (filter_map-append f (numbered_puts roots [] puts) (map DropDir emptied)))))

  joined : {X : Type 0} (a b c d e g : List X) (a2 b2 c2 d2 e2 g2 : List X) → a ≡ a2 → b ≡ b2 → c ≡ c2 → d ≡ d2 → e ≡ e2 → g ≡ g2 → (a ++ (b ++ (c ++ (d ++ e)))) ++ g ≡ (a2 ++ (b2 ++ (c2 ++ (d2 ++ e2)))) ++ g2
  joined a b c d e g a2 b2 c2 d2 e2 g2 ha hb hc hd he hg = λ i. (ha i ++ (hb i ++ (hc i ++ (hd i ++ he i)))) ++ hg i

  pub drops_are : drops_in changes ≡ drops
  drops_are =
      split drop_of ∙ joined _ _ _ _ _ _ drops [] [] [] [] [] (picked-all drop_of Drop (λ x. refl) drops) (picked-none drop_of Wipe (λ x. refl) wipes) (picked-none drop_of Dir (λ x. refl) dirs)
      (put-none drop_of roots (λ r n t. refl) [] puts) (picked-none drop_of DropDir (λ x. refl) emptied) (picked-none drop_of Run (λ x. refl) requests)
      ∙ append-nil (drops ++ []) ∙ append-nil drops

  pub wipes_are : wipes_in changes ≡ wipes
  wipes_are =
      split wipe_of ∙ joined _ _ _ _ _ _ [] wipes [] [] [] [] (picked-none wipe_of Drop (λ x. refl) drops) (picked-all wipe_of Wipe (λ x. refl) wipes) (picked-none wipe_of Dir (λ x. refl) dirs)
      (put-none wipe_of roots (λ r n t. refl) [] puts) (picked-none wipe_of DropDir (λ x. refl) emptied) (picked-none wipe_of Run (λ x. refl) requests)
      ∙ append-nil (wipes ++ []) ∙ append-nil wipes

  pub dirs_are : dirs_in changes ≡ dirs
  dirs_are =
      split dir_of ∙ joined _ _ _ _ _ _ [] [] dirs [] [] [] (picked-none dir_of Drop (λ x. refl) drops) (picked-none dir_of Wipe (λ x. refl) wipes) (picked-all dir_of Dir (λ x. refl) dirs)
      (put-none dir_of roots (λ r n t. refl) [] puts) (picked-none dir_of DropDir (λ x. refl) emptied) (picked-none dir_of Run (λ x. refl) requests)
      ∙ append-nil (dirs ++ []) ∙ append-nil dirs

  pub targets_are : targets_in changes ≡ map (λ (put : Path × Node). put.0) puts
  targets_are =
      split target_of ∙ joined _ _ _ _ _ _ [] [] [] (map (λ (put : Path × Node). put.0) puts) [] [] (picked-none target_of Drop (λ x. refl) drops) (picked-none target_of Wipe (λ x. refl) wipes) (picked-none target_of Dir (λ x. refl) dirs)
      (put_targets roots [] puts) (picked-none target_of DropDir (λ x. refl) emptied) (picked-none target_of Run (λ x. refl) requests)
      ∙ append-nil (map (λ (put : Path × Node). put.0) puts ++ []) ∙ append-nil (map (λ (put : Path × Node). put.0) puts)

  pub staged_are : staged_in roots changes ≡ filter_map (staged_of roots) (numbered_puts roots [] puts)
  staged_are =
      split (staged_of roots) ∙ joined _ _ _ _ _ _ [] [] [] (filter_map (staged_of roots) (numbered_puts roots [] puts)) [] [] (picked-none (staged_of roots) Drop (λ x. refl) drops) (picked-none (staged_of roots) Wipe (λ x. refl) wipes)
      (picked-none (staged_of roots) Dir (λ x. refl) dirs) refl (picked-none (staged_of roots) DropDir (λ x. refl) emptied) (picked-none (staged_of roots) Run (λ x. refl) requests)
      ∙ append-nil (filter_map (staged_of roots) (numbered_puts roots [] puts) ++ []) ∙ append-nil (filter_map (staged_of roots) (numbered_puts roots [] puts))

  pub drop_dirs_are : drop_dirs_in changes ≡ emptied
  drop_dirs_are =
      split drop_dir_of ∙ joined _ _ _ _ _ _ [] [] [] [] emptied [] (picked-none drop_dir_of Drop (λ x. refl) drops) (picked-none drop_dir_of Wipe (λ x. refl) wipes) (picked-none drop_dir_of Dir (λ x. refl) dirs)
      (put-none drop_dir_of roots (λ r n t. refl) [] puts) (picked-all drop_dir_of DropDir (λ x. refl) emptied) (picked-none drop_dir_of Run (λ x. refl) requests)
      ∙ append-nil emptied

  pub runs_are : runs_in changes ≡ requests
  runs_are =
      split run_of ∙ joined _ _ _ _ _ _ [] [] [] [] [] requests (picked-none run_of Drop (λ x. refl) drops) (picked-none run_of Wipe (λ x. refl) wipes) (picked-none run_of Dir (λ x. refl) dirs)
      (put-none run_of roots (λ r n t. refl) [] puts) (picked-none run_of DropDir (λ x. refl) emptied) (picked-all run_of Run (λ x. refl) requests)

  -- ---- the two groups of DropDirs, one of which is empty

  behind_drops : (ps : List Path) (rest : List Change) → first_drop_dirs ((map Drop ps ++ rest) ++ map Run requests) ≡ first_drop_dirs (rest ++ map Run requests)
  behind_drops [] rest = refl
  behind_drops (p ∷ ps) rest = behind_drops ps rest

  behind_wipes : (ps : List Path) (rest : List Change) → first_drop_dirs ((map Wipe ps ++ rest) ++ map Run requests) ≡ first_drop_dirs (rest ++ map Run requests)
  behind_wipes [] rest = refl
  behind_wipes (p ∷ ps) rest = behind_wipes ps rest

  second_behind_drops : (ps : List Path) (rest : List Change) → second_drop_dirs ((map Drop ps ++ rest) ++ map Run requests) ≡ second_drop_dirs (rest ++ map Run requests)
  second_behind_drops [] rest = refl
  second_behind_drops (p ∷ ps) rest = second_behind_drops ps rest

  second_behind_wipes : (ps : List Path) (rest : List Change) → second_drop_dirs ((map Wipe ps ++ rest) ++ map Run requests) ≡ second_drop_dirs (rest ++ map Run requests)
  second_behind_wipes [] rest = refl
  second_behind_wipes (p ∷ ps) rest = second_behind_wipes ps rest

  -- behind a Dir or a Put all DropDirs are of the second group
  emptied_behind : (ds : List Path) (earlier ps : List (Path × Node)) → drop_dirs_in ((map Dir ds ++ (numbered_puts roots earlier ps ++ map DropDir emptied)) ++ map Run requests) ≡ emptied
  emptied_behind (d ∷ ds) earlier ps = emptied_behind ds earlier ps
  emptied_behind [] earlier (p ∷ ps) = emptied_behind [] (earlier ++ p ∷ []) ps
  emptied_behind [] earlier [] =
      filter_map-append drop_dir_of (map DropDir emptied) (map Run requests)
      ∙ ap (λ l. l ++ filter_map drop_dir_of (map Run requests)) (picked-all drop_dir_of DropDir (λ x. refl) emptied)
      ∙ ap (λ l. emptied ++ l) (picked-none drop_dir_of Run (λ x. refl) requests) ∙ append-nil emptied

  first_all : (ps : List Path) → first_drop_dirs (map DropDir ps ++ map Run requests) ≡ ps
  first_all [] = none requests
    where
      none : (rs : List Request) → first_drop_dirs (map Run rs) ≡ []
      none [] = refl
      none (r ∷ rs) = none rs
  first_all (p ∷ ps) = ap (λ l. p ∷ l) (first_all ps)

  second_none : (ps : List Path) → second_drop_dirs (map DropDir ps ++ map Run requests) ≡ []
  second_none [] = none requests
    where
      none : (rs : List Request) → second_drop_dirs (map Run rs) ≡ []
      none [] = refl
      none (r ∷ rs) = none rs
  second_none (p ∷ ps) = second_none ps

  pub one_group : ((first_drop_dirs changes ≡ []) × (second_drop_dirs changes ≡ emptied)) ⊎ ((first_drop_dirs changes ≡ emptied) × (second_drop_dirs changes ≡ []))
  one_group = by dirs puts (to_dirs, second_to_dirs)
    where
      to_dirs : first_drop_dirs changes ≡ first_drop_dirs ((map Dir dirs ++ (numbered_puts roots [] puts ++ map DropDir emptied)) ++ map Run requests)
      to_dirs = behind_drops drops (map Wipe wipes ++ (map Dir dirs ++ (numbered_puts roots [] puts ++ map DropDir emptied))) ∙ behind_wipes wipes (map Dir dirs ++ (numbered_puts roots [] puts ++ map DropDir emptied))

      second_to_dirs : second_drop_dirs changes ≡ second_drop_dirs ((map Dir dirs ++ (numbered_puts roots [] puts ++ map DropDir emptied)) ++ map Run requests)
      second_to_dirs =
          second_behind_drops drops (map Wipe wipes ++ (map Dir dirs ++ (numbered_puts roots [] puts ++ map DropDir emptied))) ∙ second_behind_wipes wipes (map Dir dirs ++ (numbered_puts roots [] puts ++ map DropDir emptied))

      by : (ds : List Path) (ps : List (Path × Node))
          → (first_drop_dirs changes ≡ first_drop_dirs ((map Dir ds ++ (numbered_puts roots [] ps ++ map DropDir emptied)) ++ map Run requests))
          × (second_drop_dirs changes ≡ second_drop_dirs ((map Dir ds ++ (numbered_puts roots [] ps ++ map DropDir emptied)) ++ map Run requests))
          → ((first_drop_dirs changes ≡ []) × (second_drop_dirs changes ≡ emptied)) ⊎ ((first_drop_dirs changes ≡ emptied) × (second_drop_dirs changes ≡ []))
      by (d ∷ ds) ps (one, two) = inl (one, two ∙ emptied_behind ds [] ps)
      by [] (p ∷ ps) (one, two) = inl (one, two ∙ emptied_behind [] (p ∷ []) ps)
      by [] [] (one, two) = inr (one ∙ first_all emptied, two ∙ second_none emptied)

-- ---- the order of groups

runs_last : (at : ℕ) (requests : List Request) → nat_le at 6 ≡ true → are_in_order at (map Run requests) ≡ true
runs_last at [] h = refl
runs_last at (r ∷ rs) h = ap (λ b. b && are_in_order 6 (map Run rs)) h ∙ runs_last 6 rs refl

module _ (requests : List Request) where
  tidied_five : (paths : List Path) → are_in_order 5 (map DropDir paths ++ map Run requests) ≡ true
  tidied_five [] = runs_last 5 requests refl
  tidied_five (p ∷ paths) = tidied_five paths

  tidied_two : (paths : List Path) → are_in_order 2 (map DropDir paths ++ map Run requests) ≡ true
  tidied_two [] = runs_last 2 requests refl
  tidied_two (p ∷ paths) = tidied_two paths

  tidied_four : (paths : List Path) → are_in_order 4 (map DropDir paths ++ map Run requests) ≡ true
  tidied_four [] = runs_last 4 requests refl
  tidied_four (p ∷ paths) = tidied_five paths

  tidied_three : (paths : List Path) → are_in_order 3 (map DropDir paths ++ map Run requests) ≡ true
  tidied_three [] = runs_last 3 requests refl
  tidied_three (p ∷ paths) = tidied_five paths

  tidied_one : (paths : List Path) → are_in_order 1 (map DropDir paths ++ map Run requests) ≡ true
  tidied_one [] = runs_last 1 requests refl
  tidied_one (p ∷ paths) = tidied_two paths

  tidied_none : (paths : List Path) → are_in_order 0 (map DropDir paths ++ map Run requests) ≡ true
  tidied_none [] = runs_last 0 requests refl
  tidied_none (p ∷ paths) = tidied_two paths

  module _ (roots : Roots) (emptied : List Path) where
    puts_four : (earlier puts : List (Path × Node)) → are_in_order 4 ((numbered_puts roots earlier puts ++ map DropDir emptied) ++ map Run requests) ≡ true
    puts_four earlier [] = tidied_four emptied
    puts_four earlier (put ∷ puts) = puts_four (earlier ++ put ∷ []) puts

    puts_three : (puts : List (Path × Node)) → are_in_order 3 ((numbered_puts roots [] puts ++ map DropDir emptied) ++ map Run requests) ≡ true
    puts_three [] = tidied_three emptied
    puts_three (put ∷ puts) = puts_four (put ∷ []) puts

    puts_one : (puts : List (Path × Node)) → are_in_order 1 ((numbered_puts roots [] puts ++ map DropDir emptied) ++ map Run requests) ≡ true
    puts_one [] = tidied_one emptied
    puts_one (put ∷ puts) = puts_four (put ∷ []) puts

    puts_none : (puts : List (Path × Node)) → are_in_order 0 ((numbered_puts roots [] puts ++ map DropDir emptied) ++ map Run requests) ≡ true
    puts_none [] = tidied_none emptied
    puts_none (put ∷ puts) = puts_four (put ∷ []) puts

    module _ (puts : List (Path × Node)) where
      dirs_three : (dirs : List Path) → are_in_order 3 ((map Dir dirs ++ (numbered_puts roots [] puts ++ map DropDir emptied)) ++ map Run requests) ≡ true
      dirs_three [] = puts_three puts
      dirs_three (d ∷ dirs) = dirs_three dirs

      dirs_one : (dirs : List Path) → are_in_order 1 ((map Dir dirs ++ (numbered_puts roots [] puts ++ map DropDir emptied)) ++ map Run requests) ≡ true
      dirs_one [] = puts_one puts
      dirs_one (d ∷ dirs) = dirs_three dirs

      dirs_none : (dirs : List Path) → are_in_order 0 ((map Dir dirs ++ (numbered_puts roots [] puts ++ map DropDir emptied)) ++ map Run requests) ≡ true
      dirs_none [] = puts_none puts
      dirs_none (d ∷ dirs) = dirs_three dirs

      wipes_one : (dirs wipes : List Path) → are_in_order 1 ((map Wipe wipes ++ (map Dir dirs ++ (numbered_puts roots [] puts ++ map DropDir emptied))) ++ map Run requests) ≡ true
      wipes_one dirs [] = dirs_one dirs
      wipes_one dirs (w ∷ wipes) = wipes_one dirs wipes

      wipes_none : (dirs wipes : List Path) → are_in_order 0 ((map Wipe wipes ++ (map Dir dirs ++ (numbered_puts roots [] puts ++ map DropDir emptied))) ++ map Run requests) ≡ true
      wipes_none dirs [] = dirs_none dirs
      wipes_none dirs (w ∷ wipes) = wipes_one dirs wipes

      pub groups_in_order : (drops wipes dirs : List Path) → are_in_order 0 (grouped roots drops wipes dirs puts emptied requests) ≡ true
      groups_in_order [] wipes dirs = wipes_none dirs wipes
      groups_in_order (d ∷ drops) wipes dirs = groups_in_order drops wipes dirs

-- a patch has no child among its changes
pub no_runs : (roots : Roots) (patch : Patch) → runs_in (changes_of roots patch) ≡ []
unfolding changes_of
no_runs roots patch =
    ap runs_in (sym (append-nil (map Drop (drops_of patch) ++ (map Wipe wiped ++ (map Dir (dirs_of roots patch) ++ (numbered_puts roots [] patch.puts ++ map DropDir (emptied_of roots patch)))))))
    ∙ runs_are roots (drops_of patch) wiped (dirs_of roots patch) patch.puts (emptied_of roots patch) []
  where
    wiped : List Path
    wiped = patch.wipes ++ scratches roots (emptied_of roots patch)
