-- The walk finds the line, and the place where there is none.
use Rattle.std.proofs.Common.{◌≡◌, ℕ, suc, ◌+◌, ◌<◌, ◌≤◌, Bool, true, false, cond, ◌&&◌, List, [], ◌∷◌, ◌++◌, length, take, drop, Option, Some, None, Result, Ok, Err, nat_lt, refl, sym, ap, ◌∙◌, subst, append_assoc, take-append-drop, take-take, one-add, ltb-true, ltb-false, inl, inr, arith}
use Rattle.std.specs.Option.{option_or}
use Rattle.std.specs.List.{list_all, filter_map}
use Rattle.kb_world.specs.Names.{is_word, is_version, is_kernel, is_arch}
use Rattle.kb_world.specs.declared.refusal.Refusal.{Refusal}
use Rattle.kb_world.specs.declared.refusal.Refusal.TheVariants as refusal
use Rattle.kb_words.specs.declared.command.Command.{Command}
use Rattle.kb_words.specs.declared.command.Command.TheVariants as command
use Rattle.kb_words.specs.declared.progress.Progress.{Progress}
use Rattle.kb_words.specs.declared.progress.Progress.TheVariants.{Start}
use Rattle.kb_words.specs.Words.{Word, Part, Package, BareModule, Module, Version, Kernel, KernelArch, Arch, module_in, version_in, kernel_in, arch_in, if_it_breaks, first_bad, Line, ForCommand, ForArchive, IsLine, CanBegin, IsPlace, IsReadAs, answer_to, names_keep_rules}
use Rattle.kb_words.specs.Reading.{after_word, line_from, known, read_line, reading}
use Rattle.kb_words.proofs.WalkLaws.{line_step, known_step, line_stop, known_stop, line_end, known_end}
use Rattle.kb_words.proofs.PartLaws.{none_some, same_some}
use Rattle.kb_words.proofs.LineLaws.{Rest, goes_on, comes_from, ends, ended_so, IsOpen, open_after, completed}

-- ---- the line

pub line_into : (words : List Word) (state : Progress) (line : Line) → Rest state words line → line_from state words ≡ Some line
line_into [] state line is = line_end state ∙ ended_so state line is
line_into (word ∷ rest) state line is =
    let more = goes_on state word rest line is in
    line_step state more.0 word rest more.1 ∙ line_into rest more.0 line more.2

pub line_out : (words : List Word) (state : Progress) (line : Line) → line_from state words ≡ Some line → Rest state words line
line_out [] state line is = ends state line (sym (line_end state) ∙ is)
line_out (word ∷ rest) state line is = by_case (after_word state word) refl (λ next. line_out rest next line)
  where
    by_case : (found : Option Progress) → after_word state word ≡ found → ((next : Progress) → line_from next rest ≡ Some line → Rest next rest line) → Rest state (word ∷ rest) line
    by_case None e out = absurd (none_some line (sym (line_stop state word rest e) ∙ is))
    by_case (Some next) e out = comes_from state next word rest line e (out next (sym (line_step state next word rest e) ∙ is))

-- ---- the place

abbrev CanGo : Progress → List Word → Type 0
CanGo state first = (more : List Word) × (line : Line) × Rest state (first ++ more) line

known_within : (words : List Word) (state : Progress) → known state words ≤ length words
known_within [] state = let none = known_end state in omega arith
known_within (word ∷ rest) state = by_case (after_word state word) refl (known_within rest)
  where
    by_case : (found : Option Progress) → after_word state word ≡ found → ((next : Progress) → known next rest ≤ length rest) → known state (word ∷ rest) ≤ length (word ∷ rest)
    by_case None e few = let none = known_stop state word rest e in omega arith
    by_case (Some next) e few =
        let one = known_step state next word rest e in
        let fewer = few next in
        omega arith

known_can : (words : List Word) (state : Progress) → IsOpen state → CanGo state (take (known state words) words)
known_can [] state agrees = subst (λ n. CanGo state (take n [])) (sym (known_end state)) (completed state agrees)
known_can (word ∷ rest) state agrees = by_case (after_word state word) refl (known_can rest)
  where
    by_case : (found : Option Progress) → after_word state word ≡ found → ((next : Progress) → IsOpen next → CanGo next (take (known next rest) rest)) → CanGo state (take (known state (word ∷ rest)) (word ∷ rest))
    by_case None e can = subst (λ n. CanGo state (take n (word ∷ rest))) (sym (known_stop state word rest e)) (completed state agrees)
    by_case (Some next) e can =
        let c = can next (open_after state next word e agrees) in
        let more : CanGo state (word ∷ take (known next rest) rest) = (c.0, c.1, comes_from state next word (take (known next rest) rest ++ c.0) c.1 e c.2) in
        subst (λ n. CanGo state (take n (word ∷ rest))) (sym (known_step state next word rest e ∙ one-add (known next rest))) more

known_no_more : (words : List Word) (state : Progress) → known state words < length words → CanGo state (take (suc (known state words)) words) → ⊥
known_no_more [] state less can = omega arith
known_no_more (word ∷ rest) state less can = by_case (after_word state word) refl (known_no_more rest)
  where
    by_case : (found : Option Progress) → after_word state word ≡ found → ((next : Progress) → known next rest < length rest → CanGo next (take (suc (known next rest)) rest) → ⊥) → ⊥
    by_case None e stops =
        let at : CanGo state (word ∷ []) = subst (λ n. CanGo state (take (suc n) (word ∷ rest))) (known_stop state word rest e) can in
        let more = goes_on state word at.0 at.1 at.2 in
        none_some more.0 (sym e ∙ more.1)
    by_case (Some next) e stops =
        let one = known_step state next word rest e in
        let at : CanGo state (word ∷ take (suc (known next rest)) rest) = subst (λ n. CanGo state (take (suc n) (word ∷ rest))) (one ∙ one-add (known next rest)) can in
        let more = goes_on state word (take (suc (known next rest)) rest ++ at.0) at.1 at.2 in
        let same = same_some more.0 next (sym more.1 ∙ e) in
        stops next (omega arith) (at.0, at.1, subst (λ s. Rest s (take (suc (known next rest)) rest ++ at.0) at.1) same more.2)

shorter : (first more : List Word) → CanBegin (first ++ more) → CanBegin first
shorter first more can = (more ++ can.0, can.1, subst (λ words. IsLine words can.1) (append_assoc first more can.0) can.2)

begins_before : (words : List Word) (few many : ℕ) → few ≤ many → CanBegin (take many words) → CanBegin (take few words)
begins_before words few many fewer can =
    subst CanBegin (take-take few many words fewer)
    (shorter (take few (take many words)) (drop few (take many words)) (subst CanBegin (sym (take-append-drop few (take many words))) can))

place_known : (words : List Word) → IsPlace words (known Start words + 1)
place_known words = record {
  longest = known Start words;
  place_is = refl;
  within = known_within words Start;
  begins = known_can words Start tt;
  no_longer = λ n more within can. known_no_more words Start (omega arith) (begins_before words (suc (known Start words)) n (omega arith) can);
}

one_place : (words : List Word) (a b : ℕ) → IsPlace words a → IsPlace words b → a ≡ b
one_place words a b p q = by_case (nat_lt p.longest q.longest) (nat_lt q.longest p.longest) refl refl
  where
    by_case : (s t : Bool) → nat_lt p.longest q.longest ≡ s → nat_lt q.longest p.longest ≡ t → a ≡ b
    by_case true t hs ht = absurd (p.no_longer q.longest (ltb-true p.longest q.longest hs) q.within q.begins)
    by_case false true hs ht = absurd (q.no_longer p.longest (ltb-true q.longest p.longest ht) p.within p.begins)
    by_case false false hs ht =
        let least = ltb-false p.longest q.longest hs in
        let most = ltb-false q.longest p.longest ht in
        let place_of_a = p.place_is in
        let place_of_b = q.place_is in
        omega arith

-- ---- the reading

pub related : (words : List Word) → IsReadAs words (reading words)
related words = by_case (line_from Start words) refl
  where
    by_case : (found : Option Line) → line_from Start words ≡ found → IsReadAs words (read_line (known Start words + 1) found)
    by_case None e = inr (known Start words + 1, ((λ line is. none_some line (sym e ∙ line_into words Start line is)), place_known words), refl)
    by_case (Some line) e = inl (line, line_out words Start line e, refl)

no_line : (words : List Word) → ((line : Line) → IsLine words line → ⊥) → line_from Start words ≡ None
no_line words none = by_case (line_from Start words) refl
  where
    by_case : (found : Option Line) → line_from Start words ≡ found → line_from Start words ≡ None
    by_case None e = e
    by_case (Some line) e = absurd (none line (line_out words Start line e))

pub only : (words : List Word) (answer : Result Command Refusal) → IsReadAs words answer → answer ≡ reading words
only words answer (inl is) = is.2 ∙ sym (ap (read_line (known Start words + 1)) (line_into words Start is.0 is.1))
only words answer (inr is) =
    is.2 ∙ ap (λ n. Err (refusal.Usage n)) (one_place words is.0 (known Start words + 1) is.1.1 (place_known words))
    ∙ sym (ap (read_line (known Start words + 1)) (no_line words is.1.0))

-- ---- the names of what is read keep their rules

neither : (a b : Option Word) → option_or a b ≡ None → (a ≡ None) × (b ≡ None)
neither None b h = (refl, h)
neither (Some x) b h = cc

keeps_rule : (rule : Word → Bool) (name : Word) → if_it_breaks rule name ≡ None → rule name ≡ true
keeps_rule rule name h = by_case (rule name) refl h
  where
    by_case : (b : Bool) → rule name ≡ b → cond b None (Some name) ≡ None → rule name ≡ true
    by_case true e h = e
    by_case false e h = cc

-- the names of each kind keep its rule
record AreGood (parts : List Part) : Type 0 where
  modules : list_all is_word (filter_map module_in parts) ≡ true
  versions : list_all is_version (filter_map version_in parts) ≡ true
  kernels : list_all is_kernel (filter_map kernel_in parts) ≡ true
  arches : list_all is_arch (filter_map arch_in parts) ≡ true

good_names : (parts : List Part) → first_bad parts ≡ None → AreGood parts
good_names [] h = record { modules = refl; versions = refl; kernels = refl; arches = refl }
good_names (Package key ∷ parts) h =
    let here = neither (option_or (if_it_breaks is_word key.module) (if_it_breaks is_version key.version)) (first_bad parts) h in
    let names = neither (if_it_breaks is_word key.module) (if_it_breaks is_version key.version) here.0 in
    let rest = good_names parts here.1 in
    record {
      modules = (λ i. keeps_rule is_word key.module names.0 i && rest.modules i);
      versions = (λ i. keeps_rule is_version key.version names.1 i && rest.versions i);
      kernels = rest.kernels;
      arches = rest.arches;
    }
good_names (BareModule name ∷ parts) h =
    let here = neither (if_it_breaks is_word name) (first_bad parts) h in
    let rest = good_names parts here.1 in
    record {
      modules = (λ i. keeps_rule is_word name here.0 i && rest.modules i);
      versions = rest.versions;
      kernels = rest.kernels;
      arches = rest.arches;
    }
good_names (Module name ∷ parts) h =
    let here = neither (if_it_breaks is_word name) (first_bad parts) h in
    let rest = good_names parts here.1 in
    record {
      modules = (λ i. keeps_rule is_word name here.0 i && rest.modules i);
      versions = rest.versions;
      kernels = rest.kernels;
      arches = rest.arches;
    }
good_names (Version name ∷ parts) h =
    let here = neither (if_it_breaks is_version name) (first_bad parts) h in
    let rest = good_names parts here.1 in
    record {
      modules = rest.modules;
      versions = (λ i. keeps_rule is_version name here.0 i && rest.versions i);
      kernels = rest.kernels;
      arches = rest.arches;
    }
good_names (Kernel name ∷ parts) h =
    let here = neither (if_it_breaks is_kernel name) (first_bad parts) h in
    let rest = good_names parts here.1 in
    record {
      modules = rest.modules;
      versions = rest.versions;
      kernels = (λ i. keeps_rule is_kernel name here.0 i && rest.kernels i);
      arches = rest.arches;
    }
good_names (KernelArch spot ∷ parts) h =
    let here = neither (option_or (if_it_breaks is_kernel spot.kernel) (if_it_breaks is_arch spot.arch)) (first_bad parts) h in
    let names = neither (if_it_breaks is_kernel spot.kernel) (if_it_breaks is_arch spot.arch) here.0 in
    let rest = good_names parts here.1 in
    record {
      modules = rest.modules;
      versions = rest.versions;
      kernels = (λ i. keeps_rule is_kernel spot.kernel names.0 i && rest.kernels i);
      arches = (λ i. keeps_rule is_arch spot.arch names.1 i && rest.arches i);
    }
good_names (Arch name ∷ parts) h =
    let here = neither (if_it_breaks is_arch name) (first_bad parts) h in
    let rest = good_names parts here.1 in
    record {
      modules = rest.modules;
      versions = rest.versions;
      kernels = rest.kernels;
      arches = (λ i. keeps_rule is_arch name here.0 i && rest.arches i);
    }

alone : (a b : Bool) → (a && true) ≡ true → (b && true) ≡ true → (a && b) ≡ true
alone true true p q = refl
alone true false p q = q
alone false b p q = p

keeps : (words : List Word) (it : Command) → IsLine words (ForCommand it None) → names_keep_rules it ≡ true
keeps words command.Help is = refl
keeps words command.Recover is = refl
keeps words (command.Add key) is =
    let good = good_names is.parts (sym is.bad_is) in
    let names = is.meant in
    alone (is_word key.module) (is_version key.version) (sym (ap (list_all is_word) names.module_once) ∙ good.modules) (sym (ap (list_all is_version) names.version_once) ∙ good.versions)
keeps words (command.AddTree path) is = is.0
keeps words (command.Status filter) is =
    let good = good_names is.parts (sym is.bad_is) in
    let names = is.meant in
    (λ i. (sym (ap (list_all is_word) names.module_at_most_once) ∙ good.modules) i && (sym (ap (list_all is_version) names.version_at_most_once) ∙ good.versions) i
    && (ap (list_all is_kernel) names.kernels ∙ good.kernels) i && (ap (list_all is_arch) names.arches ∙ good.arches) i)

pub named : (words : List Word) (it : Command) → reading words ≡ Ok it → names_keep_rules it ≡ true
named words it is = by_case (line_from Start words) refl is
  where
    by_line : (line : Line) → IsLine words line → answer_to line ≡ Ok it → names_keep_rules it ≡ true
    by_line (ForCommand other None) line e = let same : other ≡ it = cc in ap names_keep_rules (sym same) ∙ keeps words other line
    by_line (ForCommand other (Some name)) line e = cc
    by_line (ForArchive action) line e = cc

    by_case : (found : Option Line) → line_from Start words ≡ found → read_line (known Start words + 1) found ≡ Ok it → names_keep_rules it ≡ true
    by_case None e is = cc
    by_case (Some line) e is = by_line line (line_out words Start line e) is
