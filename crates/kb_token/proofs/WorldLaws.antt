-- Calls that only look, one after another.
use Rattle.std.proofs.Common.{◌≡◌, ℕ, ◌+◌, ◌≤◌, List, [], ◌∷◌, ◌++◌, map, take, take_all, sym, ap, ◌∙◌, arith}
use Rattle.std.specs.Prelude.{IsTrue, Result}
use Rattle.std.specs.Option.{ForSome}
use Rattle.std.proofs.lemmas.List.{map-append}
use Rattle.kb_world.specs.Path.{Path}
use Rattle.kb_world.specs.Tree.{Tree}
use Rattle.kb_world.specs.State.{State, Looks}
use Rattle.kb_world.specs.declared.roots.Roots.{Roots}
use Rattle.kb_world.specs.declared.world.WorldError.{WorldError}
use Rattle.kb_world.proofs.LookLaws.{Quiet, quiet_then}
use Rattle.kb_token.specs.Sources.{contents_in, content_at, path_of_source, all_sources}
use Rattle.kb_token.specs.declared.sources.Content.{Content}
use Rattle.kb_token.specs.declared.sources.Source.{Source}

-- what stands at the first sources was read
pub record HasRead (old new : State) (roots : Roots) (sources : List Source) (contents : List Content) (count : ℕ) : Type 0 where
  pub quiet : Quiet old new
  pub all : sources ≡ all_sources
  pub read : ForSome old.tree (λ tree. contents ≡ map (contents_in roots tree) (take count sources))

-- one source more
pub read_more : {T : Type 0} (old mid new : State) (result : Result T WorldError) (roots : Roots) (sources : List Source) (contents : List Content) (count : ℕ) (source : Source) (content : Content)
    → HasRead old mid roots sources contents count → take (count + 1) sources ≡ take count sources ++ source ∷ [] → Looks mid new result
    → ForSome mid.tree (λ tree. content ≡ contents_in roots tree source) → HasRead old new roots sources (contents ++ content ∷ []) (count + 1)
read_more old mid new result roots sources contents count source content so_far more looks one = record {
  quiet = quiet_then old mid new result so_far.quiet looks;
  all = so_far.all;
  read = λ tree told.
      ap (λ c. c ++ content ∷ []) (so_far.read tree told) ∙ ap (λ c. map (contents_in roots tree) (take count sources) ++ c ∷ []) (one tree (so_far.quiet.unchanged.tree ∙ told))
      ∙ sym (map-append (contents_in roots tree) (take count sources) (source ∷ [])) ∙ ap (map (contents_in roots tree)) (sym more);
}

pub content_there : (roots : Roots) (tree : Tree) (source : Source) (path : Path) (content : Content) → path ≡ path_of_source roots source → content ≡ content_at tree path → content ≡ contents_in roots tree source
unfolding contents_in
content_there roots tree source path content at is = is ∙ ap (content_at tree) at

-- all sources were read
pub read_all : (old new : State) (roots : Roots) (contents : List Content) (count : ℕ) → HasRead old new roots all_sources contents count → 11 ≤ count
    → ForSome old.tree (λ tree. contents ≡ map (contents_in roots tree) all_sources)
read_all old new roots contents count has le = λ tree told. has.read tree told ∙ ap (map (contents_in roots tree)) (take_all count all_sources le)
