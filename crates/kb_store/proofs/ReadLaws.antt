-- What a store that was read is.
use Rattle.std.proofs.Common.{◌≡◌, Option, Some, None, Ok, Err, refl}
use Rattle.kb_world.specs.Path.{Path}
use Rattle.kb_world.specs.Tree.{Tree}
use Rattle.kb_world.specs.Damage.{hurt}
use Rattle.kb_world.specs.declared.roots.Roots.{Roots}
use Rattle.kb_world.specs.declared.refusal.Refusal.{Refusal}
use Rattle.kb_store.specs.Read.{first_refusal, over, store_unless, read_of, store_refusal}
use Rattle.kb_store.specs.Contents.{store_of}
use Rattle.kb_store.specs.declared.store.Store.{Store}

unrefused : (due : Option Refusal) (store told : Store) → store_unless due store ≡ Ok told → due ≡ None
unrefused None store told h = refl
unrefused (Some why) store told h = let impossible : Err why ≡ Ok told = h in cc

-- no refusal is due where nothing is damaged
pub unhurt : (harm far : Option Path) → first_refusal harm far ≡ None → harm ≡ None
unhurt None far h = refl
unhurt (Some path) None h = absurd (cc)
unhurt (Some path) (Some far) h = absurd (cc)

-- a store that can be read has no damaged path
pub read_is_sound : (roots : Roots) (store : Tree) (told : Store) → read_of roots store ≡ Ok told → hurt roots store ≡ None
unfolding read_of
read_is_sound roots store told h = unhurt (hurt roots store) (over roots store) (unrefused (store_refusal roots store) (store_of roots store) told h)
