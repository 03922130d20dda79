-- What the steps of a pass collect, one after another.
use Rattle.std.proofs.Common.{◌≡◌, ℕ, ◌+◌, List, [], ◌++◌, take, Some, sym, ◌∙◌, subst}
use Rattle.std.specs.Prelude.{slice_get, flat_map}
use Rattle.feature_edges.specs.declared.collect.Collected.{Collected}
use Rattle.feature_edges.specs.declared.candidate.Key.{Key}
use Rattle.guppy_packages.specs.Rows.{Text}
use Rattle.guppy_packages.specs.Items.{Item}
use Rattle.guppy_packages.specs.Tables.{PackageTable, Tables}
use Rattle.feature_edges.specs.Warnings.{Warning, of_item, warnings_in}
use Rattle.feature_edges.specs.inner.Adds.{Below}
use Rattle.feature_edges.specs.inner.Collects.{Collects}
use Rattle.feature_edges.specs.inner.Parts.{IsOfItem}
use Rattle.feature_edges.proofs.AddsLemmas.{Adds-start, Adds-turn}
use Rattle.feature_edges.proofs.NodeLemmas.{append-none}
use Rattle.feature_edges.proofs.WarningLemmas.{added-next}

pub nothing : {X : Type 0} (xs : List X) → xs ≡ xs ++ []
nothing xs = sym (append-none xs)

-- before the first iteration of a loop
pub collects-start : (P : ℕ → Key → Type 0) (a : Collected) → Collects (Below 0 P) [] [] a a
collects-start P a = record {
  keys = Adds-start P a.keys.items;
  of_items = nothing (warnings_in a.item_warnings);
  of_names = nothing (warnings_in a.name_warnings);
}

module _ {X : Type 0} (P : ℕ → Key → Type 0) (f : X → List Warning) (xs : List X) (i : ℕ) (x : X) (a b c : Collected) (at : slice_get xs i ≡ Some x) where
  -- one more iteration, over parts that have items, or that list names
  pub items-turn : Collects (Below i P) (flat_map f (take i xs)) [] a b → Collects (P i) (f x) [] b c → Collects (Below (i + 1) P) (flat_map f (take (i + 1) xs)) [] a c
  items-turn before this = record {
    keys = Adds-turn P i a.keys.items b.keys.items c.keys.items before.keys this.keys;
    of_items = added-next f xs i x (warnings_in a.item_warnings) (warnings_in b.item_warnings) (warnings_in c.item_warnings) at before.of_items this.of_items;
    of_names = this.of_names ∙ append-none (warnings_in b.name_warnings) ∙ before.of_names;
  }

  pub names-turn : Collects (Below i P) [] (flat_map f (take i xs)) a b → Collects (P i) [] (f x) b c → Collects (Below (i + 1) P) [] (flat_map f (take (i + 1) xs)) a c
  names-turn before this = record {
    keys = Adds-turn P i a.keys.items b.keys.items c.keys.items before.keys this.keys;
    of_items = this.of_items ∙ append-none (warnings_in b.item_warnings) ∙ before.of_items;
    of_names = added-next f xs i x (warnings_in a.name_warnings) (warnings_in b.name_warnings) (warnings_in c.name_warnings) at before.of_names this.of_names;
  }

-- an item's text read as this item
pub item-read : (t : Tables) (u p : ℕ) (table : PackageTable) (f : Text) (said read : Item) (a b : Collected) → said ≡ read → Collects (IsOfItem t u p f said) (of_item t p table f said) [] a b → Collects (IsOfItem t u p f read) (of_item t p table f read) [] a b
item-read t u p table f said read a b e h = subst (λ z. Collects (IsOfItem t u p f z) (of_item t p table f z) [] a b) e h
