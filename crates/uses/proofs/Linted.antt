-- Features that a linter names, and those that are off.
use Rattle.std.proofs.Common.{◌≡◌, ◌+◌, ◌<◌, ◌++◌, ◌∷◌, [], ℕ, zero, suc, Bool, List, length, take, get_or, refl, sym, subst, inl, inr}
use Rattle.std.specs.Prelude.{◌↔◌, All, IsTrue, IsFalse}
use Rattle.std.proofs.lemmas.List.Elements.{All-more}
use Rattle.std.proofs.lemmas.Option.{none-some}
use Rattle.guppy_features.specs.digraphs.Bits.{has}
use Rattle.guppy_features.specs.guppy_packages.Rows.{Text}
use Rattle.guppy_features.specs.feature_core.Built.{NodeNamed}
use Rattle.guppy_features.specs.feature_labels.Names.{LabelName, id_of}
use Rattle.guppy_features.specs.feature_labels.declared.feature_id.FeatureId.{FeatureId}
use Rattle.guppy_features.specs.walk_engine.declared.walks.Half.{Half}
use Rattle.guppy_features.specs.walk_engine.Walks.{Least}
use Rattle.guppy_features.specs.feature_graph.Told.{Explanation}
use Rattle.guppy_features.specs.feature_graph.Values.{Query}
use Rattle.guppy_features.specs.feature_graph.Visits.{query_content}
use Rattle.uses.specs.Linted.{IsCleared, IsNamed}

pub named_grows : (named : List (Text × LabelName)) (x name : Text × LabelName) → IsNamed named name → IsNamed (named ++ x ∷ []) name
named_grows [] x name (k, is) = absurd (none-some name is)
named_grows (y ∷ named) x name (zero, is) = (0, is)
named_grows (y ∷ named) x name (suc k, is) = let more = named_grows named x name (k, is) in (suc more.0, more.1)

pub named_last : (named : List (Text × LabelName)) (x : Text × LabelName) → IsNamed (named ++ x ∷ []) x
named_last [] x = (0, refl)
named_last (y ∷ named) x = let more = named_last named x in (suc more.0, more.1)

module _ (q : Query) (A : ℕ → Half → Bool) where
  abbrev pub AreCleared : List (Text × LabelName) → List FeatureId → Type 0
  AreCleared named ids = All (λ id. IsCleared q A named (id_of id)) ids

  -- one feature more was looked at, and maybe named
  pub cleared_more : (named more : List (Text × LabelName)) (ids : List FeatureId) (i : ℕ) (d : FeatureId) → i < length ids → ((name : Text × LabelName) → IsNamed named name → IsNamed more name) → AreCleared named (take i ids) → IsCleared q A more (id_of (get_or ids i d)) → AreCleared more (take (i + 1) ids)
  cleared_more named more ids i d within grows before this =
      All-more (λ id. IsCleared q A more (id_of id)) ids i d within
      (λ k e l. elim (before k e l) [ inl there ↦ inl (grows (id_of (get_or (take i ids) k e)) there) | inr off ↦ inr off ])
      this

  -- a feature that the set lacks is off
  pub off : (x : Explanation) (name : Text × LabelName) → x.graph ≡ q.graph → ((n : ℕ) → IsTrue (has x.members n) ↔ Least (query_content q) (has q.initials) A n)
      → ((n : ℕ) → NodeNamed x.graph.tables n name → IsFalse (has x.members n)) → (n : ℕ) → NodeNamed q.graph.tables n name → ¬ Least (query_content q) (has q.initials) A n
  off x name graph least none n at reached =
      clash (has x.members n) ((least n).1 reached) (none n (subst (λ g. NodeNamed g.tables n name) (sym graph) at))
    where
      clash : (b : Bool) → IsTrue b → IsFalse b → ⊥
      clash b t f = cc
