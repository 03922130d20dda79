-- The features that filters with a list accept.
use Rattle.std.specs.Prelude.{◌↔◌, ◌⊎◌, Bool, List, IsTrue, Contains}
use Rattle.guppy_packages.specs.Rows.{Text}
use Rattle.feature_labels.specs.Names.{LabelName}
use Rattle.feature_labels.specs.Names.LabelName.{base, named, optional}
use Rattle.feature_graph.specs.Values.{Graph}

-- the base was called once, and the result is true if the base returned true or the feature is listed
abbrev pub AddsToBase : {S : Type 0} → (S → Graph → Text × LabelName → Bool → S → Type 0) → S → Graph → Text × LabelName → Bool → S → Type 0 → Type 0
AddsToBase gives s g name answer t Listed = (own : Bool) × gives s g name own t × (IsTrue answer ↔ (IsTrue own ⊎ Listed))

-- the label is a named feature with one of these names
abbrev pub ListsLabel : List Text → LabelName → Type 0
ListsLabel names base = ⊥
ListsLabel names (named name) = Contains names name
ListsLabel names (optional name) = ⊥

-- the same elements, in any order and with any repeats
abbrev pub SameElements : {X : Type 0} → List X → List X → Type 0
SameElements {X} xs ys = (x : X) → Contains xs x ↔ Contains ys x
