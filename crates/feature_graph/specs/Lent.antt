-- A `&mut` of a visitor or of a filter.
use Rattle.std.specs.Prelude.{◌≡◌, Bool}
use Rattle.std.specs.Borrow.{MutBor}
use Rattle.guppy_packages.specs.Rows.{Text}
use Rattle.feature_labels.specs.Names.{LabelName}
use Rattle.feature_graph.specs.LinkValues.{Link}
use Rattle.feature_graph.specs.Values.{Graph, Query}

-- the reference stays the same, and the visitor behind it makes the step
abbrev pub lent_visit : {V : Type 0} → (V → Query → Link → Bool → V → Type 0) → MutBor V → Query → Link → Bool → MutBor V → Type 0
lent_visit gives s q l answer t = (t.ghost_name ≡ s.ghost_name) × gives s.now q l answer t.now

-- the reference stays the same, and the filter behind it makes the step
abbrev pub lent_accept : {F : Type 0} → (F → Graph → Text × LabelName → Bool → F → Type 0) → MutBor F → Graph → Text × LabelName → Bool → MutBor F → Type 0
lent_accept gives s g name answer t = (t.ghost_name ≡ s.ghost_name) × gives s.now g name answer t.now
