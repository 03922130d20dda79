-- Two texts of one `build` name the same features.
use Rattle.std.proofs.Common.{◌≡◌, ℕ, inl, inr, Bool, true, false, List, [], ◌∷◌, Option, Some, None, refl, sym, ap, ◌∙◌, subst}
use Rattle.std.specs.Prelude.{◌==◌, ◌||◌, slice_get, Contains, IsTrue}
use Rattle.std.specs.Option.{option_map, option_map_or}
use Rattle.std.proofs.lemmas.Bool.{eqb-true, eq-eqb}
use Rattle.digraphs.specs.Bits.{has}
use Rattle.guppy_packages.specs.Rows.{Text}
use Rattle.guppy_packages.specs.Tables.{Tables}
use Rattle.guppy_packages.specs.declared.direction.DependencyDirection.TheVariants.{Forward}
use Rattle.guppy_packages.specs.declared.row.DependencyKind.{DependencyKind}
use Rattle.feature_labels.specs.Names.{LabelName}
use Rattle.walk_engine.specs.declared.walks.Step.{Step}
use Rattle.walk_engine.specs.Explanations.{nodes_of}
use Rattle.walk_engine.specs.Walks.{is_in}
use Rattle.feature_core.specs.Nodes.{nodes}
use Rattle.feature_core.specs.Offers.{content_of}
use Rattle.feature_core.proofs.AddsLemmas.{Contains-first, Contains-later, Contains-cases, Contains-none}
use Rattle.feature_core.proofs.Answered.{or_cases}
use Rattle.feature_graph.specs.Explained.{AreTold}
use Rattle.feature_graph.specs.Told.{ReasonName, reason_told, step_told}
use Rattle.feature_graph.specs.Values.{Graph}
use Rattle.guppy_features.specs.Platforms.{platform_offers}
use Rattle.guppy_tool.specs.Answers.{Builds}
use Rattle.guppy_tool.specs.Laws.{OneBuildSet, named_in}
use Rattle.guppy_tool.proofs.LawLemmas.{same_initials, least_grows}

abbrev Told : Type 0
Told = (Text × LabelName) × ReasonName

told_first : (o : Option (Text × LabelName)) (r : Option ReasonName) (x : Told) → option_map_or (λ name. option_map (λ why. (name, why)) r) o None ≡ Some x → o ≡ Some x.0
told_first None r x e = absurd (cc)
told_first (Some name) None x e = absurd (cc)
told_first (Some name) (Some why) x e = let same : (name, why) ≡ x = cc in ap (λ (y : Told). Some y.0) same

told_name : (g : Graph) (step : Step) (x : Told) → step_told g step ≡ Some x → slice_get (nodes g.tables) step.node ≡ Some x.0
told_name g step x e = told_first (slice_get (nodes g.tables) step.node) (reason_told g step.reason) x e

or_right : (a b : Bool) → IsTrue b → IsTrue (a || b)
or_right true b h = refl
or_right false b h = h

or_left : (a b : Bool) → IsTrue a → IsTrue (a || b)
or_left true b h = refl
or_left false b h = absurd (cc)

-- A listed node with this name.
record IsListedNode (g : Graph) (steps : List Step) (name : Text × LabelName) : Type 0 where
  node : ℕ
  listed : IsTrue (is_in (nodes_of steps) node)
  named : slice_get (nodes g.tables) node ≡ Some name

node_named : (g : Graph) (steps : List Step) (told : List Told) (name : Text × LabelName) → AreTold g steps told → Contains (named_in told) name → IsListedNode g steps name
node_named g steps [] name are h = absurd (Contains-none name h)
node_named g [] (x ∷ xs) name are h = absurd (cc)
node_named g (s ∷ ss) (x ∷ xs) name are h =
    let first : step_told g s ≡ Some x = cc in
    let rest : AreTold g ss xs = cc in
    elim (Contains-cases x.0 (named_in xs) name h) [
      | inl e ↦ record {
        node = s.node;
        listed = or_left (s.node == s.node) (is_in (nodes_of ss) s.node) (eq-eqb s.node s.node refl);
        named = told_name g s x first ∙ ap Some e;
      }
      | inr later ↦
          let found = node_named g ss xs name rest later in
          record { node = found.node; listed = or_right (s.node == found.node) (is_in (nodes_of ss) found.node) found.listed; named = found.named }
    ]

name_of_node : (g : Graph) (steps : List Step) (told : List Told) (name : Text × LabelName) (n : ℕ) → AreTold g steps told → IsTrue (is_in (nodes_of steps) n) → slice_get (nodes g.tables) n ≡ Some name → Contains (named_in told) name
name_of_node g [] told name n are h at = absurd (cc)
name_of_node g (s ∷ ss) [] name n are h at = absurd (cc)
name_of_node g (s ∷ ss) (x ∷ xs) name n are h at =
    let first : step_told g s ≡ Some x = cc in
    let rest : AreTold g ss xs = cc in
    elim (or_cases (s.node == n) (is_in (nodes_of ss) n) h) [
      | inl here ↦
          let shown : ◌≡◌ (Some x.0) (Some name) = sym (told_name g s x first) ∙ ap (slice_get (nodes g.tables)) (eqb-true s.node n here) ∙ at in
          let same : x.0 ≡ name = cc in
          subst (λ z. Contains (named_in (x ∷ xs)) z) same (Contains-first x.0 (named_in xs))
      | inr later ↦ Contains-later x.0 (named_in xs) name (name_of_node g ss xs name n rest later at)
    ]

named_too : (t : Tables) (kinds : List DependencyKind) (ids : List (Text × LabelName)) (specs : List Text) (a b : Text) (x : Builds t kinds ids specs a) (y : Builds t kinds ids specs b) (name : Text × LabelName) → Contains (named_in x.told) name → Contains (named_in y.told) name
named_too t kinds ids specs a b x y name h =
    let g : Graph = record { tables = t; built = x.built } in
    let p = x.every x.built x.is_built in
    let q = y.every x.built x.is_built in
    let found = node_named g p.steps x.told name p.are_steps h in
    let more = same_initials t x.initials y.initials ids x.given y.given in
    let reached = least_grows (content_of Forward x.built) (has x.initials) (has y.initials) (platform_offers kinds specs g) found.node more ((p.least found.node).0 found.listed) in
    name_of_node g q.steps y.told name found.node q.are_steps ((q.least found.node).1 reached) found.named

pub one_build_set : OneBuildSet
one_build_set t kinds ids specs a b x y name = (named_too t kinds ids specs a b x y name, named_too t kinds ids specs b a y x name)
