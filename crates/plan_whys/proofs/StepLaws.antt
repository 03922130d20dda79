-- The last step of a why, and what the reasons of its steps name.
use Rattle.std.proofs.Common.{◌≡◌, ◌∙◌, ℕ, ◌+◌, Bool, true, false, List, Option, Some, None, map, take, refl, ap, sym, subst, arith}
use Rattle.std.specs.Prelude.{Contains, IfSome, IsTrue, nat_lt, slice_get, if◌then◌else◌}
use Rattle.std.specs.List.{AllZip}
use Rattle.std.proofs.lemmas.Bool.{le-ltb}
use Rattle.cargo_workspaces.specs.Workspaces.{WorkspaceText}
use Rattle.guppy_packages.specs.declared.direction.DependencyDirection.TheVariants.{Forward}
use Rattle.feature_core.specs.Nodes.{node_places}
use Rattle.feature_core.specs.Offers.{content_of}
use Rattle.feature_labels.specs.Names.{LabelName}
use Rattle.cargo_plans.specs.plan_rows.Steps.{SettingsText, side_base}
use Rattle.cargo_plans.specs.plan_rows.declared.side.Side.{Side}
use Rattle.cargo_plans.specs.plan_rows.declared.side.Side.TheVariants.{Target, Host}
use Rattle.cargo_plans.specs.plan_starts.PackageVisits.{PairVisit}
use Rattle.plan_starts.specs.step_visits.Visits.{is_start, node_at}
use Rattle.plan_starts.proofs.Places.{node_back_at}
use Rattle.walk_engine.specs.Explanations.{IsExplanation, IsReason, nodes_of}
use Rattle.walk_engine.specs.Laws.{every}
use Rattle.walk_engine.specs.Walks.{Content, Way, has_gate, is_in}
use Rattle.walk_engine.specs.declared.walks.Half.{Half}
use Rattle.walk_engine.specs.declared.walks.Step.{Step}
use Rattle.walk_engine.specs.declared.walks.StepReason.{StepReason}
use Rattle.walk_engine.specs.declared.walks.StepReason.TheVariants.{Initial, Edge, Offer}
use Rattle.plan_whys.specs.Steps.{SpotText, ReasonText, WhyText, AreBacked, AreStepsOf, EndsAt, IsAt, IsBacked, IsReasonOf, IsStepOf, spot_at}
use Rattle.plan_whys.specs.Steps.ReasonText.{selected, from}
use Rattle.plan_whys.specs.Whys.{Explains}
use Rattle.plan_whys.proofs.SpotLemmas.{spot_if}
use Rattle.plan_whys.proofs.StepLists.{earlier_at, zip_at, zip_last}

-- a node has one place
one_place : (o : Option (ℕ × LabelName)) (k l : ℕ) (x y : LabelName) → o ≡ Some (k, x) → o ≡ Some (l, y) → ◌≡◌ {A = ℕ × LabelName} (k, x) (l, y)
one_place o k l x y a b = cc

-- a node is at one spot
one_spot : (on : PairVisit) (n : ℕ) (a b : SpotText) → IsAt on n a → IsAt on n b → a ≡ b
one_spot on n a b (k, x, at, is) (l, y, too, same) =
    is ∙ ap (λ z. spot_at on.count z.0 z.1) (one_place (slice_get (node_places on.visit.tables) n) k l x y at too) ∙ sym same

one_way : (o : Option Way) (w v : Way) → o ≡ Some w → o ≡ Some v → w ≡ v
one_way o w v a b = cc

backed_by : (on : PairVisit) (c : Content) (I : ℕ → Bool) (A : ℕ → Half → Bool) (before : List ℕ) (n : ℕ) (reason : StepReason) (told : ReasonText) (spots : List SpotText)
    → ((m : ℕ) (s : SpotText) → IsTrue (is_in before m) → IsAt on m s → Contains spots s) → IsReason c I A before n reason → IsReasonOf on c reason told → IsBacked spots told
backed_by on c I A before n Initial selected spots earlier is shown = tt
backed_by on c I A before n Initial (from start gate) spots earlier is shown = absurd shown
backed_by on c I A before n (Edge e) selected spots earlier is shown = absurd shown
backed_by on c I A before n (Edge e) (from start gate) spots earlier (w, way, asked, far, listed) (v, too, at, none) =
    let same : w ≡ v = one_way (slice_get c.ways e) w v way too in
    (earlier v.start start (subst (λ (z : Way). IsTrue (is_in before z.start)) same listed) at, subst (λ (g : Option SpotText). IfSome g (Contains spots)) (sym none) tt)
backed_by on c I A before n (Offer e h) selected spots earlier is shown = absurd shown
backed_by on c I A before n (Offer e h) (from start None) spots earlier (w, way, half, accepted, far, listed, gated) (v, too, at, none) =
    let same : w ≡ v = one_way (slice_get c.ways e) w v way too in
    (earlier v.start start (subst (λ (z : Way). IsTrue (is_in before z.start)) same listed) at, tt)
backed_by on c I A before n (Offer e h) (from start (Some gate)) spots earlier (w, way, half, accepted, far, listed, gated) (v, too, at, waiting) =
    let same : w ≡ v = one_way (slice_get c.ways e) w v way too in
    let gate_listed : IsTrue (is_in before v.gate) = subst (λ (z : Way). IsTrue (has_gate z.ask h) → IsTrue (is_in before z.gate)) same gated waiting.0 in
    (earlier v.start start (subst (λ (z : Way). IsTrue (is_in before z.start)) same listed) at, earlier v.gate gate gate_listed waiting.1)

-- the reasons of an explanation name spots of earlier steps
pub steps_backed : (on : PairVisit) (c : Content) (I : ℕ → Bool) (steps : List Step) (whys : List WhyText) → IsExplanation c I every steps → AreStepsOf on c steps whys → AreBacked whys
steps_backed on c I steps whys explanation shown k why at =
    let here = zip_at (IsStepOf on c) steps whys k why shown at in
    backed_by on c I every (take k (nodes_of steps)) here.0.node here.0.reason why.reason (map (λ y. y.spot) (take k whys))
    (λ m spot listed at. earlier_at (IsStepOf on c) (IsAt on) (λ y. y.spot) steps whys k m spot (one_spot on) (λ step y r. r.0) shown listed at)
    (explanation.reasons k here.0 here.1) here.2.1

pub whys_backed : (w : WorkspaceText) (s : SettingsText) (on : PairVisit) (spot : SpotText) (whys : List WhyText) → Explains w s on spot whys → AreBacked whys
whys_backed w s on spot whys explains =
    let is = explains.is_why in
    steps_backed on (content_of Forward is.built) (is_start on.visit.tables _) is.kept whys is.is_why.explanation is.are_steps

-- the place of a spot is that of its node
at_spot : (on : PairVisit) (spot : SpotText) (n : ℕ) (inside : Bool) → nat_lt spot.number on.count ≡ inside → (if inside then node_at on.visit.tables (side_base on.count spot.side + spot.number) spot.label else None) ≡ Some n → IsAt on n spot
at_spot on spot n false is h = cc
at_spot on spot n true is h = (side_base on.count spot.side + spot.number, spot.label, node_back_at on.visit.tables (side_base on.count spot.side + spot.number) n spot.label h, sym (back spot.side spot.number spot.label is))
  where
    back : (side : Side) (number : ℕ) (label : LabelName) → nat_lt number on.count ≡ true → spot_at on.count (side_base on.count side + number) label ≡ record { side = side; number = number; label = label }
    back Target number label below = ap (λ k. spot_at on.count k label) (omega arith) ∙ spot_if on.count number label true below
    back Host number label below =
        spot_if on.count (on.count + number) label false (le-ltb (on.count + number) on.count (omega arith))
        ∙ ap {B = SpotText} (λ m. record { side = Host; number = m; label = label }) (omega arith)

pub whys_end : (w : WorkspaceText) (s : SettingsText) (on : PairVisit) (spot : SpotText) (whys : List WhyText) → Explains w s on spot whys → EndsAt whys spot
whys_end w s on spot whys explains =
    let is = explains.is_why in
    let c : Content = content_of Forward is.built in
    let last = is.is_why.last in
    let there = zip_last (IsStepOf on c) last.0 last.1 whys (subst (λ l. AllZip (IsStepOf on c) l whys) last.2 is.are_steps) in
    let asked : IsAt on explains.node spot = at_spot on spot explains.node (nat_lt spot.number on.count) refl explains.is_node in
    (there.0, there.1, there.2, one_spot on explains.node there.1.spot spot (subst (λ m. IsAt on m there.1.spot) last.3 there.3.0) asked)
