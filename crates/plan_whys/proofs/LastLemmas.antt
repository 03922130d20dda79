-- The step of a node is the last of a why.
use Rattle.std.proofs.Common.{◌≡◌, ◌∙◌, ℕ, zero, suc, ◌+◌, ◌-◌, ◌<◌, Bool, true, false, List, [], ◌∷◌, ◌++◌, Option, Some, None, length, map, refl, ap₂, sym, subst, arith}
use Rattle.std.specs.Prelude.{IsTrue, IsFalse, MatchOption, slice_get, slice_index_or}
use Rattle.std.specs.List.{AllZip}
use Rattle.std.proofs.lemmas.List.{length-append, length-map}
use Rattle.std.proofs.lemmas.Option.{slice_get-get_or, slice_get_within}
use Rattle.cargo_workspaces.specs.Workspaces.{WorkspaceText}
use Rattle.guppy_packages.specs.declared.direction.DependencyDirection.TheVariants.{Forward}
use Rattle.digraphs.specs.Bits.{has}
use Rattle.feature_core.specs.Built.{Built, IsBuilt}
use Rattle.feature_core.specs.Nodes.{node_packages, node_places}
use Rattle.feature_core.specs.Offers.{content_of}
use Rattle.feature_labels.specs.Names.{LabelName}
use Rattle.cargo_plans.specs.plan_rows.Steps.{SettingsText}
use Rattle.cargo_plans.specs.plan_starts.PackageVisits.{PairVisit}
use Rattle.cargo_plans.specs.plan_units.Commands.{on_starts}
use Rattle.plan_starts.specs.step_visits.Visits.{is_start}
use Rattle.walk_checks.specs.Places.{ArePlaces, place_of}
use Rattle.walk_checks.specs.Whys.{IsWhy}
use Rattle.walk_checks.specs.declared.places.StepPlaces.{StepPlaces}
use Rattle.walk_checks.proofs.BackLemmas.{listed_node}
use Rattle.walk_checks.proofs.Bools.{clash, not_true}
use Rattle.walk_engine.specs.Explanations.{IsExplanation, nodes_of}
use Rattle.walk_engine.specs.Laws.{every}
use Rattle.walk_engine.specs.Walks.{Content, EndsAreNodes, Way, has_gate, is_in}
use Rattle.walk_engine.specs.declared.walks.Half.{Half}
use Rattle.walk_engine.specs.declared.walks.Step.{Step}
use Rattle.walk_engine.specs.declared.walks.StepReason.{StepReason}
use Rattle.walk_engine.specs.declared.walks.StepReason.TheVariants.{Initial, Edge, Offer}
use Rattle.plan_whys.specs.LastSteps.{AreLastSteps, last_step}
use Rattle.plan_whys.specs.NodeWhys.{node_of}
use Rattle.plan_whys.specs.StepViews.{last_text, spot_text}
use Rattle.plan_whys.specs.Steps.{SpotText, ReasonText, WhyText, AreStepsOf, IsAt, IsGateOf, IsReasonOf, IsStepOf, spot_at}
use Rattle.plan_whys.specs.Steps.ReasonText.{selected, from}
use Rattle.plan_whys.specs.declared.steps.Spot.{Spot}
use Rattle.plan_whys.specs.declared.steps.WhyStep.{WhyStep}
use Rattle.plan_whys.specs.inner.Lasts.{IsStepAt, IsStepAtNode, LastAt, SpotLast, SpotStep}
use Rattle.plan_whys.specs.inner.Nodes.{AreInside, IsInside, IsReasonInside}
use Rattle.plan_whys.proofs.Listed.{kept_inside, node_answered, sized, what_some}
use Rattle.plan_whys.proofs.Visits.{spot_answered}

-- The step at a node's place.

listed_at : (steps : List Step) (k n : ℕ) → slice_get (nodes_of steps) k ≡ Some n → (step : Step) × (slice_get steps k ≡ Some step) × (step.node ≡ n)
listed_at [] k n at = absurd (cc)
listed_at (step ∷ steps) zero n at = (step, refl, cc)
listed_at (step ∷ steps) (suc k) n at = listed_at steps k n at

place_listed : (count : ℕ) (steps : List Step) (places : StepPlaces) (n k : ℕ) → ArePlaces count steps places → place_of places n ≡ Some k → slice_get (nodes_of steps) k ≡ Some n
place_listed count steps places n k are at =
    what_some (n < count → IsFalse (is_in (nodes_of steps) n)) (λ place. slice_get (nodes_of steps) place ≡ Some n) (place_of places n) k at (are n)

pub place_within : (count : ℕ) (steps : List Step) (places : StepPlaces) (n k : ℕ) → ArePlaces count steps places → place_of places n ≡ Some k → k < length steps
place_within count steps places n k are at =
    let there = listed_at steps k n (place_listed count steps places n k are at) in
    slice_get_within steps k there.0 there.1

pub no_step : (on : PairVisit) (c : Content) (steps : List Step) (places : StepPlaces) (n : ℕ) → ArePlaces c.nodes steps places → place_of places n ≡ None → IsStepAt on c steps n None
no_step on c steps places n are at = subst (λ o. MatchOption o (n < c.nodes → IsFalse (is_in (nodes_of steps) n)) (λ place. slice_get (nodes_of steps) place ≡ Some n)) at (are n)

pub step_shown : (on : PairVisit) (c : Content) (steps : List Step) (places : StepPlaces) (n k : ℕ) (d : Step) (why : WhyText) → ArePlaces c.nodes steps places → place_of places n ≡ Some k
    → IsStepOf on c (slice_index_or steps k d) why → IsStepAt on c steps n (Some why)
step_shown on c steps places n k d why are at is =
    let there = listed_at steps k n (place_listed c.nodes steps places n k are at) in
    let here : slice_get steps k ≡ Some (slice_index_or steps k d) = slice_get-get_or steps k d (slice_get_within steps k there.0 there.1) in
    let same : there.0 ≡ slice_index_or steps k d = one_step (slice_get steps k) there.0 (slice_index_or steps k d) there.1 here in
    (k, slice_index_or steps k d, here, subst (λ (step : Step). step.node ≡ n) same there.2, is)
  where
    one_step : (o : Option Step) (a b : Step) → o ≡ Some a → o ≡ Some b → a ≡ b
    one_step o a b p q = cc

-- Each step by numbers has one by spots.

place_found : {X : Type 0} (xs : List X) (n : ℕ) → n < length xs → (x : X) × (slice_get xs n ≡ Some x)
place_found [] n within = absurd (omega (arith, within))
place_found (x ∷ xs) zero within = (x, refl)
place_found (x ∷ xs) (suc n) within = place_found xs n (omega (arith, within))

module _ (on : PairVisit) (c : Content) where
  abbrev Inside : ℕ → Type 0
  Inside n = n < length (node_packages on.visit.tables)

  at_place : (n : ℕ) (place : ℕ × LabelName) → slice_get (node_places on.visit.tables) n ≡ Some place → (spot : SpotText) × IsAt on n spot
  at_place n (k, label) at = (spot_at on.count k label, (k, label, at, refl))

  spot_found : (n : ℕ) → Inside n → (spot : SpotText) × IsAt on n spot
  spot_found n within =
      let at = place_found (node_places on.visit.tables) n (subst (λ m. n < m) (length-map (node_places on.visit.tables) (λ x. x.0)) within) in
      at_place n at.0 at.1

  gate_found : (w : Way) (h : Half) → (IsTrue (has_gate w.ask h) → Inside w.gate) → (waits : Bool) → has_gate w.ask h ≡ waits → (gate : Option SpotText) × IsGateOf on w h gate
  gate_found w h inside true is = let spot = spot_found w.gate (inside is) in (Some spot.0, (is, spot.1))
  gate_found w h inside false is = (None, is)

  reason_found : (r : StepReason) → IsReasonInside (length (node_packages on.visit.tables)) c r → (reason : ReasonText) × IsReasonOf on c r reason
  reason_found Initial inside = (selected, tt)
  reason_found (Edge e) (w, is, start) = let spot = spot_found w.start start in (from spot.0 None, (w, is, spot.1, refl))
  reason_found (Offer e h) (w, is, start, gate) =
      let spot = spot_found w.start start in
      let waited = gate_found w h gate (has_gate w.ask h) refl in
      (from spot.0 waited.0, (w, is, spot.1, waited.1))

  step_found : (step : Step) → IsInside (length (node_packages on.visit.tables)) c step → (why : WhyText) × IsStepOf on c step why
  step_found step (node, reason) =
      let spot = spot_found step.node node in
      let by = reason_found step.reason reason in
      (record { spot = spot.0; reason = by.0 }, (spot.1, by.1))

  pub steps_found : (before : List Step) (step : Step) (why : WhyText) → AreInside (length (node_packages on.visit.tables)) c (before ++ step ∷ []) → IsStepOf on c step why
      → (whys : List WhyText) × AreStepsOf on c (before ++ step ∷ []) (whys ++ why ∷ [])
  steps_found [] step why inside is = ([], (is, tt))
  steps_found (x ∷ before) step why inside is =
      let first = step_found x (inside 0 x (omega arith)) in
      let rest = steps_found before step why (λ k d within. inside (suc k) d (omega (arith, within))) is in
      (first.0 ∷ rest.0, (first.1, rest.1))

last_at : (whys : List WhyText) (why : WhyText) (k : ℕ) → k ≡ length whys → slice_get (whys ++ why ∷ []) k ≡ Some why
last_at [] why zero is = refl
last_at [] why (suc k) is = absurd (omega (arith, is))
last_at (x ∷ whys) why zero is = absurd (omega (arith, is))
last_at (x ∷ whys) why (suc k) is = last_at whys why k (omega (arith, is))

is_last : (whys : List WhyText) (why : WhyText) → Some why ≡ last_step (Some (whys ++ why ∷ []))
is_last whys why =
    let size : length (whys ++ why ∷ []) ≡ length whys + 1 = length-append whys (why ∷ []) in
    sym (last_at whys why (length (whys ++ why ∷ []) - 1) (omega (arith, size)))

-- each step of an explanation is the last of a why
abbrev pub EndsAWhy : Content → (ℕ → Bool) → List Step → Type 0
EndsAWhy c I steps = (k : ℕ) (step : Step) → slice_get steps k ≡ Some step → (before : List Step) × IsWhy c I every steps step.node (before ++ step ∷ [])

module _ (on : PairVisit) (b : Built) (initials : List Bool) (steps : List Step) (is : IsBuilt on.visit.tables b) (ends : EndsAreNodes (content_of Forward b)) (size : length initials ≡ length (node_packages on.visit.tables))
    (explanation : IsExplanation (content_of Forward b) (has initials) every steps) (listed : (n : ℕ) → has on.visit.members n ≡ is_in (nodes_of steps) n) (whys_end : EndsAWhy (content_of Forward b) (has initials) steps) where
  last_answered : (node : Option ℕ) (last : Option WhyText) → IsStepAtNode on (content_of Forward b) steps node last → LastAt on (has initials) node last
  last_answered None last none = (None, refl, none)
  last_answered (Some n) None none = (
    None,
    listed n ∙ not_true (is_in (nodes_of steps) n) (λ t. clash t (none (listed_node (content_of Forward b) initials every steps n ends (sized on.visit.tables b initials is size) explanation t))),
    refl,
  )
  last_answered (Some n) (Some why) (k, step, at, node, shown) =
      let end = whys_end k step at in
      let kept = end.0 ++ step ∷ [] in
      let inside = kept_inside on.visit.tables b initials every steps kept kept step.node is ends size end.1 refl in
      let whys = steps_found on (content_of Forward b) end.0 step why inside shown in
      let because : IsWhy (content_of Forward b) (has initials) every steps n kept = subst (λ m. IsWhy (content_of Forward b) (has initials) every steps m kept) node end.1 in
      (Some (whys.0 ++ why ∷ []), node_answered on b (has initials) steps kept kept n (whys.0 ++ why ∷ []) is explanation listed because refl whys.1, is_last whys.0 why)

  pub lasts_answered : (spots : List Spot) (lasts : List (Option WhyStep)) → AllZip (SpotStep on (content_of Forward b) steps) spots lasts → AllZip (SpotLast on (has initials)) spots lasts
  lasts_answered [] [] zip = tt
  lasts_answered [] (last ∷ lasts) zip = absurd zip
  lasts_answered (at ∷ spots) [] zip = absurd zip
  lasts_answered (at ∷ spots) (last ∷ lasts) zip = (last_answered (node_of on (spot_text at)) (last_text last) zip.0, lasts_answered spots lasts zip.1)

-- the last steps of the answers, from those of the nodes
pub lasts_by_starts : (w : WorkspaceText) (s : SettingsText) (on : PairVisit) (I : ℕ → Bool) (spots : List Spot) (lasts : List (Option WhyStep)) → ((k : ℕ) → I k ≡ is_start on.visit.tables (on_starts w s) k)
    → AllZip (SpotLast on I) spots lasts → AreLastSteps w s on (map spot_text spots) (map last_text lasts)
lasts_by_starts w s on I [] [] starts zip = record { founds = []; are_found = tt; are_last = refl }
lasts_by_starts w s on I [] (last ∷ lasts) starts zip = absurd zip
lasts_by_starts w s on I (at ∷ spots) [] starts zip = absurd zip
lasts_by_starts w s on I (at ∷ spots) (last ∷ lasts) starts zip =
    let first = zip.0 in
    let rest = lasts_by_starts w s on I spots lasts starts zip.1 in
    record {
      founds = first.0 ∷ rest.founds;
      are_found = (spot_answered w s on I (spot_text at) (node_of on (spot_text at)) first.0 refl starts first.1, rest.are_found);
      are_last = ap₂ (λ x xs. x ∷ xs) first.2 rest.are_last;
    }
