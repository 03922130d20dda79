-- Routes by steps.
use Rattle.std.proofs.Common.{◌≡◌, ◌∙◌, ◌<◌, ◌≤◌, ◌+◌, ℕ, suc, ap, sym, subst, List, [], ◌∷◌, ◌++◌, length, Option, Some, None, append_assoc, arith}
use Rattle.std.proofs.lemmas.List.{length_push}
use Rattle.std.specs.Prelude.{option_and_then}
use Rattle.std.specs.Option.{option_map_or}
use Rattle.shortest_routes.specs.Chains.{IsRoute}
use Rattle.shortest_routes.specs.inner.Nearest.{distance_at, next_at}
use Rattle.shortest_routes.specs.inner.Searches.{HasStep}
use Rattle.shortest_routes.specs.inner.Steps.{AreSteps, LeadsBy, step_at}
use Rattle.shortest_routes.specs.declared.step.Step.{Step}

-- The route so far, where its next node has a step; or the whole route.
abbrev pub IsBegun : List (ℕ × ℕ) → List ℕ → List (Option Step) → ℕ → List ℕ → Option ℕ → Type 0
IsBegun links targets steps start route None = IsRoute links targets start route × (length route ≡ distance_at steps start + 1)
IsBegun links targets steps start route (Some node) =
    (s : Step) × (step_at steps node ≡ Some s) × (length route + s.distance ≡ distance_at steps start) × ((rest : List ℕ) → IsRoute links targets node rest → IsRoute links targets start (route ++ rest))

-- The number of nodes that are left.
abbrev pub left_at : List (Option Step) → Option ℕ → ℕ
left_at steps None = 0
left_at steps (Some node) = suc (distance_at steps node)

pub distance_is : (steps : List (Option Step)) (node : ℕ) (s : Step) → step_at steps node ≡ Some s → distance_at steps node ≡ s.distance
distance_is steps node s e = ap (λ o. option_map_or (λ (z : Step). z.distance) o 0) e

pub next_is : (steps : List (Option Step)) (node : ℕ) (s : Step) → step_at steps node ≡ Some s → next_at steps node ≡ s.next
next_is steps node s e = ap (λ o. option_and_then (λ (z : Step). z.next) o) e

pub route_begun : (links : List (ℕ × ℕ)) (targets : List ℕ) (steps : List (Option Step)) (start : ℕ) (route : List ℕ) → HasStep steps start → route ≡ [] → IsBegun links targets steps start route (Some start)
route_begun links targets steps start route has none =
    let d : distance_at steps start ≡ has.0.distance = distance_is steps start has.0 has.1 in
    let l : length route ≡ 0 = ap length none in
    (has.0, has.1, omega arith, λ rest r. subst (λ z. IsRoute links targets start (z ++ rest)) (sym none) r)

module _ (links : List (ℕ × ℕ)) (targets : List ℕ) (steps : List (Option Step)) (are : AreSteps links targets steps) (start node : ℕ) (route longer : List ℕ)
    (grown : longer ≡ route ++ node ∷ []) (w : IsBegun links targets steps start route (Some node)) where
  by_next : (next : Option ℕ) → LeadsBy links targets steps node w.0.distance next → IsBegun links targets steps start longer next
  by_next None h =
      let e : length longer ≡ length route + 1 = ap length grown ∙ length_push route node in
      let l : length route + w.0.distance ≡ distance_at steps start = w.2 in
      let z : w.0.distance ≡ 0 = h.1 in
      (subst (λ z. IsRoute links targets start z) (sym grown) (w.3 (node ∷ []) (IsRoute.end node h.0)), omega arith)
  by_next (Some m) h =
      let e : length longer ≡ length route + 1 = ap length grown ∙ length_push route node in
      let l : length route + w.0.distance ≡ distance_at steps start = w.2 in
      let d : w.0.distance ≡ h.1.0.distance + 1 = h.1.2 in
      (h.1.0, h.1.1, omega arith, λ rest r. subst (λ z. IsRoute links targets start z) (sym (ap (λ z. z ++ rest) grown ∙ append_assoc route (node ∷ []) rest)) (w.3 (node ∷ rest) (IsRoute.link node m rest h.0 r)))

  pub route_on : IsBegun links targets steps start longer (next_at steps node)
  route_on = subst (λ z. IsBegun links targets steps start longer z) (sym (next_is steps node w.0 w.1)) (by_next w.0.next (are.lead node w.0 w.1))

  fewer_by : (next : Option ℕ) → LeadsBy links targets steps node w.0.distance next → left_at steps next < left_at steps (Some node)
  fewer_by None h = omega arith
  fewer_by (Some m) h =
      let d : w.0.distance ≡ h.1.0.distance + 1 = h.1.2 in
      let e : distance_at steps m ≡ h.1.0.distance = distance_is steps m h.1.0 h.1.1 in
      let f : distance_at steps node ≡ w.0.distance = distance_is steps node w.0 w.1 in
      omega arith

  pub route_shorter : left_at steps (next_at steps node) < left_at steps (Some node)
  route_shorter = subst (λ z. left_at steps z < left_at steps (Some node)) (sym (next_is steps node w.0 w.1)) (fewer_by w.0.next (are.lead node w.0 w.1))

-- the same, by equations
module _ (links : List (ℕ × ℕ)) (targets : List ℕ) (steps : List (Option Step)) (are : AreSteps links targets steps) (start node : ℕ) (route longer : List ℕ) (at next : Option ℕ)
    (grown : longer ≡ route ++ node ∷ []) (here : at ≡ Some node) (then : next ≡ next_at steps node) (w : IsBegun links targets steps start route at) where
  begun_here : IsBegun links targets steps start route (Some node)
  begun_here = subst (λ o. IsBegun links targets steps start route o) here w

  pub route_next : IsBegun links targets steps start longer next
  route_next = subst (λ o. IsBegun links targets steps start longer o) (sym then) (route_on links targets steps are start node route longer grown begun_here)

  pub route_shorter_at : left_at steps next < left_at steps at
  route_shorter_at =
      subst (λ o. left_at steps next < left_at steps o) (sym here)
      (subst (λ o. left_at steps o < left_at steps (Some node)) (sym then) (route_shorter links targets steps are start node route longer grown begun_here))

-- a node from which a route leads has a step, and no route is shorter than that says
pub no_shorter : (links : List (ℕ × ℕ)) (targets : List ℕ) (steps : List (Option Step)) → AreSteps links targets steps → (node : ℕ) (route : List ℕ) → IsRoute links targets node route
    → (s : Step) × (step_at steps node ≡ Some s) × (s.distance + 1 ≤ length route)
no_shorter links targets steps are node route (IsRoute.end n c) =
    let h = are.ends n c in
    let d : h.0.distance ≤ 0 = h.2 in
    let e : h.0.distance + 1 ≤ length (n ∷ []) = omega arith in
    (h.0, h.1, e)
no_shorter links targets steps are node route (IsRoute.link from to rest c r) =
    let later = no_shorter links targets steps are to rest r in
    let h = are.near from to later.0 c later.1 in
    let d : h.0.distance ≤ later.0.distance + 1 = h.2 in
    let e : later.0.distance + 1 ≤ length rest = later.2 in
    let f : h.0.distance + 1 ≤ length (from ∷ rest) = omega arith in
    (h.0, h.1, f)
