-- The routes of owners, from their nearest starts.
use Rattle.std.proofs.Common.{◌≡◌, ◌<◌, ◌≤◌, ◌+◌, ℕ, ⊎_elim, sym, subst, List, [], ◌∷◌, ◌++◌, map, length, get_or, Option, Some, None, All, Contains, slice_get, arith, not-suc-le-zero}
use Rattle.std.proofs.lemmas.Bool.{cases_lt}
use Rattle.std.proofs.lemmas.List.{map-append}
use Rattle.std.proofs.lemmas.List.Elements.{All-get_or, All-push, All-weaker, Contains-append_left, Contains-push}
use Rattle.std.proofs.lemmas.List.Quantifiers.{all_pairs_push}
use Rattle.shortest_routes.specs.Chains.{IsShortest}
use Rattle.shortest_routes.specs.Routes.{AreShortestRoutes, IsStartOf, RouteText}
use Rattle.shortest_routes.specs.inner.Nearest.{AppendsRoute, AreRoutesTo, HaveSteps, IsNearest, IsRouteBy, IsRouteOf, distance_at}
use Rattle.shortest_routes.specs.inner.Steps.{AreSteps, step_at}
use Rattle.shortest_routes.specs.declared.step.Step.{Step}
use Rattle.shortest_routes.proofs.ChainLemmas.{distance_is, no_shorter}
use Rattle.shortest_routes.proofs.ListLemmas.{by_option, not_both}

-- no owner was looked at
pub routes_begun : (steps : List (Option Step)) (nearest : List (Option ℕ)) (routes : List RouteText) → routes ≡ [] → AreRoutesTo steps nearest 0 routes
routes_begun steps nearest routes none = subst (λ z. AreRoutesTo steps nearest 0 z) (sym none) (record {
  ascend = λ i j d low within. absurd (not-suc-le-zero within);
  each = λ k d within. absurd (not-suc-le-zero within);
  all = λ owner start low e. absurd (not-suc-le-zero low);
})

module _ (steps : List (Option Step)) (nearest : List (Option ℕ)) (i : ℕ) (old new : List RouteText) (w : AreRoutesTo steps nearest i old) where
  wider : All (IsRouteOf steps nearest (i + 1)) old
  wider = All-weaker (IsRouteOf steps nearest i) (IsRouteOf steps nearest (i + 1))
      (λ r h. let below : r.owner < i = h.below in let more : r.owner < i + 1 = omega arith in record { below = more; start = h.start; is_start = h.is_start; is_route = h.is_route }) old w.each

  -- the owner has no start
  without : get_or nearest i None ≡ None → new ≡ old → AreRoutesTo steps nearest (i + 1) new
  without none same = subst (λ z. AreRoutesTo steps nearest (i + 1) z) (sym same) (record {
    ascend = w.ascend;
    each = wider;
    all = λ owner start low e. ⊎_elim
        (λ lower. w.all owner start lower e)
        (λ upper. let is : owner ≡ i = omega arith in not_both (get_or nearest owner None) start (subst (λ z. get_or nearest z None ≡ None) (sym is) none) e)
        (cases_lt owner i);
  })

  -- the owner's route was appended
  with_route : (start : ℕ) (nodes : List ℕ) → get_or nearest i None ≡ Some start → IsRouteBy steps start nodes → new ≡ old ++ record { owner = i; nodes = nodes } ∷ [] → AreRoutesTo steps nearest (i + 1) new
  with_route start nodes at is_route grown = subst (λ z. AreRoutesTo steps nearest (i + 1) z) (sym grown) (record {
    ascend = all_pairs_push (λ a b. a.owner < b.owner) old last w.ascend (λ k d low. (All-get_or (IsRouteOf steps nearest i) old k d low w.each).below);
    each = All-push (IsRouteOf steps nearest (i + 1)) old last wider (let below : i < i + 1 = omega arith in record { below = below; start = start; is_start = at; is_route = is_route });
    all = λ owner other low e. subst (λ z. Contains z owner) (sym (map-append (λ (r : RouteText). r.owner) old (last ∷ []))) (⊎_elim
        (λ lower. Contains-append_left (map (λ (r : RouteText). r.owner) old) (i ∷ []) owner (w.all owner other lower e))
        (λ upper. let is : i ≡ owner = omega arith in subst (λ z. Contains (map (λ (r : RouteText). r.owner) old ++ i ∷ []) z) is (Contains-push (map (λ (r : RouteText). r.owner) old) i))
        (cases_lt owner i));
  })
    where
      last : RouteText
      last = record { owner = i; nodes = nodes }

  pub routes_more : (start : Option ℕ) → start ≡ get_or nearest i None → AppendsRoute steps i start old new → AreRoutesTo steps nearest (i + 1) new
  routes_more None at h = without (sym at) h
  routes_more (Some start) at h = with_route start h.0 (sym at) h.1 h.2

module _ (links : List (ℕ × ℕ)) (targets owners starts : List ℕ) (steps : List (Option Step)) (nearest : List (Option ℕ)) (routes : List RouteText)
    (are : AreSteps links targets steps) (size : (node owner : ℕ) → slice_get owners node ≡ Some owner → owner < length nearest)
    (near : (o : ℕ) → IsNearest steps (IsStartOf owners starts o) (get_or nearest o None)) where
  near_at : (o : ℕ) (best : Option ℕ) → get_or nearest o None ≡ best → IsNearest steps (IsStartOf owners starts o) best
  near_at o best e = subst (λ z. IsNearest steps (IsStartOf owners starts o) z) e (near o)

  pub starts_have_steps : HaveSteps steps nearest
  starts_have_steps = λ owner start low e. let h = near_at owner (Some start) e in (h.1.0, h.1.1)

  shortest_of : (r : RouteText) → IsRouteOf steps nearest (length nearest) r → IsShortest links targets (IsStartOf owners starts r.owner) r.nodes
  shortest_of r h =
      let n = near_at r.owner (Some h.start) h.is_start in
      let route = h.is_route links targets are in
      record {
        start = h.start;
        is_start = n.0;
        is_route = route.0;
        is_least = λ other longer is_start is_route.
            let other_step = no_shorter links targets steps are other longer is_route in
            let a : n.1.0.distance ≤ other_step.0.distance = n.1.2 other other_step.0 is_start other_step.1 in
            let b : other_step.0.distance + 1 ≤ length longer = other_step.2 in
            let c : length r.nodes ≡ distance_at steps h.start + 1 = route.1 in
            let d : distance_at steps h.start ≡ n.1.0.distance = distance_is steps h.start n.1.0 n.1.1 in
            omega arith;
      }

  pub routes_made : AreRoutesTo steps nearest (length nearest) routes → AreShortestRoutes links targets owners starts routes
  routes_made w = record {
    ascend = w.ascend;
    shortest = All-weaker (IsRouteOf steps nearest (length nearest)) (λ r. IsShortest links targets (IsStartOf owners starts r.owner) r.nodes) shortest_of routes w.each;
    all = λ owner node nodes is_start is_route.
        let s = no_shorter links targets steps are node nodes is_route in
        by_option (get_or nearest owner None)
        (λ none. not_both (step_at steps node) s.0 (near_at owner None none node is_start) s.1)
        (λ start e. w.all owner start (size node owner is_start.1) e);
  }
