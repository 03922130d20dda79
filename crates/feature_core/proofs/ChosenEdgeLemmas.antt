-- Steps along chosen edges, and chosen pairs.
use Rattle.std.proofs.Common.{◌≡◌, ℕ, Bool, true, false, List, Option, Some, length, get_or, sym, ◌∙◌, ap, subst, arith}
use Rattle.std.specs.Prelude.{◌↔◌, slice_get, filter, Contains}
use Rattle.std.specs.Option.{option_map_or}
use Rattle.std.proofs.lemmas.List.{get_or-map}
use Rattle.std.proofs.lemmas.Option.{slice_get-get_or, slice_get_within, get_or_from_slice_get}
use Rattle.digraphs.specs.declared.digraph.Edge.{Edge}
use Rattle.digraphs.specs.Graph.{sources, targets}
use Rattle.guppy_support.specs.Reaches.{FollowedStep}
use Rattle.guppy_support.proofs.AlongLemmas.{along_weaker}
use Rattle.feature_edges.specs.guppy_packages.declared.direction.DependencyDirection.{DependencyDirection}
use Rattle.feature_edges.specs.guppy_packages.declared.direction.DependencyDirection.TheVariants.{Forward, Reverse}
use Rattle.feature_edges.specs.guppy_packages.PackageSets.{reading_of}
use Rattle.feature_edges.specs.feature_links.declared.edge.EdgeChoice.{EdgeChoice}
use Rattle.feature_edges.specs.feature_links.Facts.{EdgeFacts, base_edge}
use Rattle.feature_edges.specs.Pairs.{PairLeads, ReachAlong}
use Rattle.feature_edges.specs.Choices.{is_chosen, chosen_pairs}
use Rattle.feature_core.specs.Built.{built_edges}
use Rattle.feature_core.specs.inner.ChosenEdges.{is_chosen_at}
use Rattle.feature_core.proofs.PackedLemmas.{built_edge_at, edge_of_facts, value_of_facts}
use Rattle.feature_edges.proofs.PushLemmas.{from_filter, into_filter, from_map, into_map}

-- a chosen edge with its value, from `u` to `v`
record IsChosenAt (which : EdgeChoice) (es : List Edge) (fs : List EdgeFacts) (u v : ℕ) : Type 0 where
  number : ℕ
  edge : Edge
  is_edge : slice_get es number ≡ Some edge
  facts : EdgeFacts
  is_facts : slice_get fs number ≡ Some facts
  chosen : is_chosen which facts ≡ true
  from : edge.from ≡ u
  to : edge.to ≡ v

module _ (which : EdgeChoice) (es : List Edge) (fs : List EdgeFacts) where
  abbrev edges : List (ℕ × ℕ × EdgeFacts)
  edges = built_edges es fs

  pair_edge : (u v : ℕ) → Contains (chosen_pairs which edges) (u, v) → IsChosenAt which es fs u v
  pair_edge u v h =
      let x = from_map (λ e. (e.0, e.1)) (filter (λ e. is_chosen which e.2) edges) (u, v) h in
      let kept = from_filter (λ e. is_chosen which e.2) edges x.0 x.1 in
      let there = kept.0 in
      let is : slice_get edges there.0 ≡ Some x.0 = slice_get-get_or edges there.0 x.0 there.1 ∙ ap Some there.2 in
      let e = edge_of_facts there.0 es fs x.0 is in
      record {
        number = there.0;
        edge = e.0;
        is_edge = e.1;
        facts = x.0.2;
        is_facts = value_of_facts there.0 es fs x.0 is;
        chosen = kept.1;
        from = e.2 ∙ ap (λ p. p.0) x.2;
        to = e.3 ∙ ap (λ p. p.1) x.2;
      }

  edge_pair : (u v : ℕ) → IsChosenAt which es fs u v → Contains (chosen_pairs which edges) (u, v)
  edge_pair u v p =
      let x : ℕ × ℕ × EdgeFacts = (p.edge.from, p.edge.to, p.facts) in
      let is : slice_get edges p.number ≡ Some x = built_edge_at p.number es fs p.edge p.facts p.is_edge p.is_facts in
      let there : Contains edges x = (p.number, slice_get_within edges p.number x is, get_or_from_slice_get edges p.number x x is) in
      let pair : Contains (chosen_pairs which edges) (p.edge.from, p.edge.to) = into_map (λ e. (e.0, e.1)) (filter (λ e. is_chosen which e.2) edges) x (into_filter (λ e. is_chosen which e.2) edges x there p.chosen) in
      subst (λ (w : ℕ). Contains (chosen_pairs which edges) (u, w)) p.to (subst (λ (w : ℕ). Contains (chosen_pairs which edges) (w, p.edge.to)) p.from pair)

  source_at : (k : ℕ) (e : Edge) → slice_get es k ≡ Some e → get_or (sources es) k 0 ≡ e.from
  source_at k e is = get_or-map (λ (x : Edge). x.from) es k e 0 (slice_get_within es k e is) ∙ ap (λ (x : Edge). x.from) (get_or_from_slice_get es k e e is)

  target_at : (k : ℕ) (e : Edge) → slice_get es k ≡ Some e → get_or (targets es) k 0 ≡ e.to
  target_at k e is = get_or-map (λ (x : Edge). x.to) es k e 0 (slice_get_within es k e is) ∙ ap (λ (x : Edge). x.to) (get_or_from_slice_get es k e e is)

  is_followed : (k : ℕ) (f : EdgeFacts) → slice_get fs k ≡ Some f → is_chosen_at which fs k ≡ is_chosen which f
  is_followed k f is = ap (λ (o : Option EdgeFacts). option_map_or (is_chosen which) o false) is

  no_edge : Edge
  no_edge = record { from = 0; to = 0; non_dev = false }

  -- a step over a chosen edge
  step_leads : (direction : DependencyDirection) (u v : ℕ) → length fs ≡ length es → FollowedStep (reading_of direction) es (is_chosen_at which fs) u v → PairLeads (chosen_pairs which edges) direction u v
  step_leads Forward u v same s =
      let e : Edge = get_or es s.edge no_edge in
      let f : EdgeFacts = get_or fs s.edge base_edge in
      let is : slice_get es s.edge ≡ Some e = slice_get-get_or es s.edge no_edge s.within in
      let has_facts : slice_get fs s.edge ≡ Some f = slice_get-get_or fs s.edge base_edge (omega (arith, s.within, same)) in
      edge_pair u v (record { number = s.edge; edge = e; is_edge = is; facts = f; is_facts = has_facts; chosen = sym (is_followed s.edge f has_facts) ∙ s.followed; from = sym (source_at s.edge e is) ∙ s.start; to = sym (target_at s.edge e is) ∙ s.end })
  step_leads Reverse u v same s =
      let e : Edge = get_or es s.edge no_edge in
      let f : EdgeFacts = get_or fs s.edge base_edge in
      let is : slice_get es s.edge ≡ Some e = slice_get-get_or es s.edge no_edge s.within in
      let has_facts : slice_get fs s.edge ≡ Some f = slice_get-get_or fs s.edge base_edge (omega (arith, s.within, same)) in
      edge_pair v u (record { number = s.edge; edge = e; is_edge = is; facts = f; is_facts = has_facts; chosen = sym (is_followed s.edge f has_facts) ∙ s.followed; from = sym (source_at s.edge e is) ∙ s.end; to = sym (target_at s.edge e is) ∙ s.start })

  leads_step : (direction : DependencyDirection) (u v : ℕ) → PairLeads (chosen_pairs which edges) direction u v → FollowedStep (reading_of direction) es (is_chosen_at which fs) u v
  leads_step Forward u v h =
      let p = pair_edge u v h in
      record { edge = p.number; within = slice_get_within es p.number p.edge p.is_edge; followed = is_followed p.number p.facts p.is_facts ∙ p.chosen; start = source_at p.number p.edge p.is_edge ∙ p.from; end = target_at p.number p.edge p.is_edge ∙ p.to }
  leads_step Reverse u v h =
      let p = pair_edge v u h in
      record { edge = p.number; within = slice_get_within es p.number p.edge p.is_edge; followed = is_followed p.number p.facts p.is_facts ∙ p.chosen; start = target_at p.number p.edge p.is_edge ∙ p.to; end = source_at p.number p.edge p.is_edge ∙ p.from }

  -- the reach over followed edges is the reach over chosen pairs
  pub reach_chosen_pairs : (direction : DependencyDirection) (I : ℕ → Bool) (n : ℕ) → length fs ≡ length es
      → ReachAlong (FollowedStep (reading_of direction) es (is_chosen_at which fs)) I n ↔ ReachAlong (PairLeads (chosen_pairs which (built_edges es fs)) direction) I n
  reach_chosen_pairs direction I n same = (
    (λ r. (r.0, r.1, along_weaker (λ u v. step_leads direction u v same) r.2)),
    (λ r. (r.0, r.1, along_weaker (leads_step direction) r.2)),
  )
