use Rattle.std.proofs.Common.{◌∙◌, ◌<◌, [], ℕ, List, Bool, false, inl, inr, length, ap, sym, subst, arith}
use Rattle.std.specs.Prelude.{Contains}
use Rattle.std.proofs.lemmas.List.{length-replicate}
use Rattle.digraphs.specs.Bits.{has}
use Rattle.digraphs.proofs.SetLemmas.{Contains-members, has-Contains}
use Rattle.guppy_support.specs.Reaches.{FollowedStep}
use Rattle.guppy_support.specs.inner.Search.{IsSearch}
use Rattle.guppy_support.proofs.LinkSteps.{has_within}
use Rattle.guppy_support.proofs.SearchLemmas.{Contains-first, Contains-later, Contains-cases, found_one, search_starts, search_adds, path_found}
use Rattle.guppy_support.proofs.reached_nodes.reach.Goals as goal

pub loop-node-init : goal.loop-node-init
loop-node-init g c =
    let I = c.args.initials.now in
    let nodes = c.into_iter-node-iterator.ensures.into_iter_gives ∙ c.ones-node-items.ensures in
    record {
      size = ap length c.in_ok-found.ensures ∙ length-replicate c.node_count.result false ∙ c.node_count.ensures;
      none = c.new-waiting.ensures.items;
      known =
          subst (λ (f : List Bool). IsSearch (FollowedStep c.args.reading c.args.digraph.now.edges (g.F.EdgeFilter.is_followed c.args.filter.now)) (has I) f []) (sym c.in_ok-found.ensures)
          (search_starts (has I) c.node_count.result);
      initial = λ v h. has-Contains I v (subst (λ (xs : List ℕ). Contains xs v) nodes h);
      passed = λ v h. inr (subst (λ (xs : List ℕ). Contains xs v) (sym nodes) (Contains-members I v h));
    }

pub find-requires : goal.find-requires
find-requires g c =
    let is = c.loop-node.invariant.initial c.in-Some.node (subst (λ (xs : List ℕ). Contains xs c.in-Some.node) (sym {A = List ℕ} c.in-Some.ensures.steps) (Contains-first c.in-Some.node c.next.new.self)) in
    omega (arith, has_within c.args.initials.now c.in-Some.node is, c.requires.initials, c.loop-node.invariant.size)

pub search_on-requires-clause-nodes : goal.search_on-requires-clause-nodes
search_on-requires-clause-nodes g c = λ v w.
    let is = c.loop-node.invariant.initial c.in-Some.node (subst (λ (xs : List ℕ). Contains xs c.in-Some.node) (sym {A = List ℕ} c.in-Some.ensures.steps) (Contains-first c.in-Some.node c.next.new.self)) in
    let inside : c.in-Some.node < length c.loop-node.found = omega (arith, has_within c.args.initials.now c.in-Some.node is, c.requires.initials, c.loop-node.invariant.size) in
    let finds = found_one c.loop-node.found c.find.new.found c.loop-node.waiting.items c.find.new.waiting.items c.in-Some.node inside c.find.ensures.found c.in_ok-find.ensures.waiting in
    elim (finds.waits v w) [
      | inl x ↦ absurd (let y = subst (λ (xs : List ℕ). Contains xs v) c.loop-node.invariant.none x in omega (arith, y.1))
      | inr t ↦ omega (arith, has_within c.find.new.found v t, finds.size, c.loop-node.invariant.size)
    ]

pub loop-node-preserved : goal.loop-node-preserved
loop-node-preserved g c =
    let I = c.args.initials.now in
    let node : ℕ = c.in-Some.node in
    let rest : List ℕ = c.next.new.self in
    let old = c.loop-node.invariant in
    let by = FollowedStep c.args.reading c.args.digraph.now.edges (g.F.EdgeFilter.is_followed c.args.filter.now) in
    let is = old.initial node (subst (λ (xs : List ℕ). Contains xs node) (sym {A = List ℕ} c.in-Some.ensures.steps) (Contains-first node rest)) in
    let inside : c.in-Some.node < length c.loop-node.found = omega (arith, has_within I node is, c.requires.initials, old.size) in
    let finds = found_one c.loop-node.found c.find.new.found c.loop-node.waiting.items c.find.new.waiting.items node inside c.find.ensures.found c.in_ok-find.ensures.waiting in
    let on = c.in_ok-search_on.ensures.on in
    let before = subst (λ (xs : List ℕ). IsSearch by (has I) c.loop-node.found xs) (sym old.none) old.known in
    let after = on.keeps (has I) (search_adds (has I) node c.loop-node.found c.find.new.found c.loop-node.waiting.items c.find.new.waiting.items is before finds) in
    record {
      size = on.size ∙ finds.size ∙ old.size;
      none = c.in_ok-search_on.ensures.none;
      known = subst (λ (xs : List ℕ). IsSearch by (has I) c.search_on.new.found xs) c.in_ok-search_on.ensures.none after;
      initial = λ v h. old.initial v (subst (λ (xs : List ℕ). Contains xs v) (sym {A = List ℕ} c.in-Some.ensures.steps) (Contains-later node rest v h));
      passed = λ v h. elim (old.passed v h) [
        | inl x ↦ inl (on.kept v (finds.kept v x))
        | inr x ↦ elim (Contains-cases node rest v (subst (λ (xs : List ℕ). Contains xs v) c.in-Some.ensures.steps x)) [
          | inl same ↦ inl (on.kept v (finds.finds v same))
          | inr y ↦ inr y
        ]
      ];
    }

pub returns-clause-members : goal.returns-clause-members
returns-clause-members g c = λ n.
    let last = c.loop-node.invariant in (
      last.known.reached n,
      λ r. path_found (has c.args.initials.now) c.loop-node.found last.known r.2 (elim (last.passed r.0 r.1) [
        | inl x ↦ x
        | inr x ↦ absurd (let y = subst (λ (xs : List ℕ). Contains xs r.0) c.in-None.ensures.steps.0 x in omega (arith, y.1))
      ]),
    )
