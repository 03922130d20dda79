use Rattle.std.proofs.Common.{◌∷◌, [], ℕ, List, inl, inr, sym, subst, arith}
use Rattle.std.specs.Prelude.{Contains}
use Rattle.std.proofs.lemmas.List.Elements.{Contains-append_left, Contains-push}
use Rattle.guppy_support.specs.Reaches.{FollowedStep}
use Rattle.guppy_support.specs.inner.Search.{GoesOn}
use Rattle.guppy_support.proofs.LinkSteps.{has_within}
use Rattle.guppy_support.proofs.SearchLemmas.{goes_more}
use Rattle.guppy_support.proofs.reached_nodes.search_on.Goals as goal

pub follow-requires-clause-node : goal.follow-requires-clause-node
follow-requires-clause-node g c = c.loop-node.invariant.nodes c.in-Some.node (subst (λ (xs : List ℕ). Contains xs c.in-Some.node) (sym {A = List ℕ} c.in-Some.ensures.items) (Contains-push c.pop.new.self.items c.in-Some.node))

pub loop-node-preserved : goal.loop-node-preserved
loop-node-preserved g c =
    let rest = c.pop.new.self.items in
    let node : ℕ = c.in-Some.node in
    let finds = c.in_ok-follow.ensures in
    let on = c.loop-node.invariant.on in
    record {
      nodes = λ v w. elim (finds.waits v w) [
        | inl x ↦ c.loop-node.invariant.nodes v (subst (λ (xs : List ℕ). Contains xs v) (sym {A = List ℕ} c.in-Some.ensures.items) (Contains-append_left rest (node ∷ []) v x))
        | inr t ↦ omega (arith, has_within c.follow.new.found v t, finds.size, on.size, c.requires.size)
      ];
      on =
          goes_more c.args.found.now c.loop-node.found c.follow.new.found c.args.waiting.now.items rest c.follow.new.waiting.items node
          (subst (GoesOn (FollowedStep c.args.reading c.args.digraph.now.edges (g.F.EdgeFilter.is_followed c.args.filter.now)) c.args.found.now c.args.waiting.now.items c.loop-node.found) c.in-Some.ensures.items on) finds;
    }
