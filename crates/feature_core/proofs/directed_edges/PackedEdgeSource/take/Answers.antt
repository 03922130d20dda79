use Rattle.std.proofs.Common.{◌≡◌, ◌∙◌, ap, sym, subst, Option, Some, None}
use Rattle.std.specs.Prelude.{slice_get, ◌==◌}
use Rattle.walk_engine.specs.declared.walks.Taken.{Taken}
use Rattle.walk_engine.specs.Walks.{starting, told}
use Rattle.feature_core.specs.Built.{built_edges}
use Rattle.feature_core.specs.Ways.{content, Reading}
use Rattle.feature_core.proofs.DirectedLemmas.{take_told, number_below}
use Rattle.feature_core.proofs.directed_edges.PackedEdgeSource.take.Goals as goal

pub returns-in_err-edge-clause-taken : goal.returns-in_err-edge-clause-taken
returns-in_err-edge-clause-taken c =
    let p = c.self.inside in
    let facts = p.edges.now in
    let holds = content p.direction p.digraph.now.nodes (built_edges p.digraph.now.edges facts) p.weak.now.entries in
    let none = take_told p.weak.now.entries p.direction p.digraph.now facts c.args.start c.args.place None c.self.invariant.each (sym c.in_err-edge.was ∙ c.edge_number.ensures) in
    subst (λ (r : Reading). c.from_residual.result ≡ told r.holds (slice_get (starting r.holds c.args.start) c.args.place)) c.self.view_is
    (c.from_residual.ensures ∙ sym (ap (told holds) none))

pub taken-requires-clause-edge : goal.taken-requires-clause-edge
taken-requires-clause-edge c =
    let p = c.self.inside in
    let facts = p.edges.now in
    number_below p.weak.now.entries p.direction p.digraph.now facts (λ w. w.start == c.args.start) c.args.place c.in_ok-edge.edge c.self.invariant.each
    (take_told p.weak.now.entries p.direction p.digraph.now facts c.args.start c.args.place (Some c.in_ok-edge.edge) c.self.invariant.each (sym c.in_ok-edge.was ∙ c.edge_number.ensures))

pub taken-requires-clause-same : goal.taken-requires-clause-same
taken-requires-clause-same c = c.self.invariant.each

pub returns-clause-taken : goal.returns-clause-taken
returns-clause-taken c =
    let p = c.self.inside in
    let facts = p.edges.now in
    let holds = content p.direction p.digraph.now.nodes (built_edges p.digraph.now.edges facts) p.weak.now.entries in
    let some = take_told p.weak.now.entries p.direction p.digraph.now facts c.args.start c.args.place (Some c.in_ok-edge.edge) c.self.invariant.each (sym c.in_ok-edge.was ∙ c.edge_number.ensures) in
    subst (λ (r : Reading). ◌≡◌ {A = Option Taken} (Some c.taken.result) (told r.holds (slice_get (starting r.holds c.args.start) c.args.place))) c.self.view_is
    (c.taken.ensures p.weak.now.entries ∙ sym (ap (told holds) some))
