use Rattle.std.proofs.Common.{◌≡◌, ◌∙◌, ap, sym, subst, Option, Some, None}
use Rattle.std.specs.Prelude.{slice_get, ◌==◌, ◌&&◌}
use Rattle.walk_engine.specs.declared.walks.Taken.{Taken}
use Rattle.walk_engine.specs.Walks.{releasing, told, is_gated}
use Rattle.feature_core.specs.Built.{built_edges}
use Rattle.feature_core.specs.Ways.{content, Reading}
use Rattle.feature_core.proofs.DirectedLemmas.{release_told, number_below}
use Rattle.feature_core.proofs.directed_edges.PackedEdgeSource.release.Goals as goal

pub released_number-requires : goal.released_number-requires
released_number-requires c = c.self.invariant.releases.ascends

pub returns-in_err-edge-clause-taken : goal.returns-in_err-edge-clause-taken
returns-in_err-edge-clause-taken c =
    let p = c.self.inside in
    let facts = p.edges.now in
    let holds = content p.direction p.digraph.now.nodes (built_edges p.digraph.now.edges facts) p.weak.now.entries in
    let none = release_told p.direction p.digraph.now facts p.weak.now.entries p.released.now c.args.gate c.args.place None c.self.invariant (sym c.in_err-edge.was ∙ c.released_number.ensures) in
    subst (λ (r : Reading). c.from_residual.result ≡ told r.holds (slice_get (releasing r.holds c.args.gate) c.args.place)) c.self.view_is
    (c.from_residual.ensures ∙ sym (ap (told holds) none))

pub taken-requires-clause-edge : goal.taken-requires-clause-edge
taken-requires-clause-edge c =
    let p = c.self.inside in
    let facts = p.edges.now in
    number_below p.weak.now.entries p.direction p.digraph.now facts (λ w. is_gated w.ask && (w.gate == c.args.gate)) c.args.place c.in_ok-edge.edge c.self.invariant.each
    (release_told p.direction p.digraph.now facts p.weak.now.entries p.released.now c.args.gate c.args.place (Some c.in_ok-edge.edge) c.self.invariant (sym c.in_ok-edge.was ∙ c.released_number.ensures))

pub taken-requires-clause-same : goal.taken-requires-clause-same
taken-requires-clause-same c = c.self.invariant.each

pub returns-clause-taken : goal.returns-clause-taken
returns-clause-taken c =
    let p = c.self.inside in
    let facts = p.edges.now in
    let holds = content p.direction p.digraph.now.nodes (built_edges p.digraph.now.edges facts) p.weak.now.entries in
    let some = release_told p.direction p.digraph.now facts p.weak.now.entries p.released.now c.args.gate c.args.place (Some c.in_ok-edge.edge) c.self.invariant (sym c.in_ok-edge.was ∙ c.released_number.ensures) in
    subst (λ (r : Reading). ◌≡◌ {A = Option Taken} (Some c.taken.result) (told r.holds (slice_get (releasing r.holds c.args.gate) c.args.place))) c.self.view_is
    (c.taken.ensures p.weak.now.entries ∙ sym (ap (told holds) some))
