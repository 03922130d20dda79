use Rattle.std.proofs.Common.{◌≡◌, ℕ, List, Option, Some, drop, map, get_or, sym, ◌&&◌, subst, ◌∙◌}
use Rattle.std.specs.Prelude.{◌==◌, slice_get}
use Rattle.walk_engine.specs.declared.walks.Taken.{Taken}
use Rattle.walk_engine.specs.declared.walks.Ask.TheVariants as asks
use Rattle.walk_engine.specs.Walks.{Way, numbers_where, told, is_gated}
use Rattle.guppy_vectors.specs.ListedWays.{ListedWay, way_of}
use Rattle.guppy_vectors.proofs.ListedWays.{found_at}
use Rattle.guppy_vectors.proofs.graphs.listed.ListedEdgeSource.release.Goals as goal

pub returns-then-left-eq0-clause-taken : goal.returns-then-left-eq0-clause-taken
returns-then-left-eq0-clause-taken c =
    let xs : List ListedWay = c.deref-way-items.result.now in
    let p = λ (w : Way). is_gated w.ask && (w.gate == c.args.gate) in
    let d : ListedWay = (0, 0, asks.Nobody, 0) in
    let i = c.loop-edge.edge in
    let scan : slice_get (numbers_where p i (map way_of (drop i xs))) 0 ≡ slice_get (numbers_where p 0 (map way_of xs)) c.args.place = subst (λ (k : ℕ). slice_get (numbers_where p i (map way_of (drop i xs))) k ≡ slice_get (numbers_where p 0 (map way_of xs)) c.args.place) c.if-left-eq0.true c.loop-edge.invariant in
    subst (λ (ws : List ListedWay). ◌≡◌ {A = Option Taken} (Some (record { edge = i; far = (get_or xs i d).1; ask = (get_or xs i d).2 })) (told (record { nodes = c.args.self.now.nodes; ways = map way_of ws }) (slice_get (numbers_where p 0 (map way_of ws)) c.args.place))) c.deref-way-items.ensures.value
    (found_at p c.args.self.now.nodes xs i c.args.place d c.loop-edge-test.true (sym c.is_gated_by.ensures ∙ c.if-is_gated_by.true) scan)
