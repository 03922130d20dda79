use Rattle.std.proofs.Common.{◌≡◌, ℕ, Some, sym, subst}
use Rattle.std.specs.Prelude.{IsTrue, slice_get}
use Rattle.walk_engine.specs.declared.walks.progress.Condition.{Condition}
use Rattle.walk_engine.specs.inner.WalkProgress.{findings, edges_by, FollowsEdge}
use Rattle.walk_engine.proofs.walks.progress.follow_one.Goals as goal

pub returns-in-Start-clause-taken : goal.returns-in-Start-clause-taken
returns-in-Start-clause-taken g c =
    let con = g.S.EdgeSource.content c.args.source.now in
    let P : Condition → Type 0 = λ by. IsTrue c.take_one.result → (e : ℕ) × (slice_get (edges_by by con c.args.node) c.args.place ≡ Some e) × FollowsEdge by con g.O.Offerer.gives c.args.node e c.args.offerer.now (findings c.args.found.now) c.args.met.now c.take_one.new.offerer (findings c.take_one.new.found) c.take_one.new.met in
    subst P (sym c.in-Start.is) c.take_one.ensures.taken

pub returns-in-Gate-clause-taken : goal.returns-in-Gate-clause-taken
returns-in-Gate-clause-taken g c =
    let con = g.S.EdgeSource.content c.args.source.now in
    let P : Condition → Type 0 = λ by. IsTrue c.release_one.result → (e : ℕ) × (slice_get (edges_by by con c.args.node) c.args.place ≡ Some e) × FollowsEdge by con g.O.Offerer.gives c.args.node e c.args.offerer.now (findings c.args.found.now) c.args.met.now c.release_one.new.offerer (findings c.release_one.new.found) c.release_one.new.met in
    subst P (sym c.in-Gate.is) c.release_one.ensures.taken
