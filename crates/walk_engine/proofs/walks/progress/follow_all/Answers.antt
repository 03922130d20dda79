use Rattle.std.proofs.Common.{◌≡◌, ◌<◌, suc, ℕ, Bool, List, Some, None, length, refl, sym, ◌∙◌, ap, subst, arith, add-one}
use Rattle.std.specs.Prelude.{slice_get}
use Rattle.std.proofs.lemmas.Option.{slice_get_within}
use Rattle.walk_engine.specs.Walks.{Content, EndsAreNodes, MayAsk}
use Rattle.walk_engine.specs.inner.WalkProgress.{Findings, findings, IsListed, Extends, at_node, edges_by, FollowsEdge}
use Rattle.walk_engine.proofs.WayNumbers.{length_numbers_le}
use Rattle.walk_engine.proofs.WalkLoops.{FollowsFirst, follows_none, follows_more, follows_whole, follows_stopped, extends_refl, extends_trans, whole_at, on_err}
use Rattle.walk_engine.proofs.walks.progress.follow_all.Goals as goal

pub returns-in_err-make_room-clause-err : goal.returns-in_err-make_room-clause-err
returns-in_err-make_room-clause-err g c =
    on_err c.from_residual.result (follows_stopped (g.S.EdgeSource.content c.args.source.now) g.O.Offerer.gives c.args.condition c.args.node c.args.offerer.now (findings c.args.found.now) c.args.met.now 0 c.args.offerer.now (findings c.args.found.now) c.args.met.now (follows_none (g.S.EdgeSource.content c.args.source.now) g.O.Offerer.gives c.args.condition c.args.node c.args.offerer.now (findings c.args.found.now) c.args.met.now))

pub edges-init : goal.edges-init
edges-init g c =
    let con = g.S.EdgeSource.content c.args.source.now in
    let same = c.in_ok-make_room.ensures.same in
    record {
      within = omega arith;
      same = refl;
      read = omega arith;
      may = c.requires.may;
      members = ap (λ (f : Findings). length f.members) same;
      edges = refl;
      listed = subst IsListed (sym same) c.requires.listed;
      room = c.in_ok-make_room.ensures.room;
      grown = subst (Extends (findings c.args.found.now)) (sym same) (extends_refl (findings c.args.found.now));
      taken = subst (λ (f : Findings). FollowsFirst con g.O.Offerer.gives c.args.condition c.args.node c.args.offerer.now (findings c.args.found.now) c.args.met.now 0 c.args.offerer.now f c.args.met.now) (sym same) (follows_none con g.O.Offerer.gives c.args.condition c.args.node c.args.offerer.now (findings c.args.found.now) c.args.met.now);
    }

pub follow_one-requires-clause-nodes : goal.follow_one-requires-clause-nodes
follow_one-requires-clause-nodes g c = subst EndsAreNodes (sym c.edges.invariant.same) c.requires.nodes

pub follow_one-requires-clause-few : goal.follow_one-requires-clause-few
follow_one-requires-clause-few g c =
    omega (arith, c.edges.invariant.read, c.edges.invariant.within, c.requires.few, length_numbers_le (at_node c.args.condition c.args.node) (g.S.EdgeSource.content c.args.source.now).ways)

pub returns-in_err-make_room-2-clause-err : goal.returns-in_err-make_room-2-clause-err
returns-in_err-make_room-2-clause-err g c =
    let con = g.S.EdgeSource.content c.args.source.now in
    let e = subst (λ (x : Content). (e : ℕ) × (slice_get (edges_by c.args.condition x c.args.node) c.edges.place ≡ Some e) × FollowsEdge c.args.condition x g.O.Offerer.gives c.args.node e c.edges.offerer (findings c.edges.found) c.edges.met c.follow_one.new.offerer (findings c.follow_one.new.found) c.follow_one.new.met) c.edges.invariant.same (c.follow_one.ensures.taken c.edges-test.true) in
    let more = follows_more con g.O.Offerer.gives c.args.condition c.args.node c.args.offerer.now (findings c.args.found.now) c.args.met.now c.edges.place c.edges.offerer (findings c.edges.found) c.edges.met c.follow_one.new.offerer (findings c.follow_one.new.found) c.follow_one.new.met e.0 c.edges.invariant.taken e.1 e.2 in
    on_err c.from_residual-in_err-make_room-2.result (follows_stopped con g.O.Offerer.gives c.args.condition c.args.node c.args.offerer.now (findings c.args.found.now) c.args.met.now (suc c.edges.place) c.follow_one.new.offerer (findings c.follow_one.new.found) c.follow_one.new.met more)

pub overflow_add-place : goal.overflow_add-place
overflow_add-place g c =
    let con = g.S.EdgeSource.content c.args.source.now in
    let e = subst (λ (x : Content). (e : ℕ) × (slice_get (edges_by c.args.condition x c.args.node) c.edges.place ≡ Some e) × FollowsEdge c.args.condition x g.O.Offerer.gives c.args.node e c.edges.offerer (findings c.edges.found) c.edges.met c.follow_one.new.offerer (findings c.follow_one.new.found) c.follow_one.new.met) c.edges.invariant.same (c.follow_one.ensures.taken c.edges-test.true) in
    omega (arith, slice_get_within (edges_by c.args.condition con c.args.node) c.edges.place e.0 e.1, length_numbers_le (at_node c.args.condition c.args.node) con.ways, c.requires.long)

pub edges-smaller : goal.edges-smaller
edges-smaller g c =
    let con = g.S.EdgeSource.content c.args.source.now in
    let e = subst (λ (x : Content). (e : ℕ) × (slice_get (edges_by c.args.condition x c.args.node) c.edges.place ≡ Some e) × FollowsEdge c.args.condition x g.O.Offerer.gives c.args.node e c.edges.offerer (findings c.edges.found) c.edges.met c.follow_one.new.offerer (findings c.follow_one.new.found) c.follow_one.new.met) c.edges.invariant.same (c.follow_one.ensures.taken c.edges-test.true) in
    omega (arith, slice_get_within (edges_by c.args.condition con c.args.node) c.edges.place e.0 e.1)

pub edges-preserved : goal.edges-preserved
edges-preserved g c =
    let con = g.S.EdgeSource.content c.args.source.now in
    let e = subst (λ (x : Content). (e : ℕ) × (slice_get (edges_by c.args.condition x c.args.node) c.edges.place ≡ Some e) × FollowsEdge c.args.condition x g.O.Offerer.gives c.args.node e c.edges.offerer (findings c.edges.found) c.edges.met c.follow_one.new.offerer (findings c.follow_one.new.found) c.follow_one.new.met) c.edges.invariant.same (c.follow_one.ensures.taken c.edges-test.true) in
    let inside : c.edges.place < length (edges_by c.args.condition con c.args.node) = slice_get_within (edges_by c.args.condition con c.args.node) c.edges.place e.0 e.1 in
    let room = c.in_ok-make_room-2.ensures in
    let same = room.same in
    record {
      within = omega arith;
      same = c.follow_one.ensures.same ∙ c.edges.invariant.same;
      read = omega (arith, c.follow_one.ensures.read, c.edges.invariant.read);
      may = subst (λ (x : Content). MayAsk g.O.Offerer.can_offer g.O.Offerer.gives x c.follow_one.new.offerer) c.edges.invariant.same c.follow_one.ensures.may;
      members = ap (λ (f : Findings). length f.members) same ∙ (c.follow_one.ensures.members ∙ c.edges.invariant.members);
      edges = c.follow_one.ensures.edges ∙ c.edges.invariant.edges;
      listed = subst IsListed (sym same) c.follow_one.ensures.listed;
      room = room.room;
      grown = subst (Extends (findings c.args.found.now)) (sym same) (extends_trans (findings c.args.found.now) (findings c.edges.found) (findings c.follow_one.new.found) c.edges.invariant.grown c.follow_one.ensures.grown);
      taken = rw add-one (subst (λ (f : Findings). FollowsFirst con g.O.Offerer.gives c.args.condition c.args.node c.args.offerer.now (findings c.args.found.now) c.args.met.now (suc c.edges.place) c.follow_one.new.offerer f c.follow_one.new.met) (sym same) (follows_more con g.O.Offerer.gives c.args.condition c.args.node c.args.offerer.now (findings c.args.found.now) c.args.met.now c.edges.place c.edges.offerer (findings c.edges.found) c.edges.met c.follow_one.new.offerer (findings c.follow_one.new.found) c.follow_one.new.met e.0 c.edges.invariant.taken e.1 e.2));
    }

pub returns-clause-read : goal.returns-clause-read
returns-clause-read g c =
    let con = g.S.EdgeSource.content c.args.source.now in
    let n : slice_get (edges_by c.args.condition con c.args.node) c.edges.place ≡ None = subst (λ (x : Content). slice_get (edges_by c.args.condition x c.args.node) c.edges.place ≡ None) c.edges.invariant.same (c.follow_one.ensures.ended c.edges-test.false).0 in
    let w = whole_at (edges_by c.args.condition con c.args.node) c.edges.place c.edges.invariant.within n in
    let q : c.edges.place ≡ length (edges_by c.args.condition con c.args.node) = w.0 in
    omega (arith, c.follow_one.ensures.read, c.edges.invariant.read)

pub returns-clause-taken : goal.returns-clause-taken
returns-clause-taken g c =
    let con = g.S.EdgeSource.content c.args.source.now in
    let ended = c.follow_one.ensures.ended c.edges-test.false in
    let n : slice_get (edges_by c.args.condition con c.args.node) c.edges.place ≡ None = subst (λ (x : Content). slice_get (edges_by c.args.condition x c.args.node) c.edges.place ≡ None) c.edges.invariant.same ended.0 in
    let w = whole_at (edges_by c.args.condition con c.args.node) c.edges.place c.edges.invariant.within n in
    follows_whole con g.O.Offerer.gives c.args.condition c.args.node c.args.offerer.now (findings c.args.found.now) c.args.met.now c.edges.place c.follow_one.new.offerer (findings c.follow_one.new.found) c.follow_one.new.met
    (subst (λ x. FollowsFirst con g.O.Offerer.gives c.args.condition c.args.node c.args.offerer.now (findings c.args.found.now) c.args.met.now c.edges.place x (findings c.follow_one.new.found) c.follow_one.new.met) (sym ended.1)
    (subst (λ (x : Findings). FollowsFirst con g.O.Offerer.gives c.args.condition c.args.node c.args.offerer.now (findings c.args.found.now) c.args.met.now c.edges.place c.edges.offerer x c.follow_one.new.met) (sym ended.2)
    (subst (λ (x : List Bool). FollowsFirst con g.O.Offerer.gives c.args.condition c.args.node c.args.offerer.now (findings c.args.found.now) c.args.met.now c.edges.place c.edges.offerer (findings c.edges.found) x) (sym ended.3) c.edges.invariant.taken)))
    w.1
