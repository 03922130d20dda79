use Rattle.std.proofs.Common.{◌<◌, ℕ, [], ◌&&◌, length, refl, sym, subst, arith}
use Rattle.std.specs.Prelude.{IsTrue, ◌==◌}
use Rattle.std.proofs.lemmas.Option.{slice_get_within}
use Rattle.std.proofs.lemmas.Bool.{eqb-true}
use Rattle.walk_engine.specs.declared.walks.Half.TheVariants.{Optional}
use Rattle.walk_engine.specs.declared.walks.Ask.{Ask}
use Rattle.digraphs.specs.Bits.{has}
use Rattle.walk_engine.specs.Walks.{Way, has_half, is_gated}
use Rattle.walk_engine.specs.inner.WalkProgress.{findings}
use Rattle.walk_engine.proofs.Answered.{and_both}
use Rattle.walk_engine.proofs.Asking.{seen, unseen, may_after, far_within}
use Rattle.walk_engine.proofs.WalkMoves.{free_weak}
use Rattle.walk_engine.proofs.WalkLoops.{extends_asks, extends_refl, gated_weak}
use Rattle.walk_engine.proofs.walks.progress.release_one.Goals as goal

-- A gated ask has an optional half.
has_optional : (ask : Ask) → IsTrue (is_gated ask) → IsTrue (has_half ask Optional)
has_optional ask q = let w = gated_weak ask q in subst (λ (a : Ask). IsTrue (has_half a Optional)) (sym w.1) refl

pub offer_if-requires-clause-may : goal.offer_if-requires-clause-may
offer_if-requires-clause-may g c _ =
    let k = seen (g.S.EdgeSource.content c.args.source.now) (λ (w : Way). is_gated w.ask && (w.gate == c.args.node)) c.args.place c.in-Some.taken (sym c.in-Some.ensures.taken) in
    let both = and_both (is_gated c.in-Some.taken.ask) (k.1 == c.args.node) k.4 in
    c.requires.may [] c.args.offerer.now tt refl c.in-Some.taken.edge Optional _ k.3 (has_optional c.in-Some.taken.ask both.0)

pub is_ready-ready-requires : goal.is_ready-ready-requires
is_ready-ready-requires g c =
    let k = seen (g.S.EdgeSource.content c.args.source.now) (λ (w : Way). is_gated w.ask && (w.gate == c.args.node)) c.args.place c.in-Some.taken (sym c.in-Some.ensures.taken) in
    omega (arith, slice_get_within (g.S.EdgeSource.content c.args.source.now).ways c.in-Some.taken.edge _ k.3, c.requires.edges)

pub returns-in-None-clause-ended : goal.returns-in-None-clause-ended
returns-in-None-clause-ended g c _ =
    (unseen (g.S.EdgeSource.content c.args.source.now) (λ (w : Way). is_gated w.ask && (w.gate == c.args.node)) c.args.place (sym c.in-None.ensures.taken), refl, refl, refl)

pub returns-in-None-clause-grown : goal.returns-in-None-clause-grown
returns-in-None-clause-grown g c = extends_refl (findings c.args.found.now)

pub returns-in-Some-clause-grown : goal.returns-in-Some-clause-grown
returns-in-Some-clause-grown g c = extends_asks g.O.Offerer.gives c.is_ready-ready.result c.in-Some.taken.edge Optional c.in-Some.taken.far c.args.offerer.now (findings c.args.found.now) c.offer_if.new.offerer (findings c.offer_if.new.found) c.offer_if.ensures.asked

pub returns-in-Some-clause-may : goal.returns-in-Some-clause-may
returns-in-Some-clause-may g c =
    let con = g.S.EdgeSource.content c.args.source.now in
    let k = seen con (λ (w : Way). is_gated w.ask && (w.gate == c.args.node)) c.args.place c.in-Some.taken (sym c.in-Some.ensures.taken) in
    let both = and_both (is_gated c.in-Some.taken.ask) (k.1 == c.args.node) k.4 in
    may_after g.O.Offerer.can_offer g.O.Offerer.gives con c.is_ready-ready.result c.in-Some.taken.edge Optional c.in-Some.taken.far c.args.offerer.now (findings c.args.found.now) c.offer_if.new.offerer (findings c.offer_if.new.found) _ k.3 (λ _. has_optional c.in-Some.taken.ask both.0) c.offer_if.ensures.asked c.requires.may

pub returns-in-Some-clause-taken : goal.returns-in-Some-clause-taken
returns-in-Some-clause-taken g c _ =
    let con = g.S.EdgeSource.content c.args.source.now in
    let k = seen con (λ (w : Way). is_gated w.ask && (w.gate == c.args.node)) c.args.place c.in-Some.taken (sym c.in-Some.ensures.taken) in
    let both = and_both (is_gated c.in-Some.taken.ask) (k.1 == c.args.node) k.4 in
    let w : Way = record { start = k.0; far = c.in-Some.taken.far; ask = c.in-Some.taken.ask; gate = k.1 } in
    let fits : c.in-Some.taken.far < length c.args.found.now.members = omega (arith, (c.requires.nodes c.in-Some.taken.edge w k.3).1, c.requires.members) in
    let inside : c.in-Some.taken.edge < length c.args.met.now = omega (arith, slice_get_within con.ways c.in-Some.taken.edge w k.3, c.requires.edges) in
    let weak = gated_weak c.in-Some.taken.ask both.0 in (
      c.in-Some.taken.edge,
      k.2,
      λ I s0 T G new st at'.
          free_weak con I g.O.Offerer.gives s0 T G c.args.offerer.now c.offer_if.new.offerer (findings c.args.found.now) (findings c.offer_if.new.found) c.args.met.now c.is_ready-ready.new.met c.in-Some.taken.edge w weak.0 c.is_ready-ready.result k.3 weak.1 fits inside new (subst (λ (n : ℕ). IsTrue (has c.args.found.now.members n)) (sym (eqb-true k.1 c.args.node both.1)) st) c.is_ready-ready.ensures c.offer_if.ensures.asked at',
    )

pub offer_if-requires-clause-node : goal.offer_if-requires-clause-node
offer_if-requires-clause-node g c =
    omega (arith, far_within (g.S.EdgeSource.content c.args.source.now) (λ (w : Way). is_gated w.ask && (w.gate == c.args.node)) c.args.place c.in-Some.taken c.requires.nodes (sym c.in-Some.ensures.taken), c.requires.members)
