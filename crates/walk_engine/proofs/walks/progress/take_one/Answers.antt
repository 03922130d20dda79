use Rattle.std.proofs.Common.{◌<◌, ℕ, true, [], length, refl, sym, ◌∙◌, ap, subst, arith}
use Rattle.std.specs.Prelude.{IsTrue, ◌==◌}
use Rattle.std.proofs.lemmas.Option.{slice_get_within}
use Rattle.std.proofs.lemmas.Bool.{eqb-true}
use Rattle.walk_engine.specs.declared.walks.Half.TheVariants.{Full, Required, Optional}
use Rattle.walk_engine.specs.declared.walks.Ask.{Ask}
use Rattle.digraphs.specs.Bits.{has}
use Rattle.walk_engine.specs.Walks.{Way, has_half}
use Rattle.walk_engine.specs.inner.WalkProgress.{Findings, findings, IsAt, with_edge, Extends}
use Rattle.walk_engine.specs.declared.walks.StepReason.TheVariants.{Edge}
use Rattle.walk_engine.proofs.Asking.{seen, unseen, may_after, far_within}
use Rattle.walk_engine.proofs.WalkMoves.{take_nobody, take_full, take_weak}
use Rattle.walk_engine.proofs.WalkLoops.{extends_asks, extends_noted, extends_refl, extends_trans}
use Rattle.walk_engine.proofs.walks.progress.take_one.Goals as goal

pub offer_if-requires-clause-may : goal.offer_if-requires-clause-may
offer_if-requires-clause-may g c _ =
    let k = seen (g.S.EdgeSource.content c.args.source.now) (λ (w : Way). w.start == c.args.node) c.args.place c.in-Some.taken (sym c.in-Some.ensures.taken) in
    c.requires.may [] c.args.offerer.now tt refl c.in-Some.taken.edge Full _ k.3 (ap (λ (a : Ask). has_half a Full) c.in-Full.is)

pub offer_if-requires-in-Weak-clause-may : goal.offer_if-requires-in-Weak-clause-may
offer_if-requires-in-Weak-clause-may g c r =
    let k = seen (g.S.EdgeSource.content c.args.source.now) (λ (w : Way). w.start == c.args.node) c.args.place c.in-Some.taken (sym c.in-Some.ensures.taken) in
    c.requires.may [] c.args.offerer.now tt refl c.in-Some.taken.edge Required _ k.3 (ap (λ (a : Ask). has_half a Required) c.in-Weak.is ∙ r)

pub is_ready-ready-requires : goal.is_ready-ready-requires
is_ready-ready-requires g c =
    let k = seen (g.S.EdgeSource.content c.args.source.now) (λ (w : Way). w.start == c.args.node) c.args.place c.in-Some.taken (sym c.in-Some.ensures.taken) in
    omega (arith, slice_get_within (g.S.EdgeSource.content c.args.source.now).ways c.in-Some.taken.edge _ k.3, c.requires.edges)

pub returns-in-None-clause-ended : goal.returns-in-None-clause-ended
returns-in-None-clause-ended g c _ =
    (unseen (g.S.EdgeSource.content c.args.source.now) (λ (w : Way). w.start == c.args.node) c.args.place (sym c.in-None.ensures.taken), refl, refl, refl)

pub returns-in-Nobody-clause-taken : goal.returns-in-Nobody-clause-taken
returns-in-Nobody-clause-taken g c _ =
    let con = g.S.EdgeSource.content c.args.source.now in
    let k = seen con (λ (w : Way). w.start == c.args.node) c.args.place c.in-Some.taken (sym c.in-Some.ensures.taken) in
    let w : Way = record { start = k.0; far = c.in-Some.taken.far; ask = c.in-Some.taken.ask; gate = k.1 } in
    let fits : c.in-Some.taken.far < length c.args.found.now.members = omega (arith, (c.requires.nodes c.in-Some.taken.edge w k.3).1, c.requires.members) in (
      c.in-Some.taken.edge,
      k.2,
      λ I s0 T G new st at'.
          subst (λ (h : Findings). IsAt con I g.O.Offerer.gives s0 (with_edge T c.in-Some.taken.edge) G c.args.offerer.now h c.args.met.now) (sym c.note.ensures.noted)
          (take_nobody con I g.O.Offerer.gives s0 T G c.args.offerer.now (findings c.args.found.now) c.args.met.now c.in-Some.taken.edge w k.3 c.in-Nobody.is fits new (subst (λ (n : ℕ). IsTrue (has c.args.found.now.members n)) (sym (eqb-true k.0 c.args.node k.4)) st) at'),
    )

pub returns-in-Full-clause-may : goal.returns-in-Full-clause-may
returns-in-Full-clause-may g c =
    let con = g.S.EdgeSource.content c.args.source.now in
    let k = seen con (λ (w : Way). w.start == c.args.node) c.args.place c.in-Some.taken (sym c.in-Some.ensures.taken) in
    may_after g.O.Offerer.can_offer g.O.Offerer.gives con true c.in-Some.taken.edge Full c.in-Some.taken.far c.args.offerer.now (findings c.args.found.now) c.offer_if.new.offerer (findings c.offer_if.new.found) _ k.3 (λ _. ap (λ (a : Ask). has_half a Full) c.in-Full.is) c.offer_if.ensures.asked c.requires.may

pub returns-in-Full-clause-taken : goal.returns-in-Full-clause-taken
returns-in-Full-clause-taken g c _ =
    let con = g.S.EdgeSource.content c.args.source.now in
    let k = seen con (λ (w : Way). w.start == c.args.node) c.args.place c.in-Some.taken (sym c.in-Some.ensures.taken) in
    let w : Way = record { start = k.0; far = c.in-Some.taken.far; ask = c.in-Some.taken.ask; gate = k.1 } in
    let fits : c.in-Some.taken.far < length c.args.found.now.members = omega (arith, (c.requires.nodes c.in-Some.taken.edge w k.3).1, c.requires.members) in (
      c.in-Some.taken.edge,
      k.2,
      λ I s0 T G new st at'.
          take_full con I g.O.Offerer.gives s0 T G c.args.offerer.now c.offer_if.new.offerer (findings c.args.found.now) (findings c.offer_if.new.found) c.args.met.now c.in-Some.taken.edge w k.3 c.in-Full.is fits new (subst (λ (n : ℕ). IsTrue (has c.args.found.now.members n)) (sym (eqb-true k.0 c.args.node k.4)) st) c.offer_if.ensures.asked at',
    )

pub offer_if-requires-in-Weak-2-clause-may : goal.offer_if-requires-in-Weak-2-clause-may
offer_if-requires-in-Weak-2-clause-may g c _ =
    let con = g.S.EdgeSource.content c.args.source.now in
    let k = seen con (λ (w : Way). w.start == c.args.node) c.args.place c.in-Some.taken (sym c.in-Some.ensures.taken) in
    may_after g.O.Offerer.can_offer g.O.Offerer.gives con c.in-Weak.required c.in-Some.taken.edge Required c.in-Some.taken.far c.args.offerer.now (findings c.args.found.now) c.offer_if-in-Weak.new.offerer (findings c.offer_if-in-Weak.new.found) _ k.3 (λ r. ap (λ (a : Ask). has_half a Required) c.in-Weak.is ∙ r) c.offer_if-in-Weak.ensures.asked c.requires.may
    [] c.offer_if-in-Weak.new.offerer tt refl c.in-Some.taken.edge Optional _ k.3 (ap (λ (a : Ask). has_half a Optional) c.in-Weak.is)

pub returns-in-Weak-clause-may : goal.returns-in-Weak-clause-may
returns-in-Weak-clause-may g c =
    let con = g.S.EdgeSource.content c.args.source.now in
    let k = seen con (λ (w : Way). w.start == c.args.node) c.args.place c.in-Some.taken (sym c.in-Some.ensures.taken) in
    may_after g.O.Offerer.can_offer g.O.Offerer.gives con c.is_ready-ready.result c.in-Some.taken.edge Optional c.in-Some.taken.far c.offer_if-in-Weak.new.offerer (findings c.offer_if-in-Weak.new.found) c.offer_if-in-Weak-2.new.offerer (findings c.offer_if-in-Weak-2.new.found) _ k.3 (λ _. ap (λ (a : Ask). has_half a Optional) c.in-Weak.is) c.offer_if-in-Weak-2.ensures.asked
    (may_after g.O.Offerer.can_offer g.O.Offerer.gives con c.in-Weak.required c.in-Some.taken.edge Required c.in-Some.taken.far c.args.offerer.now (findings c.args.found.now) c.offer_if-in-Weak.new.offerer (findings c.offer_if-in-Weak.new.found) _ k.3 (λ r. ap (λ (a : Ask). has_half a Required) c.in-Weak.is ∙ r) c.offer_if-in-Weak.ensures.asked c.requires.may)

pub returns-in-Weak-clause-taken : goal.returns-in-Weak-clause-taken
returns-in-Weak-clause-taken g c _ =
    let con = g.S.EdgeSource.content c.args.source.now in
    let k = seen con (λ (w : Way). w.start == c.args.node) c.args.place c.in-Some.taken (sym c.in-Some.ensures.taken) in
    let w : Way = record { start = k.0; far = c.in-Some.taken.far; ask = c.in-Some.taken.ask; gate = k.1 } in
    let fits : c.in-Some.taken.far < length c.args.found.now.members = omega (arith, (c.requires.nodes c.in-Some.taken.edge w k.3).1, c.requires.members) in
    let inside : c.in-Some.taken.edge < length c.args.met.now = omega (arith, slice_get_within con.ways c.in-Some.taken.edge w k.3, c.requires.edges) in (
      c.in-Some.taken.edge,
      k.2,
      λ I s0 T G new st at'.
          take_weak con I g.O.Offerer.gives s0 T G c.args.offerer.now c.offer_if-in-Weak.new.offerer c.offer_if-in-Weak-2.new.offerer (findings c.args.found.now) (findings c.offer_if-in-Weak.new.found) (findings c.offer_if-in-Weak-2.new.found) c.args.met.now c.is_ready-ready.new.met c.in-Some.taken.edge w c.in-Weak.required c.in-Weak.gated c.is_ready-ready.result k.3 c.in-Weak.is fits c.offer_if-in-Weak.ensures.size inside new (subst (λ (n : ℕ). IsTrue (has c.args.found.now.members n)) (sym (eqb-true k.0 c.args.node k.4)) st) c.offer_if-in-Weak.ensures.asked c.is_ready-ready.ensures c.offer_if-in-Weak-2.ensures.asked at',
    )

pub returns-in-None-clause-grown : goal.returns-in-None-clause-grown
returns-in-None-clause-grown g c = extends_refl (findings c.args.found.now)

pub returns-in-Nobody-clause-grown : goal.returns-in-Nobody-clause-grown
returns-in-Nobody-clause-grown g c = subst (Extends (findings c.args.found.now)) (sym c.note.ensures.noted) (extends_noted (findings c.args.found.now) c.in-Some.taken.far (Edge c.in-Some.taken.edge))

pub returns-in-Full-clause-grown : goal.returns-in-Full-clause-grown
returns-in-Full-clause-grown g c = extends_asks g.O.Offerer.gives true c.in-Some.taken.edge Full c.in-Some.taken.far c.args.offerer.now (findings c.args.found.now) c.offer_if.new.offerer (findings c.offer_if.new.found) c.offer_if.ensures.asked

pub returns-in-Weak-clause-grown : goal.returns-in-Weak-clause-grown
returns-in-Weak-clause-grown g c =
    extends_trans (findings c.args.found.now) (findings c.offer_if-in-Weak.new.found) (findings c.offer_if-in-Weak-2.new.found)
    (extends_asks g.O.Offerer.gives c.in-Weak.required c.in-Some.taken.edge Required c.in-Some.taken.far c.args.offerer.now (findings c.args.found.now) c.offer_if-in-Weak.new.offerer (findings c.offer_if-in-Weak.new.found) c.offer_if-in-Weak.ensures.asked)
    (extends_asks g.O.Offerer.gives c.is_ready-ready.result c.in-Some.taken.edge Optional c.in-Some.taken.far c.offer_if-in-Weak.new.offerer (findings c.offer_if-in-Weak.new.found) c.offer_if-in-Weak-2.new.offerer (findings c.offer_if-in-Weak-2.new.found) c.offer_if-in-Weak-2.ensures.asked)

pub note-requires-clause-node : goal.note-requires-clause-node
note-requires-clause-node g c =
    omega (arith, far_within (g.S.EdgeSource.content c.args.source.now) (λ (w : Way). w.start == c.args.node) c.args.place c.in-Some.taken c.requires.nodes (sym c.in-Some.ensures.taken), c.requires.members)

pub offer_if-requires-clause-node : goal.offer_if-requires-clause-node
offer_if-requires-clause-node g c =
    omega (arith, far_within (g.S.EdgeSource.content c.args.source.now) (λ (w : Way). w.start == c.args.node) c.args.place c.in-Some.taken c.requires.nodes (sym c.in-Some.ensures.taken), c.requires.members)

pub offer_if-requires-in-Weak-clause-node : goal.offer_if-requires-in-Weak-clause-node
offer_if-requires-in-Weak-clause-node g c =
    omega (arith, far_within (g.S.EdgeSource.content c.args.source.now) (λ (w : Way). w.start == c.args.node) c.args.place c.in-Some.taken c.requires.nodes (sym c.in-Some.ensures.taken), c.requires.members)

pub offer_if-requires-in-Weak-2-clause-node : goal.offer_if-requires-in-Weak-2-clause-node
offer_if-requires-in-Weak-2-clause-node g c =
    omega (arith, far_within (g.S.EdgeSource.content c.args.source.now) (λ (w : Way). w.start == c.args.node) c.args.place c.in-Some.taken c.requires.nodes (sym c.in-Some.ensures.taken), c.requires.members, c.offer_if-in-Weak.ensures.size)

pub offer_if-requires-in-Weak-2-clause-room : goal.offer_if-requires-in-Weak-2-clause-room
offer_if-requires-in-Weak-2-clause-room g c = c.offer_if-in-Weak.ensures.room 1 c.requires.room
