use Rattle.std.proofs.Common.{refl, sym, arith}
use Rattle.digraphs.specs.Bits.{has}
use Rattle.walk_checks.specs.inner.Tests.{unmarked}
use Rattle.walk_checks.proofs.Bools.{clash}
use Rattle.walk_checks.proofs.Exactness.{kept_until, kept_whole, kept_more, starts_at}
use Rattle.walk_checks.proofs.exact.are_kept.Goals as goal

pub returns-in-None : goal.returns-in-None
returns-in-None g c = (
  λ _. kept_until (g.T.EdgeTable.content c.args.table.now) (unmarked c.args.refusals.now) (has c.args.listed.now) c.args.node c.loop-place.place (sym c.in-None.ensures) c.loop-place.invariant,
  λ _. refl,
)

pub returns-then-not-is_kept : goal.returns-then-not-is_kept
returns-then-not-is_kept g c = (
  λ t. absurd (clash t refl),
  λ all.
      let at = starts_at (g.T.EdgeTable.content c.args.table.now) c.args.node c.loop-place.place c.in-Some.number (sym c.in-Some.ensures) in
      absurd (clash ((c.is_kept.ensures at.0 at.1).1 (all c.in-Some.number at.0 at.1 at.2)) c.if-not-is_kept.true),
)

pub loop-place-preserved : goal.loop-place-preserved
loop-place-preserved g c =
    kept_more (g.T.EdgeTable.content c.args.table.now) (unmarked c.args.refusals.now) (has c.args.listed.now) c.args.node c.loop-place.place c.in-Some.number (sym c.in-Some.ensures) (λ w is. (c.is_kept.ensures w is).0 c.if-not-is_kept.false) c.loop-place.invariant

pub returns : goal.returns
returns g c = (
  λ _. kept_whole (g.T.EdgeTable.content c.args.table.now) (unmarked c.args.refusals.now) (has c.args.listed.now) c.args.node c.loop-place.place (omega (arith, c.edge_count-place-end.ensures)) c.loop-place.invariant,
  λ _. refl,
)
