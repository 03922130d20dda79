use Rattle.std.proofs.Common.{◌∙◌, sym, arith}
use Rattle.digraphs.specs.Bits.{has}
use Rattle.walk_checks.proofs.Bools.{clash}
use Rattle.walk_checks.proofs.Exactness.{exact_by, exact_explained, exact_spared, exact_initial, exact_closed, MarksAre}
use Rattle.walk_checks.proofs.exact.check_exact_steps.Goals as goal
use Rattle.walk_checks.proofs.exact.check_exact_steps.Goals.{then-explains, else-explains}

pub returns : goal.returns
returns g c =
    let con = g.T.EdgeTable.content c.args.table.now in
    let I = has c.args.initials.now in
    let marks : MarksAre con c.in_ok-refusals.refusals c.args.refused.now = λ e h l. c.in_ok-refusals.ensures e h (omega (arith, c.edge_count.ensures)) in
    let R = c.args.refused.now in
    let steps = c.args.steps.now in
    let L = has c.explains.new.listed in
    let r = c.in_ok-refusals.refusals in
    elim c.if-explains.branch [
      | then-explains w ↦
          let ok = c.explains.ensures.explained.0 w.if-explains.true in
          let listed = c.explains.ensures.listed w.if-explains.true in (
            λ t. let all = w.is_complete.ensures.0 (sym w.result-is ∙ t) in exact_by con I L r R steps marks ok listed all.0 all.1 all.2,
            λ exact. w.result-is ∙ w.is_complete.ensures.1 (exact_spared con I r R steps marks exact, exact_initial con I L R steps listed exact, exact_closed con I L r R steps marks listed exact),
          )
      | else-explains w ↦ (
        λ t. absurd (clash t (w.result-is ∙ w.if-explains.false)),
        λ exact. absurd (clash (c.explains.ensures.explained.1 (exact_explained con I R steps exact)) w.if-explains.false),
      )
    ]
