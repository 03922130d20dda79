use Rattle.std.proofs.Common.{◌<◌, ◌∙◌, sym, arith}
use Rattle.std.proofs.lemmas.Bool.{not-false}
use Rattle.digraphs.specs.Bits.{has}
use Rattle.walk_engine.specs.Laws.{every}
use Rattle.walk_checks.proofs.Bools.{clash}
use Rattle.walk_checks.proofs.Numbers.{has_within}
use Rattle.walk_checks.proofs.Steps.{reason_node}
use Rattle.walk_checks.proofs.explained.is_next.Goals as goal
use Rattle.walk_checks.proofs.explained.is_next.Goals.{then-step-size, else-step-size}

pub returns-else-not-contains-clause-next : goal.returns-else-not-contains-clause-next
returns-else-not-contains-clause-next g c before is = (
  λ t. absurd (clash t c.if-not-contains.false),
  λ both.
      let con = g.T.EdgeTable.content c.args.table.now in
      let below : c.args.step.node < con.nodes = reason_node con (has c.args.initials.now) every before c.args.step.node c.args.step.reason c.requires.ends (λ k t. let r = has_within c.args.initials.now k t in omega (arith, c.requires.initials)) both.1 in
      elim c.if-step-size.branch [
        | then-step-size w ↦ absurd (clash (sym (is c.args.step.node) ∙ (sym w.contains.ensures ∙ not-false w.contains.result (sym w.value-is ∙ c.if-not-contains.false))) both.0)
        | else-step-size w ↦ absurd (omega (arith, c.size.ensures, c.requires.listed))
      ],
)
