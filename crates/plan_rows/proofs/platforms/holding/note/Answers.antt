use Rattle.plan_rows.specs.platforms.HeldSpecs.{holds_on}
use Rattle.plan_rows.specs.platforms.Views.{declared_text}
use Rattle.plan_rows.proofs.HoldingLemmas.{holding_step}
use Rattle.plan_rows.proofs.platforms.holding.note.Goals as goal

pub returns-clause-held : goal.returns-clause-held
returns-clause-held c = λ before held.
    holding_step c.one_spec.ensures c.args.target.now before (holds_on c.args.held.now) (holds_on c.keep.new.held) (declared_text c.args.declared) c.in_ok-is_held.is_held
    c.in_ok-is_held.ensures.holds (λ q. c.in_ok-keep.ensures (record c.args.declared.text { now = q })) held
