use Rattle.std.proofs.Common.{codes}
use Rattle.feats_words.specs.Commands.{flag_rule, report_rule}
use Rattle.feats_words.proofs.command.plan_command.Goals as goal

pub returns : goal.returns
returns c =
    let summary = c.with_arg-command.ensures _ (flag_rule (codes "summary")) c.flag.ensures.rule c.begun-command.ensures in
    c.with_options.ensures _ (c.with_arg.ensures _ report_rule c.report_flag.ensures.rule summary)
