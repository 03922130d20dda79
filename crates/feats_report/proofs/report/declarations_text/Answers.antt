use Rattle.std.proofs.Common.{◌∙◌, ap}
use Rattle.std.proofs.lemmas.Result.{IfOk-weaker}
use Rattle.cargo_plans.specs.built_parts.BuiltViews.{builds_in}
use Rattle.page_data.specs.Arrays.{array_of_lines}
use Rattle.feats_report.specs.Declarations.{declarations_of}
use Rattle.feats_report.proofs.report.declarations_text.Goals as goal

pub returns : goal.returns
returns c = IfOk-weaker c.array_of_lines.result _ _ (λ text h. h
    ∙ ap array_of_lines (c.deref.ensures.value ∙ c.in_ok-lines.ensures ∙ ap (declarations_of (builds_in c.args.built.now)) c.packages.ensures))
    c.array_of_lines.ensures.text
