-- The values that Rust's types contain.
use Rattle.std.specs.Prelude.{map, option_map}
use Rattle.cargo_workspaces.specs.Views.{texts}
use Rattle.plan_rows.specs.platforms.HeldSpecs.{holds_on}
use Rattle.feats_policies.specs.Views.{rule_text}
use Rattle.feats_check.specs.checking.Questions.{PrintedText, QuestionText}
use Rattle.feats_check.specs.declared.checking.question.PolicyQuestion.{PolicyQuestion}
use Rattle.feats_check.specs.declared.checking.question.PolicyText.{PolicyText}

abbrev pub question_text : PolicyQuestion → QuestionText
question_text q = record {
  format = q.format;
  file = q.file.now;
  rules = map rule_text q.rules.now;
  host = q.host.now;
  targets = texts q.targets.now;
  every = option_map (λ held. holds_on held.now) q.every;
}

abbrev pub printed_text : PolicyText → PrintedText
printed_text p = record { text = p.text.items; is_broken = p.is_broken }
