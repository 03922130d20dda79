-- The values that Rust's types contain.
use Rattle.std.specs.Prelude.{List, map, option_map}
use Rattle.std.specs.Borrow.{Bor}
use Rattle.feats_policies.specs.Lines.{Text}
use Rattle.feats_policies.specs.Rules.{KindText, RuleText, deny, deny_duplicates, require}
use Rattle.feats_policies.specs.declared.rule.Rule.{Rule}
use Rattle.feats_policies.specs.declared.rule.RuleKind.{RuleKind}
use Rattle.feats_policies.specs.declared.rule.RuleKind.TheVariants as kind

abbrev pub texts : List (Bor Text) → List Text
texts = map (λ t. t.now)

abbrev pub kind_text : RuleKind → KindText
kind_text (kind.Deny feature on) = deny feature.now (option_map (λ t. t.now) on)
kind_text (kind.Require feature) = require feature.now
kind_text (kind.DenyDuplicates spec) = deny_duplicates spec.now

abbrev pub rule_text : Rule → RuleText
rule_text r = record { line = r.line; kind = kind_text r.kind; reason = option_map (λ t. t.now) r.reason }
