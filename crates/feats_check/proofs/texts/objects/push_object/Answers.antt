use Rattle.std.proofs.Common.{◌∙◌, List, ◌∷◌, ◌++◌, ap}
use Rattle.json.specs.Token.{Token, begin_object}
use Rattle.feats_policies.specs.Views.{rule_text}
use Rattle.feats_check.specs.texts.Objects.{rule_members}
use Rattle.feats_lines.proofs.Tokens.{ended}
use Rattle.feats_check.proofs.texts.objects.push_object.Goals as goal

pub returns : goal.returns
returns c =
    let members = rule_members c.args.judged (rule_text c.args.rule) in
    ended c.end_line.result (λ v. v.items) c.write_rule.new.writer c.args.text.items (begin_object ∷ members)
    (c.in_ok-write_rule.ensures.before ∙ c.in_ok-writer.ensures.before)
    (c.in_ok-write_rule.ensures.tokens ∙ ap (λ (tokens : List Token). tokens ++ members) c.in_ok-writer.ensures.tokens)
    c.end_line.ensures
