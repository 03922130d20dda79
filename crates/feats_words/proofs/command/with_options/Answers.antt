use Rattle.std.proofs.Common.{[], ◌∷◌, ◌++◌}
use Rattle.feats_words.specs.Commands.{document_rule, platform_rules, selection_rules}
use Rattle.feats_words.proofs.Building.{joined}
use Rattle.feats_words.proofs.command.with_options.Goals as goal

pub returns : goal.returns
returns c = λ app made.
    joined c.with_common.result app (document_rule ∷ []) (platform_rules ++ selection_rules) (c.with_common.ensures _ (c.with_arg-command.ensures app document_rule c.required.ensures.rule made))
