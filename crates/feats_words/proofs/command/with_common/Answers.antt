use Rattle.feats_words.specs.Commands.{platform_rules, selection_rules}
use Rattle.feats_words.proofs.Building.{joined}
use Rattle.feats_words.proofs.command.with_common.Goals as goal

pub returns : goal.returns
returns c = λ app made.
    joined c.with_selection.result app platform_rules selection_rules (c.with_selection.ensures _ (c.with_platforms.ensures app made))
