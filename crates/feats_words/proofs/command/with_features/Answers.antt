use Rattle.std.proofs.Common.{[], ◌∷◌, codes}
use Rattle.feats_words.specs.Commands.{flag_rule, lettered_rule}
use Rattle.feats_words.proofs.Building.{joined}
use Rattle.feats_words.proofs.command.with_features.Goals as goal

pub returns : goal.returns
returns c = λ app made.
    let features = c.with_arg-command.ensures app (lettered_rule (codes "features") 70) c.lettered.ensures.rule made in
    let all = joined c.with_arg-command-2.result app (lettered_rule (codes "features") 70 ∷ []) (flag_rule (codes "all-features") ∷ []) (c.with_arg-command-2.ensures _ (flag_rule (codes "all-features")) c.flag.ensures.rule features) in
    joined c.with_arg.result app (lettered_rule (codes "features") 70 ∷ flag_rule (codes "all-features") ∷ []) (flag_rule (codes "no-default-features") ∷ []) (c.with_arg.ensures _ (flag_rule (codes "no-default-features")) c.flag-2.ensures.rule all)
