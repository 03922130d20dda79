use Rattle.std.proofs.Common.{[], ◌∷◌, ◌++◌, codes}
use Rattle.feats_words.specs.Commands.{feature_rules, flag_rule, lettered_rule, option_rule, repeated_rule, target_rules}
use Rattle.feats_words.proofs.Building.{joined}
use Rattle.feats_words.proofs.command.with_selection.Goals as goal

pub returns : goal.returns
returns c = λ app made.
    let packages = c.with_arg-command.ensures app (lettered_rule (codes "package") 112) c.lettered.ensures.rule made in
    let workspace = joined c.with_arg-command-2.result app (lettered_rule (codes "package") 112 ∷ []) (flag_rule (codes "workspace") ∷ []) (c.with_arg-command-2.ensures _ (flag_rule (codes "workspace")) c.flag.ensures.rule packages) in
    let exclude = joined c.with_arg-command-3.result app (lettered_rule (codes "package") 112 ∷ flag_rule (codes "workspace") ∷ []) (repeated_rule (codes "exclude") ∷ []) (c.with_arg-command-3.ensures _ (repeated_rule (codes "exclude")) c.repeated.ensures.rule workspace) in
    let before = lettered_rule (codes "package") 112 ∷ flag_rule (codes "workspace") ∷ repeated_rule (codes "exclude") ∷ [] in
    let features = joined c.with_features-command.result app before feature_rules (c.with_features-command.ensures _ exclude) in
    let targets = joined c.with_targets-command.result app (before ++ feature_rules) target_rules (c.with_targets-command.ensures _ features) in
    joined c.with_arg.result app (before ++ feature_rules ++ target_rules) (option_rule (codes "format") ∷ []) (c.with_arg.ensures _ (option_rule (codes "format")) c.format.ensures.rule targets)
