use Rattle.std.proofs.Common.{[], ◌∷◌, codes}
use Rattle.feats_words.specs.Commands.{option_rule, repeated_rule, required_rule}
use Rattle.feats_words.proofs.Building.{joined}
use Rattle.feats_words.proofs.command.with_platforms.Goals as goal

pub returns : goal.returns
returns c = λ app made.
    let host = c.with_arg-command.ensures app (required_rule (codes "host")) c.required.ensures.rule made in
    let targets = joined c.with_arg-command-2.result app (required_rule (codes "host") ∷ []) (repeated_rule (codes "target") ∷ []) (c.with_arg-command-2.ensures _ (repeated_rule (codes "target")) c.repeated.ensures.rule host) in
    let resolver = joined c.with_arg-command-3.result app (required_rule (codes "host") ∷ repeated_rule (codes "target") ∷ []) (option_rule (codes "resolver") ∷ []) (c.with_arg-command-3.ensures _ (option_rule (codes "resolver")) c.option.ensures.rule targets) in
    joined c.with_arg.result app (required_rule (codes "host") ∷ repeated_rule (codes "target") ∷ option_rule (codes "resolver") ∷ []) (option_rule (codes "manifest") ∷ []) (c.with_arg.ensures _ (option_rule (codes "manifest")) c.option-2.ensures.rule resolver)
