use Rattle.std.proofs.Common.{[], ◌∷◌}
use Rattle.feats_words.specs.Commands.{flag_rule, repeated_rule}
use Rattle.feats_words.proofs.Building.{joined}
use Rattle.feats_words.proofs.target_options.with_kind.Goals as goal

pub returns : goal.returns
returns c = λ app made.
    let all = c.with_arg-command.ensures app (flag_rule c.args.all.now) c.flag.ensures.rule made in
    joined c.with_arg.result app (flag_rule c.args.all.now ∷ []) (repeated_rule c.args.name.now ∷ []) (c.with_arg.ensures _ (repeated_rule c.args.name.now) c.repeated.ensures.rule all)
