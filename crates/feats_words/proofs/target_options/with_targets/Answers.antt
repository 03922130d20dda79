use Rattle.std.proofs.Common.{[], ◌∷◌, ◌++◌, codes}
use Rattle.feats_words.specs.Commands.{flag_rule, kind_rules, option_rule}
use Rattle.feats_words.proofs.Building.{joined}
use Rattle.feats_words.proofs.target_options.with_targets.Goals as goal

pub returns : goal.returns
returns c = λ app made.
    let command = c.with_arg-command.ensures app (option_rule (codes "command")) c.option.ensures.rule made in
    let lib = joined c.with_arg-command-2.result app (option_rule (codes "command") ∷ []) (flag_rule (codes "lib") ∷ []) (c.with_arg-command-2.ensures _ (flag_rule (codes "lib")) c.flag.ensures.rule command) in
    let first = option_rule (codes "command") ∷ flag_rule (codes "lib") ∷ [] in
    let bins = joined c.with_kind-command.result app first (kind_rules (codes "bins") (codes "bin")) (c.with_kind-command.ensures _ lib) in
    let second = first ++ kind_rules (codes "bins") (codes "bin") in
    let examples = joined c.with_kind-command-2.result app second (kind_rules (codes "examples") (codes "example")) (c.with_kind-command-2.ensures _ bins) in
    let third = second ++ kind_rules (codes "examples") (codes "example") in
    let tests = joined c.with_kind-command-3.result app third (kind_rules (codes "tests") (codes "test")) (c.with_kind-command-3.ensures _ examples) in
    let fourth = third ++ kind_rules (codes "tests") (codes "test") in
    let benches = joined c.with_kind-command-4.result app fourth (kind_rules (codes "benches") (codes "bench")) (c.with_kind-command-4.ensures _ tests) in
    let fifth = fourth ++ kind_rules (codes "benches") (codes "bench") in
    joined c.with_arg.result app fifth (flag_rule (codes "all-targets") ∷ []) (c.with_arg.ensures _ (flag_rule (codes "all-targets")) c.flag-2.ensures.rule benches)
