use Rattle.std.proofs.Common.{◌≡◌, ◌++◌, drop, map}
use Rattle.std.specs.Prelude.{filter}
use Rattle.cargo_plans.specs.built_parts.BuiltViews.{is_built_in}
use Rattle.plan_names.specs.Views.{named_text}
use Rattle.feats_answers.specs.Parts.{is_anywhere}
use Rattle.feats_answers.proofs.why_parts.built_among.Given as goal

abbrev pub invariant-loop-candidate : goal.invariant-loop-candidate
invariant-loop-candidate l =
    let built = filter (is_anywhere (is_built_in l.built)) in
    built (map named_text l.candidates) ≡ map named_text l.named.items ++ built (map named_text (drop l.candidate-index l.candidates))
