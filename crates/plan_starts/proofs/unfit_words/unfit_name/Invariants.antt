use Rattle.std.proofs.Common.{◌≡◌, map, drop}
use Rattle.cargo_workspaces.specs.Views.{package_text, texts}
use Rattle.plan_starts.specs.Lists.{first_some}
use Rattle.plan_starts.specs.UnfitWords as spec
use Rattle.plan_starts.proofs.unfit_words.unfit_name.Given as goal

abbrev pub invariant-loop-word : goal.invariant-loop-word
invariant-loop-word l =
    let f = spec.unfit_name (map package_text l.packages) l.selected l.kind in
    first_some f (texts l.words) ≡ first_some f (texts (drop l.word-index l.words))
