use Rattle.std.proofs.Common.{◌≡◌, drop}
use Rattle.std.specs.List.{list_any}
use Rattle.cargo_workspaces.specs.Views.{package_text, texts}
use Rattle.plan_words.specs.PackageWords as spec
use Rattle.plan_words.proofs.package_words.is_excluded.Given as goal

abbrev pub invariant-loop-word : goal.invariant-loop-word
invariant-loop-word l =
    list_any (spec.excludes (package_text l.package)) (texts l.words) ≡ list_any (spec.excludes (package_text l.package)) (texts (drop l.word-index l.words))
