use Rattle.std.proofs.Common.{◌≡◌, ◌++◌, flat_map, map, drop}
use Rattle.cargo_workspaces.specs.Views.{package_text}
use Rattle.feats_slim.specs.edits.SlimViews.{slim_text}
use Rattle.feats_slim.specs.answers.Shown.{all_shown, shown_of}
use Rattle.feats_slim.specs.answers.Views.{shown_text}
use Rattle.feats_slim.proofs.answers.shown.all_shown.Given as goal

abbrev pub invariant-loop-slim : goal.invariant-loop-slim
invariant-loop-slim l =
    let packages = map package_text l.packages in
    all_shown packages (map slim_text l.slims) ≡ map shown_text l.shown.items ++ flat_map (shown_of packages) (map slim_text (drop l.slim-index l.slims))
