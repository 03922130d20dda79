use Rattle.std.proofs.Common.{◌≡◌, ◌++◌, map, drop}
use Rattle.cargo_workspaces.specs.Views.{texts}
use Rattle.feats_diff.specs.texts.Views.{turned_text}
use Rattle.feats_diff.proofs.texts.objects.whys_of.Given as goal

abbrev pub invariant-loop-one : goal.invariant-loop-one
invariant-loop-one l =
    map (λ t. t.why) (map turned_text l.comes) ≡ texts l.whys.items ++ map (λ t. t.why) (map turned_text (drop l.one-index l.comes))
