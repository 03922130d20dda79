use Rattle.std.proofs.Common.{◌≡◌, [], map, drop}
use Rattle.cargo_manifests.specs.EditViews.{edit_text}
use Rattle.cargo_manifests.specs.Edits.{with_edits}
use Rattle.cargo_manifests.proofs.same_edits.each_once.Given as goal

abbrev pub invariant-loop-edit : goal.invariant-loop-edit
invariant-loop-edit l = with_edits [] (map edit_text l.edits) ≡ with_edits (map edit_text l.listed.items) (map edit_text (drop l.edit-index l.edits))
