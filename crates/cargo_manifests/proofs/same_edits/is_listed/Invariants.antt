use Rattle.std.proofs.Common.{◌≡◌, map, drop}
use Rattle.std.specs.List.{list_any}
use Rattle.cargo_manifests.specs.EditViews.{edit_text}
use Rattle.cargo_manifests.specs.Edits.{is_same_edit}
use Rattle.cargo_manifests.proofs.same_edits.is_listed.Given as goal

abbrev pub invariant-loop-other : goal.invariant-loop-other
invariant-loop-other l =
    let test = is_same_edit (edit_text l.edit) in
    list_any test (map edit_text l.listed) ≡ list_any test (map edit_text (drop l.other-index l.listed))
