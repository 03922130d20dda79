use Rattle.std.proofs.Common.{◌≡◌, ◌++◌, flat_map, map, drop}
use Rattle.cargo_manifests.specs.inherited.InheritanceView.{inheritance_text}
use Rattle.cargo_manifests.specs.EditViews.{edit_text, without_text}
use Rattle.cargo_manifests.specs.Edits.{edit_of}
use Rattle.cargo_manifests.proofs.declaration_edits.push_parts.Given as goal

abbrev pub invariant-loop-part : goal.invariant-loop-part
invariant-loop-part l =
    let f = edit_of (inheritance_text l.inheritance) l.«package» l.number l.name in
    map edit_text l.initial.edits.items ++ flat_map f (map without_text l.parts) ≡ map edit_text l.edits.items ++ flat_map f (map without_text (drop l.part-index l.parts))
