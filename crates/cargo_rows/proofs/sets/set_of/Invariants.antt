use Rattle.std.proofs.Common.{map, take}
use Rattle.workspace_documents.specs.Views.{text_view}
use Rattle.cargo_rows.specs.inner.Views.{HasTexts}
use Rattle.cargo_rows.proofs.sets.set_of.Given as goal

abbrev pub invariant-loop-id : goal.invariant-loop-id
invariant-loop-id l = HasTexts l.set (map text_view (take l.id-index l.ids))
