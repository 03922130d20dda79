use Rattle.std.proofs.Common.{◌≡◌, map, drop}
use Rattle.std.specs.List.{list_any}
use Rattle.std.specs.Str.{bytes_eq}
use Rattle.workspace_documents.specs.Views.{text_view}
use Rattle.cargo_rows.proofs.warnings.is_among.Given as goal

abbrev pub invariant-loop-other : goal.invariant-loop-other
invariant-loop-other l =
    list_any (bytes_eq l.text) (map text_view l.texts) ≡ list_any (bytes_eq l.text) (map text_view (drop l.other-index l.texts))
