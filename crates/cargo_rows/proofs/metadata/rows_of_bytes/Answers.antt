use Rattle.std.specs.Prelude.{◌≡◌, Ok, IsSomeAnd}
use Rattle.std.specs.Str.{IsUtf8}
use Rattle.std.specs.String.{string_bytes}
use Rattle.std.proofs.lemmas.Str.{IsUtf8-string_bytes}
use Rattle.std.proofs.Common.{rules}
use Rattle.cargo_rows.specs.Document.{document}
use Rattle.cargo_rows.specs.Rows.{rows_of}
use Rattle.cargo_rows.proofs.metadata.rows_of_bytes.Goals as goal

pub returns-in-Ok-rows_of_document-clause-ok : goal.returns-in-Ok-rows_of_document-clause-ok
returns-in-Ok-rows_of_document-clause-ok c =
    let text = string_bytes c.in-Ok-rows_of_document.rows.text in
    let read : IsUtf8 c.args.bytes.items × IsSomeAnd (document c.args.bytes.items) (λ d. rows_of d ≡ Ok text) = search rules in
    (read.0, IsUtf8-string_bytes c.in-Ok-rows_of_document.rows.text, read.1)
