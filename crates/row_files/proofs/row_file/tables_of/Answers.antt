use Rattle.std.proofs.Common.{◌≡◌, Bool, true, false, refl}
use Rattle.std.proofs.lemmas.Str.{is_utf8-from_IsUtf8, IsUtf8-from_is_utf8}
use Rattle.std.specs.Str.{is_utf8}
use Rattle.row_files.proofs.row_file.tables_of.Goals as goal

no_text : (b : Bool) → (b ≡ true → ⊥) → b ≡ false
no_text true h = absurd (h refl)
no_text false h = refl

pub returns-in_default : goal.returns-in_default
returns-in_default c =
    let no : is_utf8 c.args.bytes.now ≡ false = no_text _ (λ h. c.in_default.ensures.cases.0 (IsUtf8-from_is_utf8 c.args.bytes.now h)) in
    rw no

pub returns : goal.returns
returns c = rw (is_utf8-from_IsUtf8 c.args.bytes.now c.in-Ok.ensures.cases.1, ← c.in-Ok.ensures.cases.0, ← c.in_ok-lines.ensures) c.tables_of_lines.ensures
