-- How each form writes a control character.
use Rattle.std.specs.Prelude.{ℕ, List}
use Rattle.shown_texts.specs.Escapes.{escape, json_escape}
use Rattle.shown_texts.specs.Shown.{but_line_feeds}
use Rattle.shown_texts.specs.declared.escapes.Form.{Form}
use Rattle.shown_texts.specs.declared.escapes.Form.TheVariants as form

abbrev pub written_in : Form → ℕ → List ℕ
written_in form.Line = escape
written_in form.Text = but_line_feeds escape
written_in form.Json = but_line_feeds json_escape
