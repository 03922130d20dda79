use Rattle.std.proofs.Common.{is_none, ap, ◌++◌, ◌∷◌, [], ◌∙◌, sym}
use Rattle.guppy_packages.specs.Rows.{texts}
use Rattle.row_files.specs.RowOfLine.{row_of}
use Rattle.row_files.specs.RowFile.{lines_of}
use Rattle.row_files.specs.inner.KeptFields.{kept_of}
use Rattle.row_files.proofs.LineLemmas.{lines_pushed, texts_pushed}
use Rattle.row_files.proofs.lines.Lines.push.Goals as goal

pub returns-in-Ok : goal.returns-in-Ok
returns-in-Ok c =
    let kept = texts c.args.self.now.kept.items in
    let more = kept_of c.form_of-form.result (texts c.args.fields.now) in
    let row = c.form_of-form.ensures.row ∙ ap row_of (sym c.form_of-form.ensures.fields) in
    let known = ap is_none c.form_of-form.ensures.row ∙ c.form_of-form.ensures.known in
    rw (c.in-Ok.ensures.line, c.in-Ok.ensures.added) (texts_pushed kept more c.args.number c.form_of-form.result row known 0 c.args.self.now.lines.items c.args.self.now.each_kept)
    ∙ ap (λ fs. lines_of c.args.self.now ++ (c.args.number, fs) ∷ []) c.form_of-form.ensures.fields

pub invariant_of-self : goal.invariant_of-self
invariant_of-self c =
    let kept = texts c.args.self.now.kept.items in
    let more = kept_of c.form_of-form.result (texts c.args.fields.now) in
    let row = c.form_of-form.ensures.row ∙ ap row_of (sym c.form_of-form.ensures.fields) in
    let known = ap is_none c.form_of-form.ensures.row ∙ c.form_of-form.ensures.known in
    record { each_kept = rw (c.in-Ok.ensures.line, c.in-Ok.ensures.added) (lines_pushed kept more c.args.number c.form_of-form.result row known 0 c.args.self.now.lines.items c.args.self.now.each_kept) }
