use Rattle.std.proofs.Common.{is_none, ◌-◌, ◌≡◌, Some, length, take, drop, rules, sym, ap, ◌∙◌, arith, vec_len}
use Rattle.std.proofs.lemmas.List.{length-map}
use Rattle.guppy_packages.specs.Rows.{texts}
use Rattle.row_files.specs.inner.KeptFields.{form_row}
use Rattle.row_files.proofs.RowLemmas.{known_at, length-line_texts, line_read, row_at_line, start_at}
use Rattle.row_files.proofs.rows.row_at.Goals as goal

pub index-line-requires : goal.index-line-requires
index-line-requires c =
    let lines = c.args.lines.now.lines in
    let count : vec_len lines ≡ length lines.items = search rules in
    omega (arith, c.requires.within, count, length-line_texts (texts c.args.lines.now.kept.items) 0 lines.items)

pub start-start-requires : goal.start-start-requires
start-start-requires c =
    let lines = c.args.lines.now.lines.items in
    omega (arith, c.requires.within, length-line_texts (texts c.args.lines.now.kept.items) 0 lines, ap length c.deref.ensures.value)

pub fields_between-requires-clause-ascends : goal.fields_between-requires-clause-ascends
fields_between-requires-clause-ascends c =
    let lines = c.args.lines.now.lines.items in
    let is = line_read (texts c.args.lines.now.kept.items) lines c.args.at c.index-line.result.now c.args.lines.now.each_kept c.requires.within c.index-line.ensures in
    let begin : c.start-start.result ≡ start_at 0 lines c.args.at = c.start-start.ensures ∙ ap (λ ls. start_at 0 ls c.args.at) c.deref.ensures.value in
    omega (arith, begin, is.kept_fields.ordered)

pub fields_between-requires-clause-within : goal.fields_between-requires-clause-within
fields_between-requires-clause-within c =
    let kept = c.args.lines.now.kept.items in
    let lines = c.args.lines.now.lines.items in
    let is = line_read (texts kept) lines c.args.at c.index-line.result.now c.args.lines.now.each_kept c.requires.within c.index-line.ensures in
    let long : length (texts kept) ≡ length kept = length-map _ _ in
    omega (arith, long, is.kept_fields.within, ap length c.deref-2.ensures.value)

pub row-requires : goal.row-requires
row-requires c =
    let kept = c.args.lines.now.kept.items in
    let lines = c.args.lines.now.lines.items in
    let line = c.index-line.result.now in
    let is = line_read (texts kept) lines c.args.at line c.args.lines.now.each_kept c.requires.within c.index-line.ensures in
    let begin : c.start-start.result ≡ start_at 0 lines c.args.at = c.start-start.ensures ∙ ap (λ ls. start_at 0 ls c.args.at) c.deref.ensures.value in
    ap (λ fs. is_none (form_row line.form (texts fs))) c.fields_between.ensures
    ∙ ap (λ fs. is_none (form_row line.form (texts (take (line.end - c.start-start.result) (drop c.start-start.result fs))))) c.deref-2.ensures.value
    ∙ ap (λ b. is_none (form_row line.form (texts (take (line.end - b) (drop b kept))))) begin
    ∙ known_at kept lines c.args.at line is c.requires.row

pub returns : goal.returns
returns c =
    let kept = c.args.lines.now.kept.items in
    let lines = c.args.lines.now.lines.items in
    let line = c.index-line.result.now in
    let is = line_read (texts kept) lines c.args.at line c.args.lines.now.each_kept c.requires.within c.index-line.ensures in
    let begin : c.start-start.result ≡ start_at 0 lines c.args.at = c.start-start.ensures ∙ ap (λ ls. start_at 0 ls c.args.at) c.deref.ensures.value in
    row_at_line kept lines c.args.at line is
    ∙ ap (λ b. Some (form_row line.form (texts (take (line.end - b) (drop b kept))))) (sym begin)
    ∙ ap (λ fs. Some (form_row line.form (texts (take (line.end - c.start-start.result) (drop c.start-start.result fs))))) (sym c.deref-2.ensures.value)
    ∙ ap (λ fs. Some (form_row line.form (texts fs))) (sym c.fields_between.ensures)
    ∙ ap Some c.row.ensures
