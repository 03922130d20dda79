use Rattle.std.proofs.Common.{◌≡◌, length, rules, sym, ap, ◌∙◌, arith, vec_len}
use Rattle.guppy_packages.specs.Rows.{texts}
use Rattle.row_files.specs.declared.line.Line.{Line}
use Rattle.row_files.proofs.RowLemmas.{length-line_texts, number_at}
use Rattle.row_files.proofs.lines.Lines.line_number.Goals as goal

pub index-requires : goal.index-requires
index-requires c =
    let lines = c.args.self.now.lines in
    let count : vec_len lines ≡ length lines.items = search rules in
    omega (arith, c.requires, count, length-line_texts (texts c.args.self.now.kept.items) 0 lines.items)

pub returns : goal.returns
returns c =
    let kept = texts c.args.self.now.kept.items in
    let lines = c.args.self.now.lines.items in
    sym (number_at kept 0 lines c.args.at c.index.result.now (omega (arith, length-line_texts kept 0 lines, c.requires)) ∙ ap (λ (l : Line). l.number) (sym c.index.ensures))
