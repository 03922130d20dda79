use Rattle.std.proofs.Common.{◌≡◌, ◌∙◌, length, rules, sym, vec_len}
use Rattle.guppy_packages.specs.Rows.{texts}
use Rattle.row_files.proofs.RowLemmas.{length-line_texts}
use Rattle.row_files.proofs.lines.Lines.line_count.Goals as goal

pub returns : goal.returns
returns c =
    let lines = c.args.self.now.lines in
    let count : vec_len lines ≡ length lines.items = search rules in
    c.len.ensures ∙ count ∙ sym (length-line_texts (texts c.args.self.now.kept.items) 0 lines.items)
