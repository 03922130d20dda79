use Rattle.std.proofs.Common.{◌≡◌, Some, length, rules, sym, ap, ◌∙◌, arith, vec_len}
use Rattle.guppy_packages.specs.Rows.{texts}
use Rattle.row_files.proofs.RowLemmas.{length-line_texts, line_read, malformed_at}
use Rattle.row_files.proofs.lines.Lines.is_malformed.Goals as goal

pub index-requires : goal.index-requires
index-requires c =
    let lines = c.args.self.now.lines in
    let count : vec_len lines ≡ length lines.items = search rules in
    omega (arith, c.requires, count, length-line_texts (texts c.args.self.now.kept.items) 0 lines.items)

pub returns : goal.returns
returns c =
    let kept = c.args.self.now.kept.items in
    let lines = c.args.self.now.lines.items in
    let is = line_read (texts kept) lines c.args.at c.index.result.now c.args.self.now.each_kept c.requires c.index.ensures in
    malformed_at kept lines c.args.at c.index.result.now is ∙ ap Some (sym c.is_malformed.ensures)
