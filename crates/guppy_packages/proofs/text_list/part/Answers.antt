use Rattle.std.proofs.Common.{arith}
use Rattle.std.proofs.lemmas.Str.{IsCharBoundary-start}
use Rattle.guppy_packages.proofs.PartLemmas.{part_at}
use Rattle.guppy_packages.proofs.text_list.part.Goals as goal

pub range-requires-clause-start_le_end : goal.range-requires-clause-start_le_end
range-requires-clause-start_le_end c =
    let part = part_at 0 c.args.ends.now c.args.text.now c.args.at c.requires.within (IsCharBoundary-start c.args.text.now c.utf8.text) c.requires.cut in
    omega (arith, part.ascends, c.start-start.ensures, c.end-end.ensures)

pub range-requires-clause-start_boundary : goal.range-requires-clause-start_boundary
range-requires-clause-start_boundary c =
    let part = part_at 0 c.args.ends.now c.args.text.now c.args.at c.requires.within (IsCharBoundary-start c.args.text.now c.utf8.text) c.requires.cut in
    λ positive. rw c.start-start.ensures part.start_cut

pub range-requires-clause-end_boundary : goal.range-requires-clause-end_boundary
range-requires-clause-end_boundary c =
    let part = part_at 0 c.args.ends.now c.args.text.now c.args.at c.requires.within (IsCharBoundary-start c.args.text.now c.utf8.text) c.requires.cut in
    rw c.end-end.ensures part.end_cut

pub returns : goal.returns
returns c =
    let part = part_at 0 c.args.ends.now c.args.text.now c.args.at c.requires.within (IsCharBoundary-start c.args.text.now c.utf8.text) c.requires.cut in
    rw (c.range.ensures.value, c.start-start.ensures, c.end-end.ensures) part.part
