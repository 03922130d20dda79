use Rattle.std.proofs.Common.{◌≡◌, ◌≤◌, ◌==◌, ◌+◌, ◌-◌, ◌++◌, [], ◌∷◌, true, false, length, take, drop, slice_index, subst, sym, ap, ◌∙◌, arith, refl}
use Rattle.std.proofs.lemmas.Bool.{eqb-true}
use Rattle.std.proofs.lemmas.Str.{IsCharBoundary-start, IsCharBoundary-before_ascii, IsCharBoundary-after_ascii}
use Rattle.guppy_packages.specs.Rows.{texts}
use Rattle.row_files.specs.Lines.{kept_lines, lines_in}
use Rattle.row_files.specs.RowFile.{lines_of}
use Rattle.row_files.specs.inner.CutLines.{kept_line}
use Rattle.memchr.specs.Find.{is_byte2, places_between}
use Rattle.row_files.proofs.CutLemmas.{begun, next_number, not_both, past_end, past_field}
use Rattle.row_files.proofs.PlaceLemmas.{next_end, no_end, parted, ended_by_ascii, is_tab}
use Rattle.row_files.proofs.lines.Lines.of.Goals as goal

pub loop-end-init : goal.loop-end-init
loop-end-init c =
    let text = c.args.text.now in
    let places : c.into_iter-end-iterator.result ≡ places_between (is_byte2 9 10) text 0 (length text) =
    c.into_iter-end-iterator.ensures.into_iter_gives ∙ c.memchr2_iter-end-items.ensures.value ∙ ap (λ bs. places_between (is_byte2 9 10) bs 0 (length bs)) c.as_bytes-bytes.ensures.value in
    (places, omega arith, omega arith, IsCharBoundary-start text c.utf8.text, rw (c.new.ensures.items, c.new-2.ensures.items, c.new-fields.ensures.items) (begun text))

pub range-requires-clause-start_le_end : goal.range-requires-clause-start_le_end
range-requires-clause-start_le_end c =
    let inv = c.loop-end.invariant in
    (next_end c.args.text.now c.loop-end.start c.in-Some.end c.next.new.self inv.1 (sym inv.0 ∙ c.in-Some.ensures.steps)).0.low

pub range-requires-clause-end_boundary : goal.range-requires-clause-end_boundary
range-requires-clause-end_boundary c =
    let inv = c.loop-end.invariant in
    let ends = (next_end c.args.text.now c.loop-end.start c.in-Some.end c.next.new.self inv.1 (sym inv.0 ∙ c.in-Some.ensures.steps)).0 in
    IsCharBoundary-before_ascii c.args.text.now c.in-Some.end ends.high (ended_by_ascii _ ends.ends)

pub bounds-bytes-end : goal.bounds-bytes-end
bounds-bytes-end c =
    let inv = c.loop-end.invariant in
    let ends = (next_end c.args.text.now c.loop-end.start c.in-Some.end c.next.new.self inv.1 (sym inv.0 ∙ c.in-Some.ensures.steps)).0 in
    omega (arith, ends.high, ap length c.as_bytes-bytes.ensures.value)

pub loop-end-preserved : goal.loop-end-preserved
loop-end-preserved c =
    let text = c.args.text.now in
    let inv = c.loop-end.invariant in
    let found = next_end text c.loop-end.start c.in-Some.end c.next.new.self inv.1 (sym inv.0 ∙ c.in-Some.ensures.steps) in
    let ends = found.0 in
    let after = IsCharBoundary-after_ascii text c.in-Some.end c.utf8.text ends.high (ended_by_ascii _ ends.ends) in
    let byte : slice_index c.as_bytes-bytes.result.now c.in-Some.end ≡ slice_index text c.in-Some.end = ap (λ bs. slice_index bs c.in-Some.end) c.as_bytes-bytes.ensures.value in
    let field = take (c.in-Some.end - c.loop-end.start) (drop c.loop-end.start text) in
    let rest = drop (c.in-Some.end + 1) text in
    let left : drop c.loop-end.start text ≡ field ++ slice_index text c.in-Some.end ∷ rest = parted text c.loop-end.start c.in-Some.end ends in
    let b = slice_index c.as_bytes-bytes.result.now c.in-Some.end in
    let feed : (b == 10) ≡ true → drop c.loop-end.start text ≡ field ++ 10 ∷ rest = λ e. left ∙ ap (λ x. field ++ x ∷ rest) (sym byte ∙ eqb-true b 10 e) in
    let tab : (b == 10) ≡ false → drop c.loop-end.start text ≡ field ++ 9 ∷ rest = λ e. left ∙ ap (λ x. field ++ x ∷ rest) (is_tab _ ends.ends (λ at. not_both (b == 10) (ap (λ x. x == 10) (byte ∙ at)) e)) in
    let past = past_field (lines_of c.loop-end.lines) c.loop-end.number (texts c.loop-end.fields.items) (drop c.loop-end.start text) field (kept_lines 1 (lines_in text)) inv.4 ends.plain (b == 10) rest feed tab in
    let given = c.in_ok-number.ensures in
    let next : c.in_ok-number.number ≤ c.loop-end.number + 1 = subst (λ n. n ≤ c.loop-end.number + 1) (sym given.number) (next_number (b == 10) c.loop-end.number) in
    (found.1, omega (arith, ends.high), omega (arith, ends.low, inv.2), after, rw (given.lines, given.fields, given.number, c.range.ensures.value) past)

pub returns : goal.returns
returns c =
    let text = c.args.text.now in
    let inv = c.loop-end.invariant in
    let plain = no_end text c.loop-end.start inv.1 (sym inv.0 ∙ c.in-None.ensures.steps.0) in
    let left = drop c.loop-end.start text in
    let added : lines_of c.end_field-2.new.self ≡ lines_of c.loop-end.lines ++ kept_line c.loop-end.number (texts c.loop-end.fields.items ++ c.range_from.result.now ∷ []) = c.in_ok-end_field.ensures.lines in
    added ∙ ap (λ t. lines_of c.loop-end.lines ++ kept_line c.loop-end.number (texts c.loop-end.fields.items ++ t ∷ [])) c.range_from.ensures.value
    ∙ past_end (lines_of c.loop-end.lines) c.loop-end.number (texts c.loop-end.fields.items) left left (kept_lines 1 (lines_in text)) inv.4 plain refl
