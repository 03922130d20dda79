use Rattle.std.proofs.Common.{◌≡◌, ◌==◌, ◌∙◌, ap, sym, subst, lit<, append-nil, Ok}
use Rattle.std.proofs.lemmas.Iterator.{YieldsList}
use Rattle.std.proofs.lemmas.Iterator.Splits.{YieldsList-from_str_split}
use Rattle.std.specs.List.{slice_split}
use Rattle.std.specs.Str.Iter.{split_steps}
use Rattle.std.specs.Str.Pattern.{FindsChar}
use Rattle.guppy_tool.specs.Faults.{usage}
use Rattle.guppy_tool.specs.Words.{kind_in, kinds_in}
use Rattle.row_files.specs.FirstFault.{each_or}
use Rattle.row_files.proofs.FirstFaultLemmas.{with_front, none_yet, one_refused, one_given}
use Rattle.guppy_tool.proofs.WordLemmas.{next_yielded, none_yielded}
use Rattle.guppy_tool.proofs.words.kinds.Goals as goal

pub loop-part-init : goal.loop-part-init
loop-part-init c =
    let parts = slice_split (λ b. b == 44) c.args.word.now in (
      parts,
      subst (λ i. YieldsList (split_steps FindsChar (λ a b. b ≡ a)) (λ t. t.now) i parts) (sym c.into_iter-part-iterator.ensures.into_iter_gives)
          (YieldsList-from_str_split 44 c.args.word.now (lit< tt) c.split-part-items.ensures.text c.split-part-items.ensures.has_more c.split-part-items.ensures.pattern),
      ap (λ kinds. with_front kinds (kinds_in c.args.word.now)) c.new-kinds.ensures.items ∙ none_yet kind_in (λ part. usage) parts (kinds_in c.args.word.now),
    )

pub returns-in_default : goal.returns-in_default
returns-in_default c =
    let so_far = c.loop-part.invariant in
    let next = next_yielded _ _ c.loop-part.part-iterator c.next.new.self c.in-Some.part so_far.0 so_far.1 c.in-Some.ensures.steps in
    one_refused kind_in (λ part. usage) _ c.in-Some.part.now so_far.0 next.0 (slice_split (λ b. b == 44) c.args.word.now) so_far.2 next.1 (sym c.kind.ensures ∙ c.in_default.is)

pub loop-part-preserved : goal.loop-part-preserved
loop-part-preserved c =
    let so_far = c.loop-part.invariant in
    let next = next_yielded _ _ c.loop-part.part-iterator c.next.new.self c.in-Some.part so_far.0 so_far.1 c.in-Some.ensures.steps in (
      next.0,
      next.2,
      rw c.in_ok-push.ensures.items
          (one_given kind_in (λ part. usage) _ c.in-Some.part.now so_far.0 next.0 (slice_split (λ b. b == 44) c.args.word.now) c.in-Some-kind.kind so_far.2 next.1 (sym c.kind.ensures ∙ c.in-Some-kind.is)),
    )

pub returns : goal.returns
returns c =
    let so_far = c.loop-part.invariant in
    sym so_far.2
    ∙ ap (λ parts. with_front c.loop-part.kinds.items (each_or kind_in (λ part. usage) parts)) (none_yielded _ _ c.loop-part.part-iterator c.next.new.self so_far.0 so_far.1 c.in-None.ensures.steps)
    ∙ ap Ok (append-nil c.loop-part.kinds.items)
