use Rattle.std.proofs.Common.{◌≡◌, ◌∙◌, ℕ, Bool, List, sym, ap, subst, set, true, false}
use Rattle.feats_unused.specs.inner.Marks.{Marks, flag}
use Rattle.feats_unused.proofs.MarkLemmas.{marks_none, marks_one}
use Rattle.feats_unused.proofs.used.mark.Goals as goal

pub returns-then-flag_at : goal.returns-then-flag_at
returns-then-flag_at c = record {
  marks = marks_none _ c.args.used.now.items c.args.waiting.now.items;
  marked = sym (c.if-flag_at.ensures ∙ ap (λ (fs : List Bool). flag fs c.args.number) c.deref.ensures.value);
}

pub returns-clause-marks : goal.returns-clause-marks
returns-clause-marks c =
    let used = c.args.used.now.items in
    let number = c.args.number in
    let off : flag used number ≡ false = sym (c.flag_at.ensures ∙ ap (λ (fs : List Bool). flag fs number) c.deref.ensures.value) ∙ c.if-flag_at.false in
    subst (λ (z : List ℕ). Marks (λ k. k ≡ number) used (set used number true) c.args.waiting.now.items z) (sym c.in_ok-push.ensures.items) (marks_one used c.args.waiting.now.items number c.requires off)
