use Rattle.std.proofs.Common.{◌<◌, ◌≤◌, ◌∙◌, inl, inr, length, arith, [], ◌∷◌, length-append, refl}
use Rattle.std.proofs.lemmas.Bool.{cases_eq}
use Rattle.std.proofs.lemmas.List.{get_or_append_left, get_or_at}
use Rattle.digraphs.proofs.digraph.begins.begin_up_to.Goals as goal

pub loop-begins-preserved : goal.loop-begins-preserved
loop-begins-preserved c =
    let begins = c.loop-begins.begins.items in
    let i = c.loop-begins.invariant in
    let long = length-append begins (c.args.place ∷ []) in
    let low : length begins ≤ c.args.node = omega arith in
    rw c.in_ok-push.ensures.items
    (record {
      longer = omega (arith, i.longer, long);
      few = inl (omega (arith, low, long));
      kept = λ v h. get_or_append_left begins (c.args.place ∷ []) 0 v (omega (arith, h, i.longer)) ∙ i.kept v h;
      added = λ v ge h.
          elim (cases_eq v (length begins)) [
            | inl e ↦ rw (e, get_or_at begins c.args.place [] 0 (length begins) refl) refl
            | inr ne ↦ let l : v < length begins = omega (arith, h, ne, long) in get_or_append_left begins (c.args.place ∷ []) 0 v l ∙ i.added v ge l
          ];
    })
