use Rattle.std.proofs.Common.{◌≡◌, ◌∙◌, [], ◌∷◌, ◌++◌, refl, ap, sym, subst, lit<, append-nil, append_assoc, filter}
use Rattle.std.proofs.lemmas.Iterator.{YieldsList}
use Rattle.std.proofs.lemmas.Iterator.Splits.{YieldsList-from_str_split}
use Rattle.std.proofs.lemmas.List.Elements.{filter-append}
use Rattle.std.specs.List.{slice_split}
use Rattle.std.specs.Str.Iter.{split_steps}
use Rattle.std.specs.Str.Pattern.{FindsChar}
use Rattle.feats_words.specs.FeatureWords.{is_comma, is_word}
use Rattle.feats_words.specs.Requests.{texts}
use Rattle.feats_words.proofs.Yields.{next_yielded, none_yielded}
use Rattle.feats_words.proofs.splitting.push_between_commas.Goals as goal

pub loop-part-init : goal.loop-part-init
loop-part-init c =
    let parts = slice_split is_comma c.args.text.now in (
      parts,
      subst (λ i. YieldsList (split_steps FindsChar (λ a b. b ≡ a)) (λ t. t.now) i parts) (sym c.into_iter-part-iterator.ensures.into_iter_gives)
          (YieldsList-from_str_split 44 c.args.text.now (lit< tt) c.split-part-items.ensures.text c.split-part-items.ensures.has_more c.split-part-items.ensures.pattern),
      refl,
    )

pub loop-part-preserved : goal.loop-part-preserved
loop-part-preserved c =
    let so_far = c.loop-part.invariant in
    let next = next_yielded _ _ c.loop-part.part-iterator c.next.new.self c.in-Some.part so_far.0 so_far.1 c.in-Some.ensures.steps in (
      next.0,
      next.2,
      so_far.2 ∙ ap (λ ps. texts c.loop-part.words.items ++ filter is_word ps) next.1
          ∙ ap (λ ws. texts c.loop-part.words.items ++ ws) (filter-append is_word (c.in-Some.part.now ∷ []) next.0)
          ∙ sym (append_assoc (texts c.loop-part.words.items) (filter is_word (c.in-Some.part.now ∷ [])) (filter is_word next.0))
          ∙ ap (λ ws. ws ++ filter is_word next.0) (sym c.in_ok-push_word.ensures),
    )

pub returns : goal.returns
returns c =
    let so_far = c.loop-part.invariant in
    sym (so_far.2
    ∙ ap (λ ps. texts c.loop-part.words.items ++ filter is_word ps) (none_yielded _ _ c.loop-part.part-iterator c.next.new.self so_far.0 so_far.1 c.in-None.ensures.steps)
    ∙ append-nil (texts c.loop-part.words.items))
