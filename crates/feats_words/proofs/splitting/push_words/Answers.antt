use Rattle.std.proofs.Common.{◌∙◌, ◌++◌, ap, sym, append-nil, append_assoc}
use Rattle.std.specs.Str.Iter.{split_ascii_whitespace_text}
use Rattle.feats_words.specs.FeatureWords.{between_commas, words_in}
use Rattle.feats_words.specs.Requests.{texts}
use Rattle.feats_words.proofs.Words.{no_word, word_cut}
use Rattle.feats_words.proofs.splitting.push_words.Goals as goal

pub loop-part-init : goal.loop-part-init
loop-part-init c = ap (λ rest. texts c.args.words.now.items ++ words_in rest) (sym (ap split_ascii_whitespace_text c.into_iter-part-iterator.ensures.into_iter_gives ∙ c.split_ascii_whitespace-part-items.ensures.text))

pub loop-part-preserved : goal.loop-part-preserved
loop-part-preserved c =
    let left = split_ascii_whitespace_text c.next.new.self in
    c.loop-part.invariant
    ∙ ap (λ ws. texts c.loop-part.words.items ++ ws) (word_cut (split_ascii_whitespace_text c.loop-part.part-iterator) left c.in-Some.part c.in-Some.ensures.steps)
    ∙ sym (append_assoc (texts c.loop-part.words.items) (between_commas c.in-Some.part.now) (words_in left))
    ∙ ap (λ ws. ws ++ words_in left) (sym c.in_ok-push_between_commas.ensures)

pub returns : goal.returns
returns c = sym (c.loop-part.invariant
    ∙ ap (λ ws. texts c.loop-part.words.items ++ ws) (no_word (split_ascii_whitespace_text c.loop-part.part-iterator) (split_ascii_whitespace_text c.next.new.self) c.in-None.ensures.steps)
    ∙ append-nil (texts c.loop-part.words.items))
