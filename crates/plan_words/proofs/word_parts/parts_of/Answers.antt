use Rattle.std.proofs.Common.{lit<, refl}
use Rattle.plan_words.specs.FeatureWords.{is_slash}
use Rattle.plan_words.proofs.Texts.{list_any-absent}
use Rattle.plan_words.proofs.word_parts.parts_of.Goals as goal

pub returns-in-None : goal.returns-in-None
returns-in-None c = rw (list_any-absent is_slash c.args.word.now (c.in-None.ensures.byte (lit< tt) (λ w o h. h))) refl
