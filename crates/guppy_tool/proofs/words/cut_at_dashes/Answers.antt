use Rattle.std.proofs.Common.{◌∙◌, sym}
use Rattle.guppy_tool.specs.Words.{is_dashes}
use Rattle.guppy_tool.proofs.WordLemmas.{before_place, after_place, all_before, none_after}
use Rattle.guppy_tool.proofs.words.cut_at_dashes.Goals as goal

pub returns-in-Some-clause-before : goal.returns-in-Some-clause-before
returns-in-Some-clause-before c = before_place (λ word. word.now) is_dashes c.args.words.now c.in-Some.place (sym c.place_of_dashes.ensures ∙ c.in-Some.is)

pub returns-in-Some-clause-after : goal.returns-in-Some-clause-after
returns-in-Some-clause-after c = after_place (λ word. word.now) is_dashes c.args.words.now c.in-Some.place (sym c.place_of_dashes.ensures ∙ c.in-Some.is)

pub returns-in-None-clause-before : goal.returns-in-None-clause-before
returns-in-None-clause-before c = all_before (λ word. word.now) is_dashes c.args.words.now (sym c.place_of_dashes.ensures ∙ c.in-None.is)

pub returns-in-None-clause-after : goal.returns-in-None-clause-after
returns-in-None-clause-after c = none_after (λ word. word.now) is_dashes c.args.words.now (sym c.place_of_dashes.ensures ∙ c.in-None.is)
