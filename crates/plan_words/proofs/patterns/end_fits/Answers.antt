use Rattle.std.proofs.Common.{rules, arith, ◌∙◌, ap, sym, lit<, Some, None}
use Rattle.std.specs.List.{list_any}
use Rattle.std.proofs.lemmas.Str.Pattern.{ends_text, split_parts}
use Rattle.cargo_workspaces.specs.Workspaces.{Text}
use Rattle.plan_words.specs.Patterns.{ends_of, fits}
use Rattle.plan_words.proofs.PatternFits.{after_first_place, last_part, without_place}
use Rattle.plan_words.proofs.patterns.end_fits.Goals as goal

pub returns-in-None : goal.returns-in-None
returns-in-None c =
    let text = c.loop-part.text_left.now in
    let parts = split_parts 42 c.loop-part.pattern_left.now (Some (c.in-Some.part, c.in-Some.rest)) c.in-Some.ensures.cases (lit< tt) in
    sym (c.loop-part.invariant.2 ∙ ap (λ (p : Text). list_any (fits p) (ends_of text)) parts.0 ∙ without_place c.in-Some.part.now c.in-Some.rest.now text parts.1 c.in-None.ensures.cases)

pub loop-part-preserved : goal.loop-part-preserved
loop-part-preserved c =
    let text = c.loop-part.text_left.now in
    let part = c.in-Some.part.now in
    let rest = c.in-Some.rest.now in
    let parts = split_parts 42 c.loop-part.pattern_left.now (Some (c.in-Some.part, c.in-Some.rest)) c.in-Some.ensures.cases (lit< tt) in
    let cut = c.in-Some-split_once.ensures.cases in
    let found = cut.2 in (
      search rules,
      search rules,
      c.loop-part.invariant.2 ∙ ap (λ (p : Text). list_any (fits p) (ends_of text)) parts.0
          ∙ after_first_place part rest text cut.0 cut.1 parts.1 found.0 found.1.split found.1.ends (omega (arith, cut.5, cut.7))
          ∙ ap (λ (t : Text). list_any (fits rest) (ends_of t)) (sym cut.4),
    )

pub returns : goal.returns
returns c =
    let text = c.loop-part.text_left.now in
    let pattern = c.loop-part.pattern_left.now in
    let none = split_parts 42 pattern None c.in_default.ensures.cases (lit< tt) in
    ends_text c.ends_with.result pattern text c.ends_with.ensures.cases ∙ sym (c.loop-part.invariant.2 ∙ last_part pattern text none)
