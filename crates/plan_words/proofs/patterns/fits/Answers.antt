use Rattle.std.proofs.Common.{◌≡◌, ◌∙◌, ◌++◌, ◌∷◌, ap, sym, lit<, Some, None}
use Rattle.std.proofs.lemmas.Str.Pattern.{split_parts}
use Rattle.cargo_workspaces.specs.Workspaces.{Text}
use Rattle.plan_words.specs.Patterns as spec
use Rattle.plan_words.proofs.PatternFits.{fits_apart, fits_front, fits_plain}
use Rattle.plan_words.proofs.patterns.fits.Goals as goal

pub returns-in-Some-strip_prefix : goal.returns-in-Some-strip_prefix
returns-in-Some-strip_prefix c =
    let front = c.in-Some.front.now in
    let rest = c.in-Some.rest.now in
    let text = c.args.text.now in
    let parts = split_parts 42 c.args.pattern.now (Some (c.in-Some.front, c.in-Some.rest)) c.in-Some.ensures.cases (lit< tt) in
    let cut = c.in-Some-strip_prefix.ensures.cases in
    let whole : text ≡ front ++ c.in-Some-strip_prefix.tail.now = cut.1.1 ∙ ap (λ (t : Text). front ++ t) (sym cut.2) in
    c.end_fits.ensures ∙ sym (ap (λ (p : Text). spec.fits p text) parts.0 ∙ ap (spec.fits (front ++ 42 ∷ rest)) whole ∙ fits_front front rest c.in-Some-strip_prefix.tail.now parts.1)

pub returns-in-None-strip_prefix : goal.returns-in-None-strip_prefix
returns-in-None-strip_prefix c =
    let parts = split_parts 42 c.args.pattern.now (Some (c.in-Some.front, c.in-Some.rest)) c.in-Some.ensures.cases (lit< tt) in
    sym (ap (λ (p : Text). spec.fits p c.args.text.now) parts.0 ∙ fits_apart c.in-Some.front.now c.in-Some.rest.now c.args.text.now parts.1 c.in-None-strip_prefix.ensures.cases)

pub returns-in-None : goal.returns-in-None
returns-in-None c =
    let none = split_parts 42 c.args.pattern.now None c.in-None.ensures.cases (lit< tt) in
    c.eq.ensures ∙ sym (fits_plain c.args.pattern.now c.args.text.now none)
