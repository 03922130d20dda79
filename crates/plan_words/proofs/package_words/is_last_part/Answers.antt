use Rattle.std.proofs.Common.{◌∙◌, ◌++◌, ap, sym, lit<}
use Rattle.std.specs.List.{ends_with}
use Rattle.std.specs.Prelude.{nat_eq, ◌∷◌}
use Rattle.std.proofs.lemmas.Str.Pattern.{ends_char}
use Rattle.cargo_workspaces.specs.Workspaces.{Text}
use Rattle.plan_words.proofs.Texts.{no_slash_before, slash_before}
use Rattle.plan_words.proofs.package_words.is_last_part.Goals as goal

pub returns-in-Some : goal.returns-in-Some
returns-in-Some c =
    let name = c.args.«package».now.name.now in
    let front = c.in-Some.front.now in
    let cut = c.in-Some.ensures.cases in
    slash_before c.url_of.result.now name front c.ends_with.result (cut.1.1 ∙ ap (λ (t : Text). t ++ name) (sym cut.2)) (ends_char 47 front c.ends_with.result c.ends_with.ensures.cases (lit< tt))
    ∙ ap (λ (t : Text). ends_with nat_eq t (47 ∷ name)) c.url_of.ensures

pub returns-in-None : goal.returns-in-None
returns-in-None c =
    let name = c.args.«package».now.name.now in
    no_slash_before c.url_of.result.now name c.in-None.ensures.cases ∙ ap (λ (t : Text). ends_with nat_eq t (47 ∷ name)) c.url_of.ensures
