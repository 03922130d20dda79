use Rattle.std.proofs.Common.{◌∙◌, ap, sym, lit<}
use Rattle.std.specs.List.{list_any}
use Rattle.std.proofs.lemmas.Str.Pattern.{contains_char}
use Rattle.cargo_workspaces.specs.Workspaces.{Text}
use Rattle.plan_words.specs.Patterns.{is_star}
use Rattle.plan_names.specs.inner.Cuts.{cut_text}
use Rattle.plan_names.proofs.Cuts.{contains_is, cut_is, no_cut, whole_name}
use Rattle.plan_names.proofs.word_cuts.has_star.Goals as goal

pub returns-in-Some : goal.returns-in-Some
returns-in-Some c =
    let name = c.in-Some.cut.name.now in
    let is = cut_is c.args.word.now (cut_text c.in-Some.cut) c.in-Some.ensures in
    contains_is 42 name c.contains.result (contains_char 42 name c.contains.result c.contains.ensures.cases (lit< tt)) ∙ ap (λ (t : Text). list_any is_star t) is.2

pub returns-in-None : goal.returns-in-None
returns-in-None c =
    let word = c.args.word.now in
    contains_is 42 word c.contains-in-None.result (contains_char 42 word c.contains-in-None.result c.contains-in-None.ensures.cases (lit< tt)) ∙ ap (λ (t : Text). list_any is_star t) (sym (whole_name word (no_cut word c.in-None.ensures)))
