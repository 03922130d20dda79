-- The parts that a word of `why` names.
use Rattle.std.specs.Prelude.{◌≡◌, ℕ, List, [], ◌∷◌, Bool, Result, Ok, Err, filter}
use Rattle.cargo_plans.specs.Plans.{AfterWords, WordsText}
use Rattle.cargo_plans.specs.built_parts.Built.{is_part_built}
use Rattle.cargo_plans.specs.plan_steps.Plans.{PlanText}
use Rattle.cargo_workspaces.specs.Workspaces.{Text, WorkspaceText}
use Rattle.plan_names.specs.Faults.{NameRefusal, several}
use Rattle.plan_names.specs.Matches.{parts_matching}
use Rattle.plan_names.specs.Names.{NamedText}
use Rattle.feats_answers.specs.NameMessages.{IsNameRefusal}
use Rattle.feats_answers.specs.Parts.{is_anywhere}

-- The built ones of the candidates, or a refusal if there are none: then the word has several meanings.
abbrev pub those_or_several : Text → List NamedText → List NamedText → Result (List NamedText) NameRefusal
those_or_several word candidates [] = Err (several word candidates)
those_or_several word candidates (part ∷ parts) = Ok (part ∷ parts)

-- Of several candidates those that pass the test.
abbrev pub named_where : (NamedText → Bool) → Result (List NamedText) NameRefusal → Result (List NamedText) NameRefusal
named_where test (Err (several word candidates)) = those_or_several word candidates (filter test candidates)
named_where test given = given

-- The parts that the word names, read as the word of a rule. If several candidates fit, they are those that are built, or a refusal if none is.
abbrev pub why_parts : WorkspaceText → WordsText → PlanText → List ℕ → Text → Result (List NamedText) NameRefusal
why_parts w words plan selected word =
    named_where (is_anywhere (is_part_built words.selection.split plan)) (parts_matching w.packages selected word)

abbrev pub AreWhyParts : WorkspaceText → WordsText → PlanText → Text → List NamedText → Type 0
AreWhyParts w words plan word parts = AfterWords w words (λ chosen. why_parts w words plan chosen.selected word ≡ Ok parts)

-- The message about a word that names nothing, or that names several parts of which none is built.
abbrev pub IsWhyRefusal : WorkspaceText → WordsText → PlanText → Text → Text → Type 0
IsWhyRefusal w words plan word message = AfterWords w words (λ chosen. IsNameRefusal w.packages (why_parts w words plan chosen.selected word) message)
