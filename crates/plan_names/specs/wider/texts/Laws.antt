-- What the last line of an answer says.
use Rattle.std.specs.Prelude.{◌≡◌, [], ◌∷◌, ◌++◌, Option}
use Rattle.cargo_workspaces.specs.Workspaces.{Text}
use Rattle.plan_names.specs.declared.wider.widenings.widening.Widening.{Widening}
use Rattle.plan_names.specs.declared.wider.widenings.widening.Widening.TheVariants as widening
use Rattle.plan_names.specs.wider.texts.Lines.{SaidText, off, sentence, why_not_lines}

-- The last line of the text is this one.
abbrev pub EndsWithLine : Text → Text → Type 0
EndsWithLine text line = (before : Text) × (text ≡ before ++ 10 ∷ (line ++ 10 ∷ []))

-- THE SENTENCE IS SAID ONLY OF WHAT IS OFF: an answer whose last line it is says that the feature is off with all widenings together.
abbrev pub SentenceSaysOff : Type 0
SentenceSaysOff = (name : Text) (message : Option Text) (said : Widening → SaidText)
    → EndsWithLine (why_not_lines name message said) sentence → said widening.Together ≡ off
