-- Answers of several texts.
use Rattle.std.specs.Prelude.{◌≡◌, List, [], ◌∷◌, ◌++◌, flat_map}
use Rattle.cargo_workspaces.specs.Workspaces.{Text, PackageText}
use Rattle.plan_names.specs.Names.{NamedText}
use Rattle.feats_words.specs.declared.command_arguments.Format.{Format}
use Rattle.feats_words.specs.declared.command_arguments.Format.TheVariants as format
use Rattle.feats_answers.specs.AnswerTexts.{AnswerText, positive, negative}
use Rattle.feats_answers.specs.Parts.{title_of}
use Rattle.shown_texts.specs.Shown.{escaped}

-- The texts that are shown of each item, in the order of the items.
abbrev pub AreShown : {X : Type 0} → (X → List Text → Type 0) → List X → List Text → Type 0
AreShown IsShown [] shown = shown ≡ []
AreShown IsShown (x ∷ xs) shown = (here : List Text) × (more : List Text) × IsShown x here × AreShown IsShown xs more × (shown ≡ here ++ more)

-- The separator of two texts: an empty line in text, and none between JSON objects.
abbrev pub gap : Format → Text
gap format.Text = 10 ∷ []
gap format.Json = []

abbrev pub after_gap : Format → Text → Text
after_gap form text = gap form ++ text

abbrev pub separated : Format → List Text → Text
separated form [] = []
separated form (first ∷ more) = first ++ flat_map (after_gap form) more

-- The line that says no, with this end: there is no object. Control characters in the title are escaped.
abbrev pub no_line : Format → Text → Text → Text
no_line format.Text title end = escaped title ++ end
no_line format.Json title end = []

-- The answer of these texts. If there is none, it says no about what the word is called.
abbrev pub gathered : Format → List PackageText → Text → List NamedText → Text → List Text → AnswerText
gathered form packages word parts end [] = negative (no_line form (title_of packages word parts) end)
gathered form packages word parts end (first ∷ more) = positive (separated form (first ∷ more))
