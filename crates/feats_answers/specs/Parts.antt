-- The parts of packages that a word names, and how they are called.
use Rattle.std.specs.Prelude.{◌≡◌, ℕ, List, [], ◌∷◌, Bool, ◌||◌, Ok, false}
use Rattle.cargo_workspaces.specs.Workspaces.{Text, PackageText, WorkspaceText}
use Rattle.feature_labels.specs.Names.{LabelName}
use Rattle.feature_labels.specs.Names.LabelName.{base, named, optional}
use Rattle.cargo_plans.specs.Plans.{WordsText, AfterWords}
use Rattle.plan_names.specs.Faults.{parts_named}
use Rattle.plan_names.specs.Names.{NamedText, PartText, whole, feature, dependency}
use Rattle.plan_rows.specs.declared.side.Side.{Side}
use Rattle.plan_rows.specs.declared.side.Side.TheVariants.{Target, Host}
use Rattle.plan_whys.specs.Steps.{SpotText}
use Rattle.feats_why.specs.Labels.{spot_label}
use Rattle.feats_answers.specs.NameMessages.{IsNameRefusal}

abbrev pub label_of_part : PartText → LabelName
label_of_part whole = base
label_of_part (feature name) = named name
label_of_part (dependency name) = optional name

-- Whether a part is built on at least one side. `built side p label` is whether part `label` of package `p` is built on `side`.
abbrev pub is_anywhere : (Side → ℕ → LabelName → Bool) → NamedText → Bool
is_anywhere built part = built Target part.owner (label_of_part part.part) || built Host part.owner (label_of_part part.part)

-- A part on a side.
abbrev pub spot_on : Side → NamedText → SpotText
spot_on side n = record { side = side; number = n.owner; label = label_of_part n.part }

-- The name of a part.
abbrev pub title_of_part : List PackageText → NamedText → Text
title_of_part packages n = spot_label packages false (spot_on Target n)

-- What a word is called: the part, if it names one alone.
abbrev pub title_of : List PackageText → Text → List NamedText → Text
title_of packages word (n ∷ []) = title_of_part packages n
title_of packages word _ = word

-- The parts that a word names in a build. Those of the selected packages go before others.
abbrev pub ArePartsOf : WorkspaceText → WordsText → Text → List NamedText → Type 0
ArePartsOf w words word parts = AfterWords w words (λ chosen. parts_named w.packages chosen.selected word ≡ Ok parts)

-- The message why the word names none, or several where it must name one.
abbrev pub IsPartRefusal : WorkspaceText → WordsText → Text → Text → Type 0
IsPartRefusal w words word message = AfterWords w words (λ chosen. IsNameRefusal w.packages (parts_named w.packages chosen.selected word) message)
