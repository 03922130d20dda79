-- What the words of rules mean.
use Rattle.std.specs.Prelude.{ℕ, List, [], ◌∷◌, Bool, true, false, Result, Ok, Err}
use Rattle.cargo_workspaces.specs.Workspaces.{PackageText, Text}
use Rattle.plan_names.specs.Faults.{NameRefusal, out_of_memory, several, unknown}
use Rattle.plan_names.specs.Matches.{packages_matching, parts_matching}
use Rattle.plan_names.specs.Names.{NamedText}
use Rattle.feats_policies.specs.Rules.{KindText, deny, deny_duplicates, require}
use Rattle.feats_policies.specs.checks.Builds.{BuildText}

-- A word means these parts of packages; or one of these, and doesn't say which.
pub data MeaningText : Type 0 where
  these : List NamedText → MeaningText
  one_of : Text → List NamedText → MeaningText

-- A word that names nothing means no parts.
abbrev pub meaning_of : Result (List NamedText) NameRefusal → MeaningText
meaning_of (Ok parts) = these parts
meaning_of (Err (unknown word)) = these []
meaning_of (Err (several word candidates)) = one_of word candidates
meaning_of (Err out_of_memory) = these []

abbrev pub meaning_among : List PackageText → List ℕ → Text → MeaningText
meaning_among packages selected word = meaning_of (parts_matching packages selected word)

abbrev pub meaning_in : BuildText → Text → MeaningText
meaning_in b word = meaning_among b.packages b.selected word

abbrev pub is_empty : {X : Type 0} → List X → Bool
is_empty [] = true
is_empty (x ∷ xs) = false

abbrev pub means_nothing : MeaningText → Bool
means_nothing (these parts) = is_empty parts
means_nothing (one_of word candidates) = false

-- Whether the word of a rule names nothing in the packages of a workspace.
abbrev pub names_nothing : List PackageText → List ℕ → KindText → Bool
names_nothing packages selected (deny word on) = means_nothing (meaning_among packages selected word)
names_nothing packages selected (require word) = means_nothing (meaning_among packages selected word)
names_nothing packages selected (deny_duplicates word) = is_empty (packages_matching packages word)
