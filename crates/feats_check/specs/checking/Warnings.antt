-- Warnings about a policy.
use Rattle.std.specs.Prelude.{◌≡◌, ℕ, List, [], ◌∷◌, ◌++◌, Bool, true, false, Some, map, slice_get, ◌&&◌, if◌then◌else◌}
use Rattle.std.specs.List.{list_any}
use Rattle.cargo_plans.specs.Plans.{AfterWords, WordsText}
use Rattle.cargo_workspaces.specs.Workspaces.{PackageText, Text, WorkspaceText}
use Rattle.feats_policies.specs.Rules.{KindText, RuleText, deny, deny_duplicates, require}
use Rattle.feats_policies.specs.checks.Checks.{unmatched}
use Rattle.feats_check.specs.texts.Messages.{build_message, unmatched_message}

-- The policy that is checked: its file, whether for every choice, and whether each word must name something; and its rules.
pub record PolicyWordsText : Type 0 where
  pub file : Text
  pub every_choice : Bool
  pub strict : Bool
  pub rules : List RuleText

-- Whether a rule of this kind is judged for the build alone, even for every choice.
abbrev pub is_for_build : KindText → Bool
is_for_build (deny word on) = false
is_for_build (require word) = true
is_for_build (deny_duplicates word) = true

-- For every choice: that there are such rules.
abbrev pub build_warnings : PolicyWordsText → List Text
build_warnings p = if p.every_choice && list_any (λ r. is_for_build r.kind) p.rules then build_message p.file ∷ [] else []

-- The rules whose words name nothing.
abbrev pub unmatched_in : PolicyWordsText → List PackageText → List ℕ → List RuleText
unmatched_in p packages selected = unmatched packages selected p.rules

abbrev pub unmatched_warnings : PolicyWordsText → List PackageText → List ℕ → List Text
unmatched_warnings p packages selected = map (unmatched_message p.file) (unmatched_in p packages selected)

-- The warnings, where the packages `selected` are selected. If each word must name something, each does.
pub record AreWarningsWith (p : PolicyWordsText) (packages : List PackageText) (selected : List ℕ) (lines : List Text) : Type 0 where
  pub are_lines : lines ≡ build_warnings p ++ unmatched_warnings p packages selected
  pub are_matched : p.strict ≡ true → unmatched_in p packages selected ≡ []

-- The message about the first rule whose word names nothing, if each must name something.
pub record IsUnmatchedRefusal (p : PolicyWordsText) (packages : List PackageText) (selected : List ℕ) (message : Text) : Type 0 where
  pub is_strict : p.strict ≡ true
  pub is_first : slice_get (unmatched_warnings p packages selected) 0 ≡ Some message

-- THE WARNINGS about a policy, and the message why there are none.
abbrev pub ArePolicyWarnings : PolicyWordsText → WorkspaceText → WordsText → List Text → Type 0
ArePolicyWarnings p w words lines = AfterWords w words (λ chosen. AreWarningsWith p w.packages chosen.selected lines)

abbrev pub IsStrictRefusal : PolicyWordsText → WorkspaceText → WordsText → Text → Type 0
IsStrictRefusal p w words message = AfterWords w words (λ chosen. IsUnmatchedRefusal p w.packages chosen.selected message)
