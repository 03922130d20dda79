-- The broken rules of a policy.
use Rattle.std.specs.Prelude.{◌≡◌, ℕ, List, [], ◌∷◌, Some, filter, flat_map, slice_get}
use Rattle.cargo_workspaces.specs.Workspaces.{PackageText, Text}
use Rattle.plan_names.specs.Names.{NamedText}
use Rattle.plan_whys.specs.Steps.{SpotText}
use Rattle.feats_policies.specs.Rules.{RuleText}
use Rattle.feats_policies.specs.checks.Builds.{BuildText}
use Rattle.feats_policies.specs.checks.Found.{FoundText, ambiguous, broken, found_of, kept, no_platform}
use Rattle.feats_policies.specs.checks.Meanings.{names_nothing}

-- A broken rule, and the spots that break it.
pub record VerdictText : Type 0 where
  pub rule : RuleText
  pub spots : List SpotText

-- Why a rule can't be checked: the line, and its word with what it may mean, or its triple.
pub data RefusalText : Type 0 where
  several_in : ℕ → Text → List NamedText → RefusalText
  no_platform_in : ℕ → Text → RefusalText
  out_of_memory : RefusalText

abbrev pub verdict_if : RuleText → FoundText → List VerdictText
verdict_if r kept = []
verdict_if r (broken spots) = record { rule = r; spots = spots } ∷ []
verdict_if r (ambiguous word candidates) = []
verdict_if r (no_platform triple) = []

abbrev pub refusal_if : ℕ → FoundText → List RefusalText
refusal_if line kept = []
refusal_if line (broken spots) = []
refusal_if line (ambiguous word candidates) = several_in line word candidates ∷ []
refusal_if line (no_platform triple) = no_platform_in line triple ∷ []

abbrev pub verdict_on : BuildText → RuleText → List VerdictText
verdict_on b r = verdict_if r (found_of b r.kind)

abbrev pub refusal_of : BuildText → RuleText → List RefusalText
refusal_of b r = refusal_if r.line (found_of b r.kind)

-- The broken rules, and the refusals of those that can't be checked, in the order of the rules.
abbrev pub broken_rules : BuildText → List RuleText → List VerdictText
broken_rules b rules = flat_map (verdict_on b) rules

abbrev pub refusals : BuildText → List RuleText → List RefusalText
refusals b rules = flat_map (refusal_of b) rules

-- THE VERDICTS on rules: exactly the broken ones, and each rule can be checked.
pub record AreVerdicts (b : BuildText) (rules : List RuleText) (verdicts : List VerdictText) : Type 0 where
  pub can_be_checked : refusals b rules ≡ []
  pub are_broken : verdicts ≡ broken_rules b rules

-- The first refusal. Nothing is claimed if an allocation fails.
abbrev pub IsFirstRefusal : List RefusalText → RefusalText → Type 0
IsFirstRefusal given out_of_memory = Unit {0}
IsFirstRefusal given refusal = slice_get given 0 ≡ Some refusal

-- THE UNMATCHED RULES: those whose words name nothing in the packages of a workspace, in the order of the rules.
abbrev pub unmatched : List PackageText → List ℕ → List RuleText → List RuleText
unmatched packages selected rules = filter (λ r. names_nothing packages selected r.kind) rules
