-- What one more rule adds.
use Rattle.std.specs.Prelude.{◌≡◌, List, [], ◌∷◌, ◌++◌}
use Rattle.feats_policies.specs.Rules.{RuleText}
use Rattle.feats_policies.specs.checks.Checks.{RefusalText, VerdictText, no_platform_in, out_of_memory, refusal_if, several_in, verdict_if}
use Rattle.feats_policies.specs.checks.Found.{FoundText}

-- The rule can be checked, and its verdict was appended if it is broken.
pub record Adds (old new : List VerdictText) (r : RuleText) (found : FoundText) : Type 0 where
  pub can_be_checked : refusal_if r.line found ≡ []
  pub is_added : new ≡ old ++ verdict_if r found

-- The rule can't be checked, for this reason. Nothing is claimed if an allocation fails.
abbrev pub IsRefusal : RuleText → FoundText → RefusalText → Type 0
IsRefusal r found out_of_memory = Unit {0}
IsRefusal r found (several_in line word candidates) = refusal_if r.line found ≡ several_in line word candidates ∷ []
IsRefusal r found (no_platform_in line triple) = refusal_if r.line found ≡ no_platform_in line triple ∷ []
