-- The rules of the policy that a question names, or the message why its file is no policy.
use Rattle.std.specs.Prelude.{◌≡◌, List, [], ◌∷◌, IsUtf8, codes}
use Rattle.cargo_workspaces.specs.Workspaces.{Text}
use Rattle.feats_files.specs.Messages.{joined}
use Rattle.feats_words.specs.Requests.{QuestionText, check}
use Rattle.feats_policies.specs.Policies.{ArePolicy, IsPolicyFault}
use Rattle.feats_policies.specs.Rules.{RuleText}
use Rattle.feats_policies.specs.declared.fault.PolicyFault.{PolicyFault}
use Rattle.feats_check.specs.texts.Messages.{IsPolicyMessage}

-- The rules of the bytes of the policy's file; none, if the question names no policy.
abbrev pub AreRules : QuestionText → Text → List RuleText → Type 0
AreRules (check file every_choice strict) bytes rules = IsUtf8 bytes × ArePolicy bytes rules
AreRules _ bytes rules = rules ≡ []

abbrev pub policy_message : Text → Text
policy_message file = joined (codes "the policy " ∷ file ∷ codes " isn't UTF-8" ∷ [])

-- The message why the bytes of a file are no policy: they aren't UTF-8, or a line is malformed.
pub data IsFileRefusal (file bytes message : Text) : Type 0 where
  not_text : (IsUtf8 bytes → ⊥) → message ≡ policy_message file → IsFileRefusal file bytes message
  malformed : IsUtf8 bytes → (fault : PolicyFault) → IsPolicyFault bytes fault → IsPolicyMessage file fault message → IsFileRefusal file bytes message

-- The same, if the question names a policy.
abbrev pub IsRulesRefusal : QuestionText → Text → Text → Type 0
IsRulesRefusal (check file every_choice strict) bytes message = IsFileRefusal file bytes message
IsRulesRefusal _ bytes message = ⊥
