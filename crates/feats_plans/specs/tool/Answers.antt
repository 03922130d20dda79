-- The answer for arguments and the bytes of files, or the message why there is none.
use Rattle.std.specs.Prelude.{◌≡◌, ◌++◌, List, [], Bool, true}
use Rattle.cargo_workspaces.specs.Workspaces.{Text}
use Rattle.feats_answers.specs.AnswerTexts.{AnswerText}
use Rattle.feats_answers.specs.Answers.{IsAnswerTo, IsNoAnswerTo}
use Rattle.feats_answers.specs.Asked.{AskedText}
use Rattle.feats_files.specs.Showing.{shown_in}
use Rattle.feats_plans.specs.Inputs.{InputsText}
use Rattle.feats_plans.specs.Planned.{PlannedText}
use Rattle.feats_plans.specs.Planning.{AfterPlanning, IsPlanningRefusal}
use Rattle.feats_plans.specs.tool.Exclusions.{exclusion_lines}
use Rattle.feats_plans.specs.tool.Rules.{AreRules, IsRulesRefusal}
use Rattle.feats_words.specs.Requests.{QuestionText, check}
use Rattle.feats_plans.specs.tool.lost_dependencies.Lost.{lost_lines}
use Rattle.feats_check.specs.checking.Warnings.{ArePolicyWarnings, IsStrictRefusal, PolicyWordsText}
use Rattle.feats_policies.specs.Rules.{RuleText}
use Rattle.shown_texts.specs.Plain.{is_plain}

-- What is asked by the arguments, with the bytes of the document and these rules of the policy.
abbrev pub asked_by : InputsText → Text → List RuleText → AskedText
asked_by inputs bytes rules = record {
  arguments = inputs.arguments;
  rules = rules;
  targets = inputs.targets;
  document = bytes;
  member_manifests = inputs.member_manifests;
}

-- An answer, and warnings.
pub record AnsweredText : Type 0 where
  pub answer : AnswerText
  pub warnings : List Text

abbrev pub policy_words : Text → Bool → Bool → List RuleText → PolicyWordsText
policy_words file every_choice strict rules = record { file = file; every_choice = every_choice; strict = strict; rules = rules }

-- The warnings about the rules of the policy; none, if the question names no policy.
abbrev pub AreRuleWarnings : QuestionText → List RuleText → PlannedText → List Text → Type 0
AreRuleWarnings (check file every_choice strict) rules p lines = ArePolicyWarnings (policy_words file every_choice strict rules) p.workspace p.words lines
AreRuleWarnings _ rules p lines = lines ≡ []

-- The warnings about the document, and about the words of `--exclude`.
abbrev pub document_lines : PlannedText → List Text
document_lines p = lost_lines p.words.host p.words.targets p.workspace ++ exclusion_lines p.workspace p.inputs.arguments.exclude

-- The warnings: those of `document_lines`, and those about the rules.
pub record AreWarnings (rules : List RuleText) (p : PlannedText) (lines : List Text) : Type 0 where
  pub of_rules : List Text
  pub are_of_rules : AreRuleWarnings p.inputs.arguments.question rules p of_rules
  pub are_lines : lines ≡ document_lines p ++ of_rules

-- The message about a rule whose word names nothing, if each must name something.
abbrev pub IsStrictly : QuestionText → List RuleText → PlannedText → Text → Type 0
IsStrictly (check file every_choice strict) rules p message = IsStrictRefusal (policy_words file every_choice strict rules) p.workspace p.words message
IsStrictly _ rules p message = ⊥

-- The answer about a plan of the document with these bytes, with these rules, and the warnings.
pub record IsPlanAnswer (bytes : Text) (rules : List RuleText) (p : PlannedText) (answered : AnsweredText) : Type 0 where
  pub are_warnings : AreWarnings rules p answered.warnings
  pub is_answer : IsAnswerTo (asked_by p.inputs bytes rules) p.workspace p.words p.plan answered.answer

-- The message why there is none: a word of a rule names nothing, or the question has no answer about the plan.
pub data IsPlanRefusal (bytes : Text) (rules : List RuleText) (p : PlannedText) (message : Text) : Type 0 where
  of_warnings : IsStrictly p.inputs.arguments.question rules p message → IsPlanRefusal bytes rules p message
  of_question : IsNoAnswerTo (asked_by p.inputs bytes rules) p.workspace p.words p.plan message → IsPlanRefusal bytes rules p message

-- THE ANSWER for the arguments, the files and the bytes of the document, and the warnings.
pub record IsAnswer (inputs : InputsText) (bytes : Text) (answered : AnsweredText) : Type 0 where
  pub rules : List RuleText
  pub are_rules : AreRules inputs.arguments.question inputs.policy rules
  pub is_answer : AfterPlanning inputs bytes (λ p. IsPlanAnswer bytes rules p answered)

-- THE TEXT that is written: that of the answer, in which each control character but the line feeds is escaped; no other is in it.
pub record IsShown (inputs : InputsText) (bytes : Text) (shown : AnsweredText) : Type 0 where
  pub answer : AnswerText
  pub is_answer : IsAnswer inputs bytes (record { answer = answer; warnings = shown.warnings })
  pub content : shown.answer.content ≡ shown_in inputs.arguments.format answer.content
  pub plain : is_plain shown.answer.content ≡ true
  pub is_negative : shown.answer.is_negative ≡ answer.is_negative

-- The message why there is no answer: the policy is at fault, then another file or the document, and then the plan or the question.
pub data IsNoAnswer (inputs : InputsText) (bytes message : Text) : Type 0 where
  of_rules : IsRulesRefusal inputs.arguments.question inputs.policy message → IsNoAnswer inputs bytes message
  of_plan : (rules : List RuleText) → AreRules inputs.arguments.question inputs.policy rules → IsPlanningRefusal inputs bytes (IsPlanRefusal bytes rules) message → IsNoAnswer inputs bytes message
