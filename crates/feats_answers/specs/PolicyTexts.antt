-- The answer about a policy.
use Rattle.std.specs.Prelude.{◌≡◌, List, [], ◌∷◌, Bool, true, false, Option, Some, None, map, ⊤}
use Rattle.cargo_workspaces.specs.Workspaces.{Text, WorkspaceText}
use Rattle.cargo_plans.specs.Plans.{WordsText}
use Rattle.feats_files.specs.Files.{FileText}
use Rattle.plan_rows.specs.platforms.DeclaredSpecs.{DeclaredText}
use Rattle.plan_rows.specs.platforms.HeldSpecs.{is_declared}
use Rattle.cargo_plans.specs.plan_steps.Plans.{PlanText}
use Rattle.feats_check.specs.checking.Answers.{IsPolicyAnswer, IsPolicyRefusal}
use Rattle.feats_check.specs.checking.Questions.{PrintedText, QuestionText}
use Rattle.feats_answers.specs.AnswerTexts.{AnswerText}
use Rattle.feats_answers.specs.Asked.{AskedText}

-- The triples of the target platforms: that of the host alone, if there are no files.
abbrev pub target_triples : Text → List FileText → List Text
target_triples host [] = host ∷ []
target_triples host (f ∷ fs) = map (λ f. f.triple) (f ∷ fs)

-- The question about the policy in this file. For every choice, `every` is which platform specs hold on every platform.
abbrev pub policy_question : AskedText → Text → Option (Text → Bool) → QuestionText
policy_question asked file every = record {
  format = asked.arguments.format;
  file = file;
  rules = asked.rules;
  host = asked.arguments.host.triple;
  targets = target_triples asked.arguments.host.triple asked.targets;
  every = every;
}

-- For every choice, exactly the specs hold on every platform.
abbrev pub IsEvery : Bool → List DeclaredText → Option (Text → Bool) → Type 0
IsEvery true specs (Some every) = (text : Text) → every text ≡ is_declared specs text
IsEvery true specs None = ⊥
IsEvery false specs (Some every) = ⊥
IsEvery false specs None = ⊤

-- The answer says no if a rule is broken.
abbrev pub printed : AnswerText → PrintedText
printed answer = record { text = answer.content; is_broken = answer.is_negative }

-- The answer to `check` with the policy in this file: exactly its broken rules are shown.
pub record IsCheckAnswer (asked : AskedText) (w : WorkspaceText) (specs : List DeclaredText) (words : WordsText) (plan : PlanText) (file : Text) (every_choice : Bool) (answer : AnswerText) : Type 0 where
  pub every : Option (Text → Bool)
  pub is_every : IsEvery every_choice specs every
  pub is_answer : IsPolicyAnswer w words plan (policy_question asked file every) (printed answer)

-- The message why there is none.
pub record IsCheckRefusal (asked : AskedText) (w : WorkspaceText) (specs : List DeclaredText) (words : WordsText) (plan : PlanText) (file : Text) (every_choice : Bool) (message : Text) : Type 0 where
  pub every : Option (Text → Bool)
  pub is_every : IsEvery every_choice specs every
  pub is_refusal : IsPolicyRefusal w words plan (policy_question asked file every) message
