-- The answer for bytes that are known under another name.
use Rattle.std.proofs.Common.{◌≡◌, ◌∙◌, subst, sym, List, Option, Some, None}
use Rattle.std.specs.Prelude.{IfSome, Bool}
use Rattle.cargo_workspaces.specs.Workspaces.{Text}
use Rattle.feats_answers.specs.AnswerTexts.{AnswerText}
use Rattle.feats_plans.specs.tool.Answers.{AnsweredText, IsShown}
use Rattle.feats_plans.specs.Inputs.{InputsText}

abbrev pub shown_as : Text → Bool → List Text → AnsweredText
shown_as text is_negative warnings = record { answer = record { content = text; is_negative = is_negative }; warnings = warnings }

pub is_shown : (inputs : InputsText) (left : Option Text) (bytes read : Text) (answer : AnswerText) (warnings : List Text) (shown : Text) (is_negative : Bool)
    → IfSome left (λ xs. bytes ≡ xs) → read ≡ bytes → IsShown inputs read (record { answer = answer; warnings = warnings }) → shown ≡ answer.content → is_negative ≡ answer.is_negative
    → IfSome left (λ xs. IsShown inputs xs (shown_as shown is_negative warnings))
is_shown inputs None bytes read answer warnings shown is_negative is same h said negative = tt
is_shown inputs (Some xs) bytes read answer warnings shown is_negative is same h said negative =
    let text : IsShown inputs read (shown_as shown answer.is_negative warnings) = subst (λ t. IsShown inputs read (shown_as t answer.is_negative warnings)) (sym said) h in
    let both : IsShown inputs read (shown_as shown is_negative warnings) = subst (λ b. IsShown inputs read (shown_as shown b warnings)) (sym negative) text in
    subst (λ ys. IsShown inputs ys (shown_as shown is_negative warnings)) (same ∙ is) both
