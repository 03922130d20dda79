-- A text that ends with the sentence says that its part is off with all widenings together.
use Rattle.std.proofs.Common.{◌≡◌, ◌∙◌, ap, sym, refl, Bool, List, [], ◌∷◌, ◌++◌, Option}
use Rattle.std.specs.Prelude.{flat_map}
use Rattle.cargo_workspaces.specs.Workspaces.{PackageText, Text, WorkspaceText}
use Rattle.cargo_plans.specs.Plans.{WordsText}
use Rattle.feats_words.specs.declared.command_arguments.Format.TheVariants as format
use Rattle.laws.specs.plans.NoChoice.{NoChoiceTurnsOn}
use Rattle.laws.specs.plans.Sentence.{SentenceIsTrue}
use Rattle.plan_names.specs.wider.widenings.Findings.{IsOffEverywhere}
use Rattle.plan_names.specs.wider.widenings.Widenings.{widened, widenings}
use Rattle.plan_names.specs.declared.wider.widenings.widening.Widening.{Widening}
use Rattle.plan_names.specs.declared.wider.widenings.widening.Widening.TheVariants as widening
use Rattle.feats_why_not.specs.Answers.{AnswerText, IsAnswer, explained, message_in, not_planned, off, unbuilt}
use Rattle.feats_why_not.specs.Lines.{said_of}
use Rattle.feats_why_not.specs.Parts.{PartText, title_of}
use Rattle.feats_why_not.specs.Texts.{IsWhyNotText, head_text}
use Rattle.feats_why_not.specs.Tries.{TypedText}
use Rattle.plan_names.specs.wider.texts.Laws.{EndsWithLine, SentenceSaysOff}
use Rattle.plan_names.specs.wider.texts.Lines.{SaidText, sentence, why_not_lines, widening_lines}
use Rattle.plan_names.specs.wider.texts.Lines as said

same_sections : (f g : Widening → Text) → ((v : Widening) → f v ≡ g v) → (vs : List Widening) → flat_map f vs ≡ flat_map g vs
same_sections f g same [] = refl
same_sections f g same (v ∷ vs) = ap (λ z. z ++ flat_map f vs) (same v) ∙ ap (λ z. g v ++ z) (same_sections f g same vs)

-- what is said to be off is off
said_off : (w : WorkspaceText) (words : WordsText) (part : PartText) (packages : List PackageText) (answer : AnswerText) (typed : Option TypedText) → said_of packages words answer typed ≡ said.off → IsAnswer w words part answer → IsAnswer w words part off
said_off w words part packages (explained whys) typed h a = absurd (cc)
said_off w words part packages (unbuilt message) typed h a = absurd (cc)
said_off w words part packages off typed h a = a
said_off w words part packages (not_planned message) typed h a = absurd (cc)

module _ (alone : Bool) (w : WorkspaceText) (words : WordsText) (every : Text → Bool) (part : PartText) (text : Text) (t : IsWhyNotText format.Text alone w words every part text) where
  abbrev said_by : Widening → SaidText
  said_by v = said_of w.packages (widened every v words) (t.are_sections v).answer (t.are_sections v).typed

  are_lines : text ≡ why_not_lines (title_of w.packages part) (message_in w words t.plan part) said_by
  are_lines = t.is_text ∙ ap (λ z. head_text format.Text w words t.plan part ++ z) (same_sections t.section (λ v. widening_lines v (said_by v)) (λ v. (t.are_sections v).is_text) widenings)

  is_off : SentenceSaysOff → EndsWithLine text sentence → IsOffEverywhere w words every part.number part.label
  is_off says ends = said_off w (widened every widening.Together words) part w.packages (t.are_sections widening.Together).answer (t.are_sections widening.Together).typed
      (says (title_of w.packages part) (message_in w words t.plan part) said_by (ends.0, sym are_lines ∙ ends.1)) (t.are_sections widening.Together).is_answer

pub sentence_is_true : NoChoiceTurnsOn → SentenceSaysOff → SentenceIsTrue
sentence_is_true law says alone w words every part text is each t ends others plan covered made =
    law w words every is each part.number part.label (is_off alone w words every part text t says ends) others plan covered made
