-- The texts about several parts.
use Rattle.std.specs.Prelude.{◌≡◌, ℕ, Bool, List, ◌++◌, Option, Some, None, map, option_map, string_bytes}
use Rattle.std.specs.List.{zip}
use Rattle.std.specs.Global.{Vec}
use Rattle.std.proofs.Common.{Global, String}
use Rattle.cargo_plans.specs.declared.built_parts.state.PartState.{PartState}
use Rattle.cargo_workspaces.specs.Workspaces.{Text, PackageText, WorkspaceText}
use Rattle.cargo_plans.specs.Plans.{WordsText}
use Rattle.cargo_plans.specs.plan_starts.PackageVisits.{PairVisit}
use Rattle.feats_words.specs.declared.command_arguments.Format.{Format}
use Rattle.feature_labels.specs.Names.{LabelName}
use Rattle.plan_rows.specs.declared.side.Side.{Side}
use Rattle.plan_rows.specs.declared.side.Side.TheVariants.{Target}
use Rattle.plan_whys.specs.StepViews.{why_text}
use Rattle.plan_whys.specs.Steps.{SpotText, WhyText}
use Rattle.plan_names.specs.wider.widenings.Findings.{are_some, sides_of}
use Rattle.plan_names.specs.declared.wider.widenings.widening.Widening.{Widening}
use Rattle.feats_why.specs.Unbuilt.{unbuilt_message}
use Rattle.feats_why_not.specs.Answers.{AnswerText, explained, not_planned, off, unbuilt}
use Rattle.feats_why_not.specs.PartView.{part_text}
use Rattle.feats_why_not.specs.Parts.{PartText, spot_on}
use Rattle.feats_why_not.specs.Standings as standing
use Rattle.feats_why_not.specs.Standings.{StandingText, standing_in}
use Rattle.feats_why_not.specs.Texts.{head_by, section_text}
use Rattle.feats_why_not.specs.Unbuilt.{message_if, unbuilt_at}
use Rattle.feats_why_not.specs.Tries.{TypedText}
use Rattle.feats_why_not.specs.Typed.{IsTyped}
use Rattle.feats_why_not.specs.declared.answer.Answer.{Answer}
use Rattle.feats_why_not.specs.declared.answer.Answer.TheVariants as answer
use Rattle.feats_why_not.specs.declared.told.PartAnswer.{PartAnswer}
use Rattle.feats_why_not.specs.declared.told.Told.{Told}
use Rattle.feats_why_not.specs.declared.typed_words.TypedWords.{TypedWords}

abbrev pub texts_of : List (Vec ℕ) → List Text
texts_of texts = map (λ t. t.items) texts

abbrev pub optional_texts : List (Option (String Global)) → List (Option Text)
optional_texts texts = map (option_map string_bytes) texts

-- The value that words contain.
abbrev pub typed_value : TypedWords → TypedText
typed_value t = record { name = t.name.now; feature = option_map (λ f. f.now) t.feature; test = t.test }

-- The value that an answer contains.
abbrev pub answer_text : Answer → AnswerText
answer_text (answer.Explained steps) = explained (map why_text steps.now)
answer_text (answer.Unbuilt message) = unbuilt message.now
answer_text answer.Off = off
answer_text (answer.NotPlanned message) = not_planned message.now

-- The answer by the message about what isn't built, if there is one, and by the steps that were found.
abbrev pub answer_by : Option Text × Option (List WhyText) → AnswerText
answer_by (Some message, found) = unbuilt message
answer_by (None, None) = off
answer_by (None, Some whys) = explained whys

abbrev pub answers_by : List (Option Text) → List (Option (List WhyText)) → List AnswerText
answers_by messages founds = map answer_by (zip messages founds)

-- Whether the visit has the part, on either side.
abbrev pub has_part : PairVisit → PartText → Bool
has_part on part = are_some (sides_of on part.number part.label)

-- The side on which the part is built; the target side, if it isn't.
abbrev pub side_where : StandingText → Side
side_where (standing.built_on side) = side
side_where (standing.unbuilt_on side) = Target
side_where standing.off = Target

abbrev pub first_spot : (Side → ℕ → LabelName → PartState) → PartText → SpotText
first_spot states part = spot_on (side_where (standing_in states part)) part

-- The message about a part that stands so, by the package that lacks a build script for the part's package.
abbrev pub message_by : List PackageText → Bool → Option ℕ → PartText → StandingText → Option Text
message_by packages sides lacking part standing = message_if (λ side. unbuilt_message packages sides (unbuilt_at lacking part side)) standing

-- The message about a part that isn't built, by the states of parts and by the packages that lack build scripts.
abbrev pub message_about : List PackageText → Bool → (ℕ → Option ℕ) → (Side → ℕ → LabelName → PartState) → PartText → Option Text
message_about packages sides lacking states part = message_by packages sides (lacking part.number) part (standing_in states part)

-- A part, the answer about it, and the words to type.
abbrev pub about_value : PartAnswer → PartText × AnswerText
about_value about = (part_text about.part, answer_text about.answer)

abbrev pub ToldText : Type 0
ToldText = (PartText × AnswerText) × Option TypedText

abbrev pub told_value : Told → ToldText
told_value told = (about_value told.about, option_map typed_value told.typed)

-- The words to type are those for the part and the answer.
abbrev pub IsTold : Bool → WorkspaceText → WordsText → WordsText → PartText × AnswerText → ToldText → Type 0
IsTold alone w here words about told = (told.0 ≡ about) × IsTyped alone w here words about.0 about.1 told.1

abbrev pub told_section : Format → List PackageText → WordsText → Widening → ToldText → Text
told_section form packages words v told = section_text form packages words v told.0.0 told.0.1 told.1

-- What is said of a widening about each part, by the answer about it and the words to type.
abbrev pub told_sections : Format → List PackageText → WordsText → Widening → List ToldText → List Text
told_sections form packages words v tolds = map (told_section form packages words v) tolds

-- The beginnings of the texts about parts with these titles and messages.
abbrev pub pair_head : Format → Text × Option Text → Text
pair_head form pair = head_by form pair.0 pair.1

abbrev pub heads_by : Format → List Text → List (Option Text) → List Text
heads_by form titles messages = map (pair_head form) (zip titles messages)

-- The same, if the answer about each part is this one.
abbrev pub same_sections : Format → List PackageText → WordsText → Widening → AnswerText → List PartText → List Text
same_sections form packages words v answer parts = map (λ part. section_text form packages words v part answer None) parts

abbrev pub both : Text × Text → Text
both pair = pair.0 ++ pair.1

-- The texts of each pair, one after the other.
abbrev pub joined : List Text → List Text → List Text
joined firsts seconds = map both (zip firsts seconds)
