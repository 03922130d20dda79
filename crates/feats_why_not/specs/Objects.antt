-- An answer as a JSON object.
use Rattle.std.specs.Prelude.{List, [], ◌∷◌, ◌++◌, true, false, codes, Option, option_map}
use Rattle.json.specs.Token.{Token, begin_array, end_array, key, null}
use Rattle.cargo_workspaces.specs.Workspaces.{Text, PackageText}
use Rattle.cargo_plans.specs.Plans.{WordsText}
use Rattle.feats_lines.specs.parts.Members.{flag_member, optional_member, text_member}
use Rattle.plan_names.specs.declared.wider.widenings.widening.Widening.{Widening}
use Rattle.plan_names.specs.declared.wider.widenings.widening.Widening.TheVariants as widening
use Rattle.plan_whys.specs.Steps.{WhyText}
use Rattle.feats_why.specs.Objects.{dependency_name, feature_name, id_at, step_objects}
use Rattle.feats_why_not.specs.Answers.{AnswerText, explained, not_planned, off, unbuilt}
use Rattle.feats_why.specs.Settings.{settings_of}
use Rattle.feats_why_not.specs.Parts.{PartText}
use Rattle.feats_why_not.specs.Tries.{TypedText}
use Rattle.feats_why_not.specs.Typed.{typed_text}

abbrev pub widening_word : Widening → Text
widening_word widening.AllFeatures = codes "all-features"
widening_word widening.AllMembers = codes "all-members"
widening_word widening.Tests = codes "tests"
widening_word widening.EveryPlatform = codes "every-platform"
widening_word widening.Together = codes "together"

-- The members that name a part.
abbrev pub part_tokens : List PackageText → PartText → List Token
part_tokens packages part =
    text_member (codes "package") (id_at packages part.number)
    ++ (optional_member (codes "feature") (feature_name part.label) ++ optional_member (codes "dependency") (dependency_name part.label))

abbrev pub array_tokens : List Token → List Token
array_tokens items = begin_array ∷ (items ++ end_array ∷ [])

abbrev pub unbuilt_tokens : Text → List Token
unbuilt_tokens message = flag_member (codes "on") false ++ text_member (codes "message") message

abbrev pub refused_tokens : Text → List Token
refused_tokens message = key (codes "on") ∷ null ∷ text_member (codes "message") message

abbrev pub on_tokens : List PackageText → WordsText → List WhyText → List Token
on_tokens packages words whys = flag_member (codes "on") true ++ key (codes "steps") ∷ array_tokens (step_objects packages (settings_of words) whys)

abbrev pub words_tokens : Option TypedText → List Token
words_tokens typed = optional_member (codes "words") (option_map typed_text typed)

-- The members of an answer by these words, and of the words to type.
abbrev pub answer_tokens : List PackageText → WordsText → AnswerText → Option TypedText → List Token
answer_tokens packages words (explained whys) typed = on_tokens packages words whys ++ words_tokens typed
answer_tokens packages words (unbuilt message) typed = unbuilt_tokens message
answer_tokens packages words off typed = flag_member (codes "on") false
answer_tokens packages words (not_planned message) typed = refused_tokens message

-- The beginning of an object.
abbrev pub head_tokens : List PackageText → PartText → Widening → List Token
head_tokens packages part v = part_tokens packages part ++ text_member (codes "widening") (widening_word v)
