-- An answer as text.
use Rattle.std.specs.Prelude.{List, Option, ◌++◌}
use Rattle.cargo_workspaces.specs.Workspaces.{PackageText}
use Rattle.cargo_plans.specs.Plans.{WordsText}
use Rattle.plan_names.specs.wider.texts.Lines.{SaidText}
use Rattle.plan_names.specs.wider.texts.Lines as said
use Rattle.feats_why.specs.Lines.{why_lines}
use Rattle.feats_why.specs.Settings.{settings_of}
use Rattle.feats_why_not.specs.Answers.{AnswerText, explained, not_planned, off, unbuilt}
use Rattle.feats_why_not.specs.Tries.{TypedText}
use Rattle.feats_why_not.specs.Typed.{typed_line}

-- What is said by an answer, and by the words to type.
abbrev pub said_of : List PackageText → WordsText → AnswerText → Option TypedText → SaidText
said_of packages words (explained whys) typed = said.on_by (why_lines packages (settings_of words) whys ++ typed_line typed)
said_of packages words (unbuilt message) typed = said.unbuilt message
said_of packages words off typed = said.off
said_of packages words (not_planned message) typed = said.not_planned message
