-- The messages about two formats, and about a summary.
use Rattle.std.specs.Prelude.{Bool, true, false, codes}
use Rattle.cargo_workspaces.specs.Workspaces.{Text}
use Rattle.feats_words.specs.Requests.{QuestionText, summary}

abbrev pub format_message : Text
format_message = codes "the builds of `diff` have different formats: write `--format` or `--report` once, before the first `--`"

abbrev pub is_summary : QuestionText → Bool
is_summary summary = true
is_summary _ = false

abbrev pub summary_message : Text
summary_message = codes "`diff` prints no summary: leave --summary out"
