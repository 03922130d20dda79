-- The answer to `diff`.
use Rattle.std.specs.Prelude.{◌≡◌, List, not}
use Rattle.cargo_workspaces.specs.Workspaces.{Text, PackageText}
use Rattle.feats_diff.specs.texts.Lines.{difference_lines}
use Rattle.feats_diff.specs.texts.Objects.{difference_objects}
use Rattle.feats_diff.specs.texts.Shown.{DifferenceText}
use Rattle.feats_answers.specs.AnswerTexts.{AnswerText}
use Rattle.feats_diff.specs.changes.Differences.{AreDifferences, DifferencesText, IsPartitioned}
use Rattle.feats_diff.specs.changes.Equality.{are_equal}
use Rattle.feats.specs.comparisons.differences.Builds.{BuildText, parts_of}
use Rattle.feats_report.specs.Reports as reports
use Rattle.feats.specs.comparisons.differences.Shown.{all_shown}
use Rattle.feats.specs.comparisons.differences.Whys.{AreAllWhys, WhysText}
use Rattle.feats.specs.declared.comparisons.differences.forms.Form.{Form}
use Rattle.feats.specs.declared.comparisons.differences.forms.Form.TheVariants.{Lines, Objects, Page}

-- The data of a page that shows these differences.
abbrev pub page_text : List DifferenceText → Text
page_text shown = reports.differences_text (difference_objects shown)

abbrev pub text_in : Form → List PackageText → List PackageText → List DifferenceText → Text
text_in Lines old new shown = difference_lines old new shown
text_in Objects old new shown = difference_objects shown
text_in Page old new shown = page_text shown

-- The text of these differences: with each part and feature that comes, the last step of why it is on in the new build.
pub record IsDiffText (form : Form) (old new : BuildText) (differences : DifferencesText) (text : Text) : Type 0 where
  pub whys : WhysText
  pub are_whys : AreAllWhys new differences whys
  pub is_text : text ≡ text_in form old.workspace.packages new.workspace.packages (all_shown differences whys)

-- THE ANSWER to `diff`: what differs between two builds. It is negative if they differ.
pub record IsDiffAnswer (form : Form) (old new : BuildText) (answer : AnswerText) : Type 0 where
  pub differences : DifferencesText
  pub are_differences : AreDifferences (parts_of old) (parts_of new) differences
  pub is_partition : IsPartitioned (parts_of old) (parts_of new) differences
  pub is_text : IsDiffText form old new differences answer.content
  pub is_no : answer.is_negative ≡ not (are_equal differences)
