-- The forms of the answer to `diff`.
use Rattle.feats_words.specs.Requests.{QuestionText, report}
use Rattle.feats_words.specs.declared.command_arguments.Format.{Format}
use Rattle.feats_words.specs.declared.command_arguments.Format.TheVariants as format
use Rattle.feats.specs.declared.comparisons.differences.forms.Form.{Form}
use Rattle.feats.specs.declared.comparisons.differences.forms.Form.TheVariants.{Lines, Objects, Page}

-- The form of the answer: the data of a page if the question is `report`, and otherwise the form of the format.
abbrev pub form_of : QuestionText → Format → Form
form_of report named = Page
form_of _ format.Text = Lines
form_of _ format.Json = Objects
