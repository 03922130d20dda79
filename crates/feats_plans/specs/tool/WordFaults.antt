-- The arguments of a request, and the message if its words are refused.
use Rattle.std.specs.Prelude.{◌≡◌, Err}
use Rattle.cargo_workspaces.specs.Workspaces.{Text}
use Rattle.feats_words.specs.Arguments.{arguments}
use Rattle.feats_words.specs.Refusals.{Refusal}
use Rattle.feats_words.specs.Requests.{RequestText}
use Rattle.feats_files.specs.WordMessages.{words_message}

-- The message is about the first word that can't be read.
abbrev pub IsWordsRefusal : RequestText → Text → Type 0
IsWordsRefusal request message = (refusal : Refusal) × (arguments request ≡ Err refusal) × (message ≡ words_message refusal)
