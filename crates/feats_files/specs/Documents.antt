-- The JSON document in a text.
use Rattle.std.specs.Prelude.{◌≡◌, [], ◌∷◌, Option, None, codes, option_and_then}
use Rattle.json.specs.Json.{Json, value, if_last}
use Rattle.json.specs.Lex.{tokens}
use Rattle.cargo_workspaces.specs.Workspaces.{Text}
use Rattle.feats_files.specs.Messages.{joined}

-- The document in a text, if it is one and its arrays and objects nest no deeper than 127.
abbrev pub document : Text → Option Json
document text = option_and_then (λ p. if_last p.0 p.1) (value 127 (tokens text))

abbrev pub not_json_message : Text
not_json_message = joined (codes "the document isn't JSON: make it by `cargo metadata --format-version 1 --all-features`" ∷ [])

-- The message that the text is no document.
abbrev pub IsNoDocument : Text → Text → Type 0
IsNoDocument text message = (document text ≡ None) × (message ≡ not_json_message)
