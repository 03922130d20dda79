-- The JSON document in a text.
use Rattle.std.specs.Prelude.{Option, option_and_then}
use Rattle.json.specs.Json.{Json, value, if_last}
use Rattle.json.specs.Lex.{tokens}
use Rattle.cargo_json.specs.Faults.{Text}

-- the document in a text, if it is one and its arrays and objects nest no deeper than 127
abbrev pub document : Text → Option Json
document text = option_and_then (λ p. if_last p.0 p.1) (value 127 (tokens text))
