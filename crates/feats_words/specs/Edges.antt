-- What the nodes of a tree or a graph are.
use Rattle.std.specs.Prelude.{Option, Result, Ok, Err, codes, if◌then◌else◌}
use Rattle.std.specs.Str.{bytes_eq}
use Rattle.std.specs.Option.{option_map_or}
use Rattle.clap.specs.Words.{Text}
use Rattle.feats_words.specs.Refusals.{Refusal, bad_edges}
use Rattle.feats_words.specs.declared.edges.Edges.{Edges}
use Rattle.feats_words.specs.declared.edges.Edges.TheVariants.{Packages, Features}

abbrev pub edges_named : Text → Result Edges Refusal
edges_named word =
    if bytes_eq word (codes "packages") then Ok Packages
    else (if bytes_eq word (codes "features") then Ok Features else Err (bad_edges word))

-- Packages, if there is no word.
abbrev pub edges : Option Text → Result Edges Refusal
edges word = option_map_or edges_named word (Ok Packages)
