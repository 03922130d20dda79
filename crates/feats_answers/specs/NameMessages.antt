-- Messages about words that name nothing, or several things.
use Rattle.std.specs.Prelude.{◌≡◌, List, [], ◌∷◌, ◌++◌, Result, Err, flat_map, codes}
use Rattle.cargo_workspaces.specs.Workspaces.{Text, PackageText}
use Rattle.plan_names.specs.Faults.{NameRefusal, unknown, several, out_of_memory}
use Rattle.plan_names.specs.Names.{NamedText, PartText, whole, feature, dependency}
use Rattle.feats_files.specs.Messages.{joined}
use Rattle.feats_files.specs.PackageWords.{word_at}
use Rattle.shown_texts.specs.Shown.{escaped}

-- What follows the package in the name of a part.
abbrev pub part_mark : PartText → Text
part_mark whole = []
part_mark (feature name) = codes "/"
part_mark (dependency name) = codes "/dep:"

abbrev pub part_name : PartText → Text
part_name whole = []
part_name (feature name) = name
part_name (dependency name) = name

-- The line of a candidate: the word for the package, and the part.
abbrev pub part_line : List PackageText → NamedText → Text
part_line packages n = joined (codes "\n  " ∷ escaped (word_at packages n.owner) ∷ part_mark n.part ∷ escaped (part_name n.part) ∷ [])

abbrev pub several_message : List PackageText → Text → List NamedText → Text
several_message packages word candidates = joined (codes "`" ∷ escaped word ∷ codes "` has several meanings: write one of these" ∷ []) ++ flat_map (part_line packages) candidates

-- The message about a word that names nothing. It may end with suggestions.
abbrev pub IsUnknownMessage : Text → Text → Type 0
IsUnknownMessage word message = (suggestions : Text) × (message ≡ joined (codes "nothing in the document has the name `" ∷ escaped word ∷ codes "`" ∷ suggestions ∷ []))

abbrev pub IsNameMessage : List PackageText → NameRefusal → Text → Type 0
IsNameMessage packages (unknown word) message = IsUnknownMessage word message
IsNameMessage packages (several word candidates) message = message ≡ several_message packages word candidates
IsNameMessage packages out_of_memory message = ⊥

-- The message about a word that names nothing, or several things.
abbrev pub IsNameRefusal : {X : Type 0} → List PackageText → Result X NameRefusal → Text → Type 0
IsNameRefusal packages given message = (refusal : NameRefusal) × (given ≡ Err refusal) × IsNameMessage packages refusal message
