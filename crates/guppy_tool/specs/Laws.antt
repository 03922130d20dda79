-- Laws of the program's output.
use Rattle.std.specs.Prelude.{◌≡◌, ◌↔◌, List, Result, Err, Bool, true, false, IsFalse, Contains, map}
use Rattle.guppy_packages.specs.Rows.{Text}
use Rattle.guppy_packages.specs.Tables.{Tables}
use Rattle.guppy_packages.specs.declared.row.DependencyKind.{DependencyKind}
use Rattle.feature_labels.specs.Names.{LabelName}
use Rattle.feature_graph.specs.Told.{ReasonName}
use Rattle.guppy_tool.specs.Answers.{Builds}
use Rattle.guppy_tool.specs.Faults.{Refusal}
use Rattle.guppy_tool.specs.Words.{CommandText, build}
use Rattle.guppy_tool.specs.Run.{IsAnswer}

-- whether a command may have several texts: only `build`, since a feature may be on for several reasons
abbrev pub has_choice : CommandText → Bool
has_choice (build kinds ids specs) = true
has_choice _ = false

-- a command without a choice, over the same bytes, has one text or one refusal
abbrev pub OneAnswer : Type 0
OneAnswer = (command : CommandText) (bytes : Text) (a b : Result Text Refusal) → IsFalse (has_choice command) → IsAnswer command bytes a → IsAnswer command bytes b → a ≡ b

-- if a command over some bytes may be refused, this refusal is its only result
abbrev pub OneRefusal : Type 0
OneRefusal = (command : CommandText) (bytes : Text) (refusal : Refusal) (b : Result Text Refusal) → IsAnswer command bytes (Err refusal) → IsAnswer command bytes b → b ≡ Err refusal

-- The features that steps are told for.
abbrev pub named_in : List ((Text × LabelName) × ReasonName) → List (Text × LabelName)
named_in told = map (λ s. s.0) told

-- Two texts of one `build` over the same tables name the same features.
abbrev pub OneBuildSet : Type 0
OneBuildSet =
    (t : Tables) (kinds : List DependencyKind) (ids : List (Text × LabelName)) (specs : List Text) (a b : Text) (x : Builds t kinds ids specs a) (y : Builds t kinds ids specs b)
    (name : Text × LabelName) → Contains (named_in x.told) name ↔ Contains (named_in y.told) name
