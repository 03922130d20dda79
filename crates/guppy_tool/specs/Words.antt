-- The command line: its words, and the command that they ask for.
use Rattle.std.specs.Prelude.{ℕ, List, [], ◌∷◌, Bool, Option, None, Some, Result, Ok, Err, take, drop, map, ◌==◌, if◌then◌else◌, codes}
use Rattle.std.specs.List.{list_any, before_first, after_first, before_last, after_last, slice_split}
use Rattle.std.specs.Str.{bytes_eq}
use Rattle.guppy_packages.specs.Rows.{Text, texts}
use Rattle.guppy_packages.specs.declared.direction.DependencyDirection.{DependencyDirection}
use Rattle.guppy_packages.specs.declared.direction.DependencyDirection.TheVariants.{Forward, Reverse}
use Rattle.guppy_packages.specs.declared.row.DependencyKind.{DependencyKind}
use Rattle.guppy_packages.specs.declared.row.DependencyKind.TheVariants.{Normal, Build, Development}
use Rattle.feature_labels.specs.Names.{LabelName, base, named, optional, label_of}
use Rattle.guppy_tool.specs.Faults.{Refusal, usage, bad_id}
use Rattle.row_files.specs.FirstFault.{each_or}
use Rattle.guppy_tool.specs.declared.words.GivenId.{GivenId}
use Rattle.guppy_tool.specs.declared.words.Command.{Command}
use Rattle.guppy_tool.specs.declared.words.Command.TheVariants as commands

-- a command, with texts in place of strings
pub data CommandText : Type 0 where
  resolve : DependencyDirection → List (Text × LabelName) → CommandText
  visit : DependencyDirection → List (Text × LabelName) → CommandText
  ordered : DependencyDirection → CommandText
  all_cycles : CommandText
  list_of : Text → CommandText
  all_warnings : CommandText
  build : List DependencyKind → List (Text × LabelName) → List Text → CommandText

abbrev pub given_of : GivenId → Text × LabelName
given_of id = (id.package_id, label_of id.label)

abbrev pub command_text : Command → CommandText
command_text (commands.Resolve direction ids) = resolve direction (map given_of ids.items)
command_text (commands.Visit direction ids) = visit direction (map given_of ids.items)
command_text (commands.Order direction) = ordered direction
command_text commands.Cycles = all_cycles
command_text (commands.List package_id) = list_of package_id
command_text commands.Warnings = all_warnings
command_text (commands.Build kinds ids specs) = build kinds.items (map given_of ids.items) (texts specs.items)

abbrev pub is_slash : ℕ → Bool
is_slash b = b == 47

-- the parts of a word before and after its last slash
abbrev pub cut_at_last_slash : Text → Option (Text × Text)
cut_at_last_slash word = if list_any is_slash word then Some (before_last is_slash word, after_last is_slash word) else None

-- the label of a text: `[base]`, `dep:` with a name, or a name
abbrev pub label_in : Text → LabelName
label_in text =
    if bytes_eq text (codes "[base]") then base
    else (if bytes_eq (take 4 text) (codes "dep:") then optional (drop 4 text) else named text)

abbrev pub id_in_parts : Option (Text × Text) → Option (Text × LabelName)
id_in_parts None = None
id_in_parts (Some (package_id, label)) = Some (package_id, label_in label)

-- the id of a word: the package's id before the last slash, and the label after it
abbrev pub id_in : Text → Option (Text × LabelName)
id_in word = id_in_parts (cut_at_last_slash word)

-- the id of a word, or the refusal of the word
abbrev pub id_or_refusal : Text → Option (Text × LabelName) → Result (Text × LabelName) Refusal
id_or_refusal word None = Err (bad_id word)
id_or_refusal word (Some id) = Ok id

-- the ids of the words, or the refusal of the first word that is no id
abbrev pub ids_in : List Text → Result (List (Text × LabelName)) Refusal
ids_in = each_or id_in bad_id

abbrev pub direction_in : Text → Option DependencyDirection
direction_in word =
    if bytes_eq word (codes "forward") then Some Forward
    else (if bytes_eq word (codes "reverse") then Some Reverse else None)

abbrev pub with_direction : DependencyDirection → Result (List (Text × LabelName)) Refusal → Result (DependencyDirection × List (Text × LabelName)) Refusal
with_direction direction (Ok ids) = Ok (direction, ids)
with_direction direction (Err e) = Err e

abbrev pub ids_after : Option DependencyDirection → List Text → Result (DependencyDirection × List (Text × LabelName)) Refusal
ids_after None words = Err usage
ids_after (Some direction) words = with_direction direction (ids_in words)

-- a direction, followed by ids
abbrev pub directed_ids : List Text → Result (DependencyDirection × List (Text × LabelName)) Refusal
directed_ids [] = Err usage
directed_ids (word ∷ words) = ids_after (direction_in word) words

-- a command with a direction and ids
abbrev pub directed_command : (DependencyDirection → List (Text × LabelName) → CommandText) → Result (DependencyDirection × List (Text × LabelName)) Refusal → Result CommandText Refusal
directed_command command (Ok asked) = Ok (command asked.0 asked.1)
directed_command command (Err e) = Err e

abbrev pub ordered_by : Option DependencyDirection → Result CommandText Refusal
ordered_by None = Err usage
ordered_by (Some direction) = Ok (ordered direction)

-- exactly one direction
abbrev pub one_direction : List Text → Result CommandText Refusal
one_direction (word ∷ []) = ordered_by (direction_in word)
one_direction _ = Err usage

-- exactly one package
abbrev pub one_package : List Text → Result CommandText Refusal
one_package (id ∷ []) = Ok (list_of id)
one_package _ = Err usage

abbrev pub kind_in : Text → Option DependencyKind
kind_in word =
    if bytes_eq word (codes "normal") then Some Normal
    else (if bytes_eq word (codes "build") then Some Build
    else (if bytes_eq word (codes "dev") then Some Development else None))

-- the dependency kinds in a word, separated by commas; a part that is no kind is refused
abbrev pub kinds_in : Text → Result (List DependencyKind) Refusal
kinds_in word = each_or kind_in (λ part. usage) (slice_split (λ b. b == 44) word)

abbrev pub is_dashes : Text → Bool
is_dashes word = bytes_eq word (codes "--")

abbrev pub build_command : List DependencyKind → List Text → Result (List (Text × LabelName)) Refusal → Result CommandText Refusal
build_command kinds specs (Ok ids) = Ok (build kinds ids specs)
build_command kinds specs (Err e) = Err e

-- the words after the first `--` are specs, and the words before it are ids
abbrev pub build_over : Result (List DependencyKind) Refusal → List Text → Result CommandText Refusal
build_over (Ok kinds) words = build_command kinds (after_first is_dashes words) (ids_in (before_first is_dashes words))
build_over (Err e) words = Err e

-- dependency kinds, followed by ids and specs
abbrev pub build_in : List Text → Result CommandText Refusal
build_in [] = Err usage
build_in (word ∷ words) = build_over (kinds_in word) words

-- a command without arguments
abbrev pub without_arguments : CommandText → List Text → Result CommandText Refusal
without_arguments command [] = Ok command
without_arguments command (word ∷ words) = Err usage

-- the command named by a word, with its arguments
abbrev pub command_in : Text → List Text → Result CommandText Refusal
command_in word arguments =
    if bytes_eq word (codes "resolve") then directed_command resolve (directed_ids arguments)
    else (if bytes_eq word (codes "visit") then directed_command visit (directed_ids arguments)
    else (if bytes_eq word (codes "order") then one_direction arguments
    else (if bytes_eq word (codes "cycles") then without_arguments all_cycles arguments
    else (if bytes_eq word (codes "list") then one_package arguments
    else (if bytes_eq word (codes "warnings") then without_arguments all_warnings arguments
    else (if bytes_eq word (codes "build") then build_in arguments else Err usage))))))

abbrev pub of_file : Text → Result CommandText Refusal → Result (Text × CommandText) Refusal
of_file file (Ok command) = Ok (file, command)
of_file file (Err e) = Err e

-- the file and the command of the words
abbrev pub words_ask : List Text → Result (Text × CommandText) Refusal
words_ask (file ∷ command ∷ arguments) = of_file file (command_in command arguments)
words_ask _ = Err usage
