-- The command lines that `diff` compares: `feats diff COMMON -- WORDS -- WORDS`.
use Rattle.std.specs.Prelude.{◌≡◌, List, [], ◌∷◌, ◌++◌, Bool, true, false, ◌&&◌, Option, None, Some, codes, if◌then◌else◌}
use Rattle.std.specs.List.{slice_split}
use Rattle.std.specs.Str.{bytes_eq}
use Rattle.clap.specs.Words.{Text}
use Rattle.feats_words.specs.Requests.{texts}
use Rattle.feats.specs.declared.comparisons.command_lines.ComparedWords.{ComparedWords}

-- The words of two command lines.
pub record ComparedText : Type 0 where
  pub before : List Text
  pub after : List Text

abbrev pub compared_text : ComparedWords → ComparedText
compared_text c = record { before = texts c.before.items; after = texts c.after.items }

abbrev pub is_mark : Text → Bool
is_mark word = bytes_eq word (codes "--")

-- A command line of `plan`: the program's name, the command, the common words, and those of one build.
abbrev pub plan_line : Text → List Text → List Text → List Text
plan_line name common own = name ∷ codes "plan" ∷ (common ++ own)

-- The command lines by the three parts of the words after `diff`.
abbrev pub lines_of : Text → List (List Text) → Option ComparedText
lines_of name (common ∷ before ∷ after ∷ []) = Some (record { before = plan_line name common before; after = plan_line name common after })
lines_of name _ = None

-- The command lines that are compared, if the second word is `diff`, and exactly two of the words after it are `--`.
abbrev pub compared : List Text → Option ComparedText
compared (name ∷ command ∷ words) = if bytes_eq command (codes "diff") then lines_of name (slice_split is_mark words) else None
compared _ = None

abbrev pub has_extra : List (List Text) → Bool
has_extra (common ∷ before ∷ after ∷ extra ∷ more) = true
has_extra _ = false

-- Whether the second word is `diff`, and more than two of the words after it are `--`.
abbrev pub has_extra_mark : List Text → Bool
has_extra_mark (name ∷ command ∷ words) = bytes_eq command (codes "diff") && has_extra (slice_split is_mark words)
has_extra_mark _ = false

abbrev pub mark_message : Text
mark_message = codes "`diff` has a third `--`: leave it out, as in `diff -- WORDS -- WORDS`"

-- The message that there is a third `--`.
abbrev pub IsMarkRefusal : List Text → Text → Type 0
IsMarkRefusal words message = (has_extra_mark words ≡ true) × (message ≡ mark_message)
