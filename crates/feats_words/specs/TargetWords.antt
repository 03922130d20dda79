-- What the words for targets mean.
use Rattle.std.specs.Prelude.{List, [], ◌∷◌, Bool, true, false, not, ◌&&◌, ◌||◌, Option, None, Some, Result, Ok, Err, codes, if◌then◌else◌}
use Rattle.std.specs.Option.{option_map_or}
use Rattle.std.specs.Str.{bytes_eq}
use Rattle.clap.specs.Words.{Text}
use Rattle.feats_words.specs.Refusals.{Refusal, bad_command}
use Rattle.feats_words.specs.Requests.{KindWordsText, TargetWordsText}

abbrev pub are_some : List Text → Bool
are_some [] = false
are_some (word ∷ words) = true

abbrev pub is_kind_given : KindWordsText → Bool
is_kind_given k = k.all || are_some k.names

-- Whether `--tests` is the only word for targets.
abbrev pub is_tests_alone : TargetWordsText → Bool
is_tests_alone t =
    t.tests.all && not (t.lib || t.all_targets || are_some t.tests.names || is_kind_given t.bins || is_kind_given t.examples || is_kind_given t.benches)

-- Whether `--tests` has its old meaning, `--command test`: if it is the only word for targets, and no command is named.
abbrev pub is_old : Option Text → TargetWordsText → Bool
is_old None t = is_tests_alone t
is_old (Some command) t = false

abbrev pub is_test_named : Text → Result Bool Refusal
is_test_named word = if bytes_eq word (codes "build") then Ok false else (if bytes_eq word (codes "test") then Ok true else Err (bad_command word))

-- Whether the command is `cargo test`, and not `cargo build`.
abbrev pub is_test : Option Text → Result Bool Refusal
is_test command = option_map_or is_test_named command (Ok false)
