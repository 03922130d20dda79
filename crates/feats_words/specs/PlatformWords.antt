-- Platform words: `TRIPLE=CFGFILE`.
use Rattle.std.specs.Prelude.{ℕ, ◌==◌, ◌||◌, Bool, Option, None, Some, length, nat_lt, if◌then◌else◌}
use Rattle.std.specs.List.{position_or_len, before_first, after_first}
use Rattle.clap.specs.Words.{Text}

pub record PlatformText : Type 0 where
  pub triple : Text
  pub path : Text

abbrev pub is_equals : ℕ → Bool
is_equals b = b == 61

-- The parts, if none is empty.
abbrev pub platform_of : Text → Text → Option PlatformText
platform_of triple path = if (length triple == 0) || (length path == 0) then None else Some (record { triple = triple; path = path })

-- The parts before and after the first `=`, if there is one.
abbrev pub platform_word : Text → Option PlatformText
platform_word word = if nat_lt (position_or_len is_equals word) (length word) then platform_of (before_first is_equals word) (after_first is_equals word) else None
