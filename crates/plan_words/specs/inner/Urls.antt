-- A URL that names a package contains `#` or `/`.
use Rattle.std.specs.Prelude.{ℕ, Bool, ◌==◌, ◌||◌}
use Rattle.std.specs.List.{list_any}
use Rattle.cargo_workspaces.specs.Workspaces.{Text}
use Rattle.plan_words.specs.PackageWords.{is_hash}

abbrev pub is_slash : ℕ → Bool
is_slash c = c == 47

abbrev pub may_be_url : Text → Bool
may_be_url word = list_any is_hash word || list_any is_slash word
