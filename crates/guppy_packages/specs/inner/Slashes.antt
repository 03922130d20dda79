-- Texts with a slash.
use Rattle.std.specs.Prelude.{Option, Some, None, if◌then◌else◌}
use Rattle.std.specs.List.{list_any, before_first, after_first}
use Rattle.guppy_packages.specs.Items.{is_slash}
use Rattle.guppy_packages.specs.Rows.{Text}

-- The parts of a text before and after its first slash, or `None` if it contains no slash.
abbrev pub parts_of : Text → Option (Text × Text)
parts_of text = if list_any is_slash text then Some (before_first is_slash text, after_first is_slash text) else None
