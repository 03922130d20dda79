-- The names that several packages have.
use Rattle.std.specs.Prelude.{map, string_bytes}
use Rattle.feats_lines.specs.Repeats.{HasRepeated}
use Rattle.feats_diff.specs.texts.Titles.{NamesText}
use Rattle.feats_diff.specs.declared.texts.titles.Repeated.{Repeated}

abbrev pub names_text : Repeated → NamesText
names_text r = record { old = map string_bytes r.old_names.now; new = map string_bytes r.new_names.now }

-- The sets have the names that several packages have.
abbrev pub AreRepeated : Repeated → Type 0
AreRepeated r = HasRepeated r.old.now (names_text r).old × HasRepeated r.new.now (names_text r).new
