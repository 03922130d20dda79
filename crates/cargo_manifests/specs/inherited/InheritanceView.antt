-- The value that an inheritance contains.
use Rattle.std.specs.Prelude.{Option, map, option_map}
use Rattle.std.specs.Borrow.{Bor}
use Rattle.toml.specs.Data.{Data}
use Rattle.toml.specs.View.{view}
use Rattle.toml.specs.declared.value.Value.{Value}
use Rattle.cargo_manifests.specs.inherited.Inheritances.{InheritanceText}
use Rattle.cargo_manifests.specs.declared.inherited.inheritance.Inheritance.{Inheritance}

abbrev pub entry_view : Option (Bor Value) → Option Data
entry_view = option_map (λ v. view v.now)

abbrev pub inheritance_text : Inheritance → InheritanceText
inheritance_text i = record { table = entry_view i.table; entries = map (λ entries. map entry_view entries.items) i.entries.items }
