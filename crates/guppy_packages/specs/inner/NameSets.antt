-- Sets of named things, as lists.
use Rattle.std.specs.Prelude.{List}
use Rattle.guppy_packages.specs.declared.name_set.Held.{Held}
use Rattle.guppy_packages.specs.declared.name_set.Held.TheVariants.{Few, Many}

abbrev pub held_items : {T : Type 0} → Held T → List T
held_items (Few v) = v.items
held_items (Many b) = b.value.keys
