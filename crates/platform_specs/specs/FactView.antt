-- Facts as values.
use Rattle.std.specs.Prelude.{Some, None, string_bytes}
use Rattle.platform_specs.specs.Facts.{FactText}
use Rattle.platform_specs.specs.declared.fact.Fact.TheInside.{Inside}

abbrev pub fact_text : Inside → FactText
fact_text f = record { name = string_bytes f.name; value = elim f.value [ None ↦ None | Some s ↦ Some (string_bytes s) ] }
