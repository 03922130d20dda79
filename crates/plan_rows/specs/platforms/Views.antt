-- The values that Rust's types contain.
use Rattle.plan_rows.specs.platforms.DeclaredSpecs.{DeclaredText}
use Rattle.plan_rows.specs.declared.platforms.declarations.DeclaredSpec.{DeclaredSpec}

abbrev pub declared_text : DeclaredSpec → DeclaredText
declared_text s = record { owner = s.«package»; text = s.text.now }
