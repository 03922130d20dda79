-- The packages of a document, split from its other fields.
use Rattle.std.specs.Prelude.{◌≡◌, codes, Option, false}
use Rattle.std.specs.Str.{bytes_eq}
use Rattle.json.specs.Json.{Json}
use Rattle.json.specs.Find.{get}
use Rattle.cargo_json.specs.Faults.{Text}

-- the packages of a document, and a value with its other fields
pub record Parts (document : Json) (packages : Option Json) (rest : Json) : Type 0 where
  pub taken : packages ≡ get (codes "packages") document
  pub others : (name : Text) → bytes_eq (codes "packages") name ≡ false → get name rest ≡ get name document
