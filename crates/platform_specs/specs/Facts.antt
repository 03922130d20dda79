-- Facts, as in the output of `rustc --print cfg` and in platform specs.
use Rattle.std.specs.Prelude.{ℕ, List, Option}

-- a name without `r#`, and a value if one is written; both are the bytes of a text
pub record FactText : Type 0 where
  pub name : List ℕ
  pub value : Option (List ℕ)
