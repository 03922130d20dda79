-- Platform specs as values, independent of their texts.
use Rattle.std.specs.Prelude.{ℕ, List, Bool}
use Rattle.platform_specs.specs.Facts.{FactText}

mutual
  -- an expression inside `cfg(..)`
  pub data Expression : Type 0 where
    fact : FactText → Expression
    constant : Bool → Expression
    not_of : Expression → Expression
    all_of : Expressions → Expression
    any_of : Expressions → Expression

  -- the parts of an `all` or `any`
  pub data Expressions : Type 0 where
    no_more : Expressions
    part : Expression → Expressions → Expressions

-- a platform spec: a platform name, or an expression over facts
pub data Spec : Type 0 where
  platform : List ℕ → Spec
  cfg : Expression → Spec

-- a target: its triple, and its facts
pub record Target : Type 0 where
  pub triple : List ℕ
  pub facts : List FactText
