-- An expression as a list of its parts, in the order of its text.
use Rattle.std.specs.Prelude.{List, [], ◌∷◌, ◌++◌, false}
use Rattle.platform_specs.specs.Expressions.{Expression, Expressions, fact, constant, not_of, all_of, any_of, no_more, part}
use Rattle.platform_specs.specs.declared.parts.Operator.{Operator}
use Rattle.platform_specs.specs.declared.parts.Operator.TheVariants.{All, Any, Not}
use Rattle.platform_specs.specs.declared.parts.Part.{Part}
use Rattle.platform_specs.specs.declared.parts.Part.TheVariants.{Open, Constant, Fact, Join, Close}

abbrev mutual
  pub parts_of : Expression → List Part
  parts_of (fact f) = Fact f ∷ []
  parts_of (constant b) = Constant b ∷ []
  parts_of (not_of e) = Open Not ∷ (parts_of e ++ Join Not ∷ Close ∷ [])
  parts_of (all_of es) = Open All ∷ (joined All es ++ Close ∷ [])
  parts_of (any_of es) = Open Any ∷ (joined Any es ++ Close ∷ [])

  -- each part, with a `Join` after it
  pub joined : Operator → Expressions → List Part
  joined op no_more = []
  joined op (part e es) = parts_of e ++ (Join op ∷ joined op es)

-- an operator applied to its parts
abbrev pub applied : Operator → Expressions → Expression
applied All es = all_of es
applied Any es = any_of es
applied Not no_more = constant false
applied Not (part e es) = not_of e

-- the expressions at the current level, and those of the outer levels
pub record Levels : Type 0 where
  pub here : Expressions
  pub outer : List Expressions

-- one more expression in front
abbrev pub with_part : Expression → Levels → Levels
with_part e l = record { here = part e l.here; outer = l.outer }

-- an operator applied to the current level becomes an expression of the next outer level
abbrev pub closed_over : Operator → Expressions → List Expressions → Levels
closed_over op es [] = record { here = part (applied op es) no_more; outer = [] }
closed_over op es (level ∷ outer) = record { here = part (applied op es) level; outer = outer }

abbrev pub opened_by : Operator → Levels → Levels
opened_by op l = closed_over op l.here l.outer

-- the expressions that the parts spell, read from the last part on
abbrev pub levels_of : List Part → Levels
levels_of [] = record { here = no_more; outer = [] }
levels_of (Open op ∷ ps) = opened_by op (levels_of ps)
levels_of (Constant b ∷ ps) = with_part (constant b) (levels_of ps)
levels_of (Fact f ∷ ps) = with_part (fact f) (levels_of ps)
levels_of (Join op ∷ ps) = levels_of ps
levels_of (Close ∷ ps) = let l = levels_of ps in record { here = no_more; outer = l.here ∷ l.outer }

-- the first expression
abbrev pub first_of_them : Expressions → Expression
first_of_them no_more = constant false
first_of_them (part e es) = e

-- the expression with these parts
abbrev pub expression_of : List Part → Expression
expression_of ps = first_of_them (levels_of ps).here
