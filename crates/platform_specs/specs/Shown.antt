-- How a spec is printed.
use Rattle.std.specs.Prelude.{ℕ, Bool, true, false, List, [], ◌++◌, Option, Some, None, codes, if◌then◌else◌}
use Rattle.platform_specs.specs.Facts.{FactText}
use Rattle.platform_specs.specs.Expressions.{Expression, Expressions, fact, constant, not_of, all_of, any_of, no_more, part, Spec, platform, cfg}
use Rattle.platform_specs.specs.Grammar.{is_operator}

abbrev pub value_shown : Option (List ℕ) → List ℕ
value_shown None = []
value_shown (Some value) = codes " = \"" ++ (value ++ codes "\"")

-- `r#` stands before the names that are operators
abbrev pub fact_shown : FactText → List ℕ
fact_shown f = (if is_operator f.name then codes "r#" else []) ++ (f.name ++ value_shown f.value)

abbrev pub constant_shown : Bool → List ℕ
constant_shown true = codes "true"
constant_shown false = codes "false"

abbrev mutual
  pub shown : Expression → List ℕ
  shown (fact f) = fact_shown f
  shown (constant b) = constant_shown b
  shown (not_of e) = codes "not(" ++ (shown e ++ codes ")")
  shown (all_of es) = codes "all(" ++ (parts_shown es ++ codes ")")
  shown (any_of es) = codes "any(" ++ (parts_shown es ++ codes ")")

  -- the parts, with `, ` between two of them
  pub parts_shown : Expressions → List ℕ
  parts_shown no_more = []
  parts_shown (part e es) = shown e ++ others_shown es

  pub others_shown : Expressions → List ℕ
  others_shown no_more = []
  others_shown (part e es) = codes ", " ++ (shown e ++ others_shown es)

-- THE PRINTED FORM of a spec
abbrev pub spec_shown : Spec → List ℕ
spec_shown (platform name) = name
spec_shown (cfg e) = codes "cfg(" ++ (shown e ++ codes ")")
