-- The truth of a platform spec for a target.
use Rattle.std.specs.Prelude.{ℕ, Bool, true, false, not, ◌&&◌, ◌||◌, List, Option, Some, None}
use Rattle.std.specs.List.{list_any}
use Rattle.std.specs.Str.{bytes_eq}
use Rattle.platform_specs.specs.Facts.{FactText}
use Rattle.platform_specs.specs.Expressions.{Expression, Expressions, fact, constant, not_of, all_of, any_of, no_more, part, Spec, platform, cfg, Target}

-- both have no value, or both have the same
abbrev pub same_value : Option (List ℕ) → Option (List ℕ) → Bool
same_value None None = true
same_value None (Some w) = false
same_value (Some v) None = false
same_value (Some v) (Some w) = bytes_eq v w

-- the same name, and the same value or none
abbrev pub same_fact : FactText → FactText → Bool
same_fact f g = bytes_eq f.name g.name && same_value f.value g.value

-- the fact is one of those that are known
abbrev pub is_known : List FactText → FactText → Bool
is_known known f = list_any (same_fact f) known

abbrev mutual
  -- the truth of an expression if these facts are known and no others
  pub truth_in : List FactText → Expression → Bool
  truth_in known (fact f) = is_known known f
  truth_in known (constant b) = b
  truth_in known (not_of e) = not (truth_in known e)
  truth_in known (all_of es) = every_holds known es
  truth_in known (any_of es) = some_holds known es

  -- every part holds; true for no parts
  pub every_holds : List FactText → Expressions → Bool
  every_holds known no_more = true
  every_holds known (part e es) = truth_in known e && every_holds known es

  -- some part holds; false for no parts
  pub some_holds : List FactText → Expressions → Bool
  some_holds known no_more = false
  some_holds known (part e es) = truth_in known e || some_holds known es

-- the truth of a spec; a platform name holds for the triple with the same text
abbrev pub truth_of : Target → Spec → Bool
truth_of target (platform name) = bytes_eq name target.triple
truth_of target (cfg e) = truth_in target.facts e
