-- Which fault the specs of a graph have.
use Rattle.std.specs.Prelude.{◌≡◌, ℕ, List, ◌∷◌, ◌++◌}
use Rattle.std.specs.List.{AllByRecursion}
use Rattle.guppy_packages.specs.Rows.{Text}
use Rattle.platform_specs.specs.Expressions.{Spec}
use Rattle.platform_specs.specs.Grammar.{IsSpecText}
use Rattle.platform_specs.specs.Faults.{IsMalformedAt}
use Rattle.guppy_features.specs.declared.graph_platforms.fault.PlatformFault.{PlatformFault}
use Rattle.guppy_features.specs.declared.graph_platforms.fault.PlatformFault.TheVariants.{Malformed, Memory}

-- each of the texts spells a spec
abbrev pub AllSpell : List Text → Type 0
AllSpell = AllByRecursion (λ text. (spec : Spec) × IsSpecText text spec)

-- the first of the texts that spells no spec, and the byte up to which a spec begins as it does
pub record IsFirstMalformed (texts : List Text) (text : Text) (at : ℕ) : Type 0 where
  pub before : List Text
  pub after : List Text
  pub parts : texts ≡ before ++ text ∷ after
  pub spelled : AllSpell before
  pub malformed : IsMalformedAt text at

abbrev pub IsFaultOf : List Text → PlatformFault → Type 0
IsFaultOf texts (Malformed spec at) = IsFirstMalformed texts spec.now at
IsFaultOf texts Memory = Unit {0}

-- this text is malformed
abbrev pub IsFaultAt : Text → PlatformFault → Type 0
IsFaultAt text (Malformed spec at) = (spec.now ≡ text) × IsMalformedAt text at
IsFaultAt text Memory = Unit {0}
