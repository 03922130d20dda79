-- The platform specs that hold on a platform.
use Rattle.std.specs.Prelude.{◌≡◌, Bool, List}
use Rattle.std.specs.List.{AllByRecursion, list_any}
use Rattle.std.specs.Ordering.{is_eq}
use Rattle.std.specs.Str.{bytes_eq}
use Rattle.cargo_workspaces.specs.Workspaces.{Text, text_cmp}
use Rattle.platform_specs.specs.Expressions.{Spec, Target}
use Rattle.platform_specs.specs.Grammar.{IsSpecText}
use Rattle.platform_specs.specs.Truth.{truth_of}
use Rattle.plan_rows.specs.platforms.DeclaredSpecs.{DeclaredText}
use Rattle.plan_rows.specs.declared.platforms.holding.HeldSpecs.{HeldSpecs}

-- Whether a text is one of those that hold.
abbrev pub holds_on : HeldSpecs → Text → Bool
holds_on held text = list_any (λ k. is_eq (text_cmp text k.now)) held.texts.keys

-- The text spells a spec, whose truth for the target is `b`.
abbrev pub IsTruth : Target → Text → Bool → Type 0
IsTruth target text b = (spec : Spec) × IsSpecText text spec × (b ≡ truth_of target spec)

-- Each of the texts holds exactly if the spec that it spells holds for the target.
abbrev pub AreHeld : Target → List DeclaredText → (Text → Bool) → Type 0
AreHeld target specs holds = AllByRecursion (λ s. IsTruth target s.text (holds s.text)) specs

-- Whether a text is one of the declared specs.
abbrev pub is_declared : List DeclaredText → Text → Bool
is_declared specs text = list_any (λ s. bytes_eq s.text text) specs
