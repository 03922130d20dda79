-- The texts that hold, while they are gathered.
use Rattle.std.specs.Prelude.{◌≡◌, Bool, true, false, cond, List}
use Rattle.std.specs.Ordering.{is_eq}
use Rattle.cargo_workspaces.specs.Workspaces.{Text, text_cmp}
use Rattle.platform_specs.specs.Expressions.{Target}
use Rattle.plan_rows.specs.platforms.DeclaredSpecs.{DeclaredText}
use Rattle.plan_rows.specs.platforms.HeldSpecs.{AreHeld, IsTruth}

-- Each text that is held spells a spec that holds, and each of these texts is held exactly if its spec holds.
pub record IsHolding (target : Target) (specs : List DeclaredText) (holds : Text → Bool) : Type 0 where
  pub sound : (text : Text) → holds text ≡ true → IsTruth target text true
  pub all : AreHeld target specs holds

-- Whether a text holds after another one was added, if that is told.
abbrev pub kept : Bool → Text → (Text → Bool) → Text → Bool
kept true text holds q = cond (is_eq (text_cmp text q)) true (holds q)
kept false text holds q = holds q
