-- Two documents whose bytes are known under other names.
use Rattle.std.proofs.Common.{◌≡◌, subst, Option, Some, None}
use Rattle.std.specs.Prelude.{IfSome}
use Rattle.cargo_workspaces.specs.Workspaces.{Text}
use Rattle.feats.specs.comparisons.Sides.{SideText, side}
use Rattle.feats_plans.specs.Inputs.{InputsText}

pub related : (old_inputs new_inputs : InputsText) (old_left new_left : Option Text) (o n : Text) (P : SideText → SideText → Type 0)
    → IfSome old_left (λ xs. o ≡ xs) → IfSome new_left (λ ys. n ≡ ys) → P (side old_inputs o) (side new_inputs n)
    → IfSome old_left (λ xs. IfSome new_left (λ ys. P (side old_inputs xs) (side new_inputs ys)))
related old_inputs new_inputs None new_left o n P is more holds = tt
related old_inputs new_inputs (Some xs) None o n P is more holds = tt
related old_inputs new_inputs (Some xs) (Some ys) o n P is more holds =
    subst (λ (z : Text). P (side old_inputs xs) (side new_inputs z)) more (subst (λ (z : Text). P (side old_inputs z) (side new_inputs n)) is holds)
