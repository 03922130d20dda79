-- The platform specs that hold on the platforms of a plan.
use Rattle.std.specs.Prelude.{◌≡◌, ℕ, List, [], ◌∷◌, Bool, true, false, IsFalse, slice_get, codes, ⊤}
use Rattle.std.specs.Option.{option_map_or}
use Rattle.cargo_workspaces.specs.Workspaces.{Text, PackageText}
use Rattle.platform_specs.specs.Expressions.{Target}
use Rattle.plan_rows.specs.platforms.DeclaredSpecs.{DeclaredText}
use Rattle.plan_rows.specs.platforms.HeldSpecs.{AreHeld}
use Rattle.plan_rows.specs.platforms.SpecFaults.{IsFaultOf}
use Rattle.plan_rows.specs.declared.platforms.fault.PlatformFault.{PlatformFault}
use Rattle.plan_rows.specs.declared.platforms.fault.PlatformFault.TheVariants.{Malformed, Memory}
use Rattle.feats_files.specs.Messages.{joined}

-- The specs that hold on each of the targets are those that hold for it.
abbrev pub AreHeldOnEach : List Target → List DeclaredText → List (Text → Bool) → Type 0
AreHeldOnEach [] specs [] = ⊤
AreHeldOnEach (target ∷ targets) specs (holds ∷ more) = AreHeld target specs holds × AreHeldOnEach targets specs more
AreHeldOnEach [] specs (holds ∷ more) = ⊥
AreHeldOnEach (target ∷ targets) specs [] = ⊥

-- The id of package `p`; no text, if there is no such package.
abbrev pub id_at : List PackageText → ℕ → Text
id_at packages p = option_map_or (λ x. x.id) (slice_get packages p) []

abbrev pub specs_message : List PackageText → PlatformFault → Text
specs_message packages (Malformed p spec at) = joined (codes "package " ∷ id_at packages p ∷ codes " names `" ∷ spec.now ∷ codes "`, which is no platform spec: write a triple or `cfg(..)`" ∷ [])
specs_message packages Memory = codes "out of memory"

-- Whether the fault is out of memory. `IsFaultOf` holds for that fault always, so a message may not rest on it.
abbrev pub is_memory : PlatformFault → Bool
is_memory Memory = true
is_memory _ = false

-- The message is about the first of the specs that is malformed.
abbrev pub IsSpecRefusal : List PackageText → List DeclaredText → Text → Type 0
IsSpecRefusal packages specs message = (fault : PlatformFault) × IsFaultOf specs fault × IsFalse (is_memory fault) × (message ≡ specs_message packages fault)
