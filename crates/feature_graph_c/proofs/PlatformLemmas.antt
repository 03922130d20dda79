-- The platform of a declaration.
use Rattle.std.proofs.Common.{◌≡◌, [], ◌∷◌, map, Option, Some, None, refl, ap}
use Rattle.std.specs.Prelude.{slice_get}
use Rattle.std.specs.Option.{option_map}
use Rattle.guppy_packages.specs.Platform.{platform_specs, platform_text, spec_text}
use Rattle.guppy_packages.specs.Rows.{Text}
use Rattle.guppy_packages.specs.declared.platform.PlatformStatusImpl.{PlatformStatusImpl}
use Rattle.guppy_packages.specs.declared.platform.PlatformStatusImpl.TheVariants as held

pub platform_is : (p : PlatformStatusImpl) (t : Option Text) → platform_specs p ≡ option_map (λ s. s ∷ []) t → platform_text p ≡ t
platform_is held.Always None e = refl
platform_is held.Always (Some s) e = absurd (cc)
platform_is (held.Specs specs) None e = absurd (cc)
platform_is (held.Specs specs) (Some s) e = let same : map spec_text specs.items ≡ s ∷ [] = cc in ap (λ z. slice_get z 0) same
