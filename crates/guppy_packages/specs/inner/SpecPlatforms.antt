-- Platforms by their specs.
use Rattle.std.specs.Prelude.{◌≡◌, List, [], ◌∷◌, Some, All}
use Rattle.std.specs.declared.rc.Rc.{Rc}
use Rattle.std.specs.String.{string_bytes}
use Rattle.std.proofs.Common.{Global, String}
use Rattle.guppy_packages.specs.Platform.{platform_specs}
use Rattle.guppy_packages.specs.declared.platform.PlatformStatusImpl.{PlatformStatusImpl}

-- Each value is the platforms of its key.
abbrev pub AreOfSpecs : List (String Global × Rc PlatformStatusImpl Global) → Type 0
AreOfSpecs entries = All (λ e. platform_specs e.1.value ≡ Some (string_bytes e.0 ∷ [])) entries
