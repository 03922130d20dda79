-- Platform statuses as plain values.
use Rattle.std.specs.Prelude.{◌≢◌, List, [], ◌∷◌, Option, None, Some, map, slice_get}
use Rattle.std.specs.String.{string_bytes}
use Rattle.guppy_packages.specs.Rows.{Text}
use Rattle.guppy_packages.specs.declared.platform.Spec.{Spec}
use Rattle.guppy_packages.specs.declared.platform.PlatformStatus.{PlatformStatus}
use Rattle.guppy_packages.specs.declared.platform.PlatformStatus.TheVariants as status
use Rattle.guppy_packages.specs.declared.platform.PlatformStatusImpl.{PlatformStatusImpl}
use Rattle.guppy_packages.specs.declared.platform.PlatformStatusImpl.TheVariants as held

-- On no platform, on all, or on the platforms of these specs.
pub data Status : Type 0 where
  never_status : Status
  always_status : Status
  spec_status : List Text → Status

abbrev pub IsPresent : Status → Type 0
IsPresent s = s ≢ never_status

abbrev pub spec_text : Spec → Text
spec_text s = string_bytes s.text

-- No spec means never.
abbrev pub status_by : List Text → Status
status_by [] = never_status
status_by (s ∷ specs) = spec_status (s ∷ specs)

abbrev pub status_of : PlatformStatus → Status
status_of status.Never = never_status
status_of (status.PlatformDependent specs) = spec_status (map spec_text specs.now)
status_of status.Always = always_status

abbrev pub impl_status : PlatformStatusImpl → Status
impl_status held.Always = always_status
impl_status (held.Specs specs) = status_by (map spec_text specs.items)

-- The stored specs, unless the status is always.
abbrev pub platform_specs : PlatformStatusImpl → Option (List Text)
platform_specs held.Always = None
platform_specs (held.Specs specs) = Some (map spec_text specs.items)

-- The platform of a declaration: all, or one spec.
abbrev pub platform_text : PlatformStatusImpl → Option Text
platform_text held.Always = None
platform_text (held.Specs specs) = slice_get (map spec_text specs.items) 0
