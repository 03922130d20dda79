-- Platform specs as values.
use Rattle.std.specs.Prelude.{◌≡◌, string_bytes}
use Rattle.platform_specs.specs.Expressions.{Spec, platform, cfg}
use Rattle.platform_specs.specs.inner.Parts.{parts_of, expression_of}
use Rattle.platform_specs.specs.declared.platform_spec.SpecKind.{SpecKind}
use Rattle.platform_specs.specs.declared.platform_spec.SpecKind.TheVariants.{Platform, Cfg}

abbrev pub spec_of : SpecKind → Spec
spec_of (Platform name) = platform (string_bytes name)
spec_of (Cfg ps) = cfg (expression_of ps.items)

-- the parts are the parts of an expression
abbrev pub IsSpecKind : SpecKind → Type 0
IsSpecKind (Platform name) = Unit {0}
IsSpecKind (Cfg ps) = parts_of (expression_of ps.items) ≡ ps.items
