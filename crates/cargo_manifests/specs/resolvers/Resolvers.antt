-- The resolver that a root manifest chooses.
use Rattle.std.specs.Prelude.{◌≡◌, List, ℕ, Bool, true, false, Option, Some, None, Result, Ok, Err, ok_or, option_and_then, codes, if◌then◌else◌, IsSomeAnd, IsUtf8, ⊤}
use Rattle.std.specs.Str.{bytes_eq}
use Rattle.std.specs.Option.{option_map_or}
use Rattle.toml.specs.Data.{Data, table, get, as_str, as_bool}
use Rattle.toml.specs.Parse.{parse_document}
use Rattle.cargo_manifests.specs.declared.resolvers.resolver.Resolver.{Resolver}
use Rattle.cargo_manifests.specs.declared.resolvers.resolver.Resolver.TheVariants.{V1, V2, V3}
use Rattle.cargo_manifests.specs.declared.resolvers.fault.ManifestKey.{ManifestKey}
use Rattle.cargo_manifests.specs.declared.resolvers.fault.ManifestKey.TheVariants.{WorkspaceResolver, PackageResolver, PackageEdition, WorkspaceEdition}
use Rattle.cargo_manifests.specs.declared.resolvers.fault.KeyFault.{KeyFault}
use Rattle.cargo_manifests.specs.declared.resolvers.fault.KeyFault.TheVariants.{Unknown, Missing}
use Rattle.cargo_manifests.specs.declared.resolvers.fault.ManifestFault.{ManifestFault}
use Rattle.cargo_manifests.specs.declared.resolvers.fault.ManifestFault.TheVariants as fault

abbrev pub Text : Type 0
Text = List ℕ

abbrev pub key_text : ManifestKey → Text
key_text WorkspaceResolver = codes "workspace.resolver"
key_text PackageResolver = codes "package.resolver"
key_text PackageEdition = codes "package.edition"
key_text WorkspaceEdition = codes "workspace.package.edition"

-- Whether the resolver keeps the features of build dependencies and procedural macros apart from those of the target.
abbrev pub is_split : Resolver → Bool
is_split V1 = false
is_split V2 = true
is_split V3 = true

abbrev pub resolver_named : Text → Option Resolver
resolver_named text =
    if bytes_eq text (codes "1") then Some V1
    else (if bytes_eq text (codes "2") then Some V2
    else (if bytes_eq text (codes "3") then Some V3 else None))

abbrev pub resolver_of_edition : Text → Option Resolver
resolver_of_edition text =
    if bytes_eq text (codes "2015") then Some V1
    else (if bytes_eq text (codes "2018") then Some V1
    else (if bytes_eq text (codes "2021") then Some V2
    else (if bytes_eq text (codes "2024") then Some V3 else None)))

-- The value of a key in a table of the manifest.
abbrev pub value_at : Text → Text → Data → Option Data
value_at section key d = option_and_then (get key) (get section d)

-- The value of a key in the table of the root package: `package`, or `project`, its older name, if there is no `package`.
abbrev pub package_value : Text → Data → Option Data
package_value key d = option_map_or (get key) (get (codes "package") d) (value_at (codes "project") key d)

-- The resolver that the value of a key names.
abbrev pub named_by : ManifestKey → Data → Result Resolver KeyFault
named_by key value = ok_or (option_and_then resolver_named (as_str value)) (Unknown key)

-- The resolver of the edition that the value of a key names.
abbrev pub of_edition : ManifestKey → Data → Result Resolver KeyFault
of_edition key value = ok_or (option_and_then resolver_of_edition (as_str value)) (Unknown key)

-- Whether a package inherits a value: it is `{ workspace = true }`.
abbrev pub is_inherited : Data → Bool
is_inherited value = option_map_or (λ b. b) (option_and_then as_bool (get (codes "workspace") value)) false

-- The resolver of the edition that the workspace's packages inherit.
abbrev pub of_inherited : Data → Result Resolver KeyFault
of_inherited d = option_map_or (of_edition WorkspaceEdition) (option_and_then (get (codes "edition")) (value_at (codes "workspace") (codes "package") d)) (Err (Missing WorkspaceEdition))

abbrev pub by_package_edition : Data → Data → Result Resolver KeyFault
by_package_edition d value = if is_inherited value then of_inherited d else of_edition PackageEdition value

-- The resolver of the root package's edition: the first, if it has none.
abbrev pub by_edition : Data → Result Resolver KeyFault
by_edition d = option_map_or (by_package_edition d) (package_value (codes "edition") d) (Ok V1)

abbrev pub by_package : Data → Result Resolver KeyFault
by_package d = option_map_or (named_by PackageResolver) (package_value (codes "resolver") d) (by_edition d)

-- The resolver that a root manifest chooses: by `workspace.resolver`, else by `package.resolver`, else by the edition of the root
-- package.
abbrev pub resolver_in : Data → Result Resolver KeyFault
resolver_in d = option_map_or (named_by WorkspaceResolver) (value_at (codes "workspace") (codes "resolver") d) (by_package d)

-- The bytes are a manifest that chooses this resolver, or they are at fault.
abbrev pub IsResolverOf : Text → Result Resolver ManifestFault → Type 0
IsResolverOf bytes (Ok resolver) = IsUtf8 bytes × IsSomeAnd (parse_document bytes) (λ ms. resolver_in (table ms) ≡ Ok resolver)
IsResolverOf bytes (Err fault.NotText) = IsUtf8 bytes → ⊥
IsResolverOf bytes (Err fault.NotToml) = IsUtf8 bytes × (parse_document bytes ≡ None)
IsResolverOf bytes (Err (fault.Key key)) = IsUtf8 bytes × IsSomeAnd (parse_document bytes) (λ ms. resolver_in (table ms) ≡ Err key)
IsResolverOf bytes (Err fault.Memory) = ⊤
