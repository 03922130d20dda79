-- The entries for dependencies in the tables of a manifest, and what an entry says.
use Rattle.std.specs.Prelude.{ℕ, Bool, false, ◌||◌, not, Option, Some, None, nat_eq, option_and_then, codes, if◌then◌else◌}
use Rattle.std.specs.List.{filter}
use Rattle.std.specs.Option.{option_map_or}
use Rattle.std.specs.Str.{bytes_eq}
use Rattle.cargo_workspaces.specs.Workspaces.{DeclarationText, Text}
use Rattle.cargo_workspaces.specs.declared.package.Kind.{Kind}
use Rattle.cargo_workspaces.specs.declared.package.Kind.TheVariants as kind
use Rattle.toml.specs.Data.{Data, Items, no_items, item, Members, no_members, member, as_array, as_bool, as_str, as_table, get}

-- The value at a key of a section.
abbrev pub value_at : Text → Text → Data → Option Data
value_at section key d = option_and_then (get key) (get section d)

-- The value of a key, or of the key's older name.
abbrev pub value_of : Text → Text → Data → Option Data
value_of key older d = option_map_or (λ v. Some v) (get key d) (get older d)

-- The table of the dependencies of a kind, in a manifest or in a section for a platform.
abbrev pub dependencies_of : Kind → Data → Option Data
dependencies_of kind.Normal section = get (codes "dependencies") section
dependencies_of kind.Build section = value_of (codes "build-dependencies") (codes "build_dependencies") section
dependencies_of kind.Development section = value_of (codes "dev-dependencies") (codes "dev_dependencies") section

-- Whether a byte of a platform spec counts: neither a space nor a comma does, because Cargo prints a spec with its own.
abbrev pub is_mark : ℕ → Bool
is_mark b = not (nat_eq b 32 || nat_eq b 44)

abbrev pub marks : Text → Text
marks text = filter is_mark text

-- Whether the key of a section is the platform spec.
abbrev pub is_same_platform : Text → Text → Bool
is_same_platform spec key = bytes_eq (marks key) (marks spec)

-- The section of the platform spec, among those of the table `target`.
abbrev pub section_for : Text → Members → Option Data
section_for spec no_members = None
section_for spec (member key d more) = if is_same_platform spec key then Some d else section_for spec more

abbrev pub section_of_platform : Text → Data → Option Data
section_of_platform spec manifest = option_and_then (section_for spec) (option_and_then as_table (get (codes "target") manifest))

-- The section of a declaration: the manifest itself, or the section of its platform spec.
abbrev pub section_of : Option Text → Data → Option Data
section_of None manifest = Some manifest
section_of (Some spec) manifest = section_of_platform spec manifest

-- Whether an entry inherits the dependency: it has `workspace = true`.
abbrev pub is_inherited : Data → Bool
is_inherited entry = option_map_or (λ b. b) (option_and_then as_bool (get (codes "workspace") entry)) false

-- The entry of a dependency in a section, if it is inherited.
abbrev pub inherited_in : Kind → Text → Data → Option Data
inherited_in kind name section = option_and_then (λ entry. if is_inherited entry then Some entry else None) (option_and_then (get name) (dependencies_of kind section))

-- The entry of a declaration in the manifest of its package, if it is inherited.
abbrev pub inherited_entry : DeclarationText → Data → Option Data
inherited_entry d manifest = option_and_then (inherited_in d.kind d.name) (section_of d.platform manifest)

-- The value of `default-features` in an entry.
abbrev pub default_features : Data → Option Bool
default_features entry = option_and_then as_bool (value_of (codes "default-features") (codes "default_features") entry)

-- Whether a value is this text.
abbrev pub is_text : Text → Data → Bool
is_text text d = option_map_or (bytes_eq text) (as_str d) false

abbrev pub has_text : Text → Items → Bool
has_text text no_items = false
has_text text (item d ds) = is_text text d || has_text text ds

-- Whether an entry lists this feature.
abbrev pub lists : Text → Data → Bool
lists feature entry = option_map_or (has_text feature) (option_and_then as_array (get (codes "features") entry)) false
