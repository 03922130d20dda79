-- What the manifests of a workspace say about the dependencies that its members inherit.
use Rattle.std.specs.Prelude.{ℕ, ◌+◌, List, [], ◌∷◌, Bool, false, Option, Some, None, map, nat_eq, option_and_then, codes, slice_get, if◌then◌else◌}
use Rattle.std.specs.List.{list_any}
use Rattle.std.specs.Option.{option_map_or}
use Rattle.cargo_workspaces.specs.Workspaces.{DeclarationText, PackageText, Text, WorkspaceText}
use Rattle.toml.specs.Data.{Data, get}
use Rattle.cargo_manifests.specs.inherited.Entries.{inherited_entry, is_text, value_at}

-- The name of the package of a manifest. The table `project` is the older name of `package`.
abbrev pub name_in : Data → Option Data
name_in manifest = option_map_or (get (codes "name")) (get (codes "package") manifest) (value_at (codes "project") (codes "name") manifest)

abbrev pub is_named : Text → Data → Bool
is_named name manifest = option_map_or (is_text name) (name_in manifest) false

-- The first of the manifests whose package has this name.
abbrev pub manifest_named : Text → List Data → Option Data
manifest_named name [] = None
manifest_named name (m ∷ ms) = if is_named name m then Some m else manifest_named name ms

-- The manifest of package `p`, if it is a member. Two members never have one name.
abbrev pub manifest_of : WorkspaceText → List Data → ℕ → Text → Option Data
manifest_of w ms p name = if list_any (nat_eq p) w.members then manifest_named name ms else None

-- For each of the declarations, the entry of the manifest that inherits it.
abbrev pub entry_in : Option Data → DeclarationText → Option Data
entry_in manifest d = option_and_then (inherited_entry d) manifest

abbrev pub entries_in : Option Data → List DeclarationText → List (Option Data)
entries_in manifest ds = map (entry_in manifest) ds

abbrev pub entries_of : WorkspaceText → List Data → ℕ → PackageText → List (Option Data)
entries_of w ms p x = entries_in (manifest_of w ms p x.name) x.declarations

-- For each of the packages. The number of the first one is `p`.
abbrev pub entries_from : WorkspaceText → List Data → ℕ → List PackageText → List (List (Option Data))
entries_from w ms p [] = []
entries_from w ms p (x ∷ xs) = entries_of w ms p x ∷ entries_from w ms (p + 1) xs

-- The first table `[workspace.dependencies]` of the manifests.
abbrev pub table_in : List Data → Option Data
table_in [] = None
table_in (m ∷ ms) = option_map_or (λ table. Some table) (value_at (codes "workspace") (codes "dependencies") m) (table_in ms)

-- The table `[workspace.dependencies]`, and for each package and each of its declarations the entry that inherits it.
pub record InheritanceText : Type 0 where
  pub table : Option Data
  pub entries : List (List (Option Data))

-- THE INHERITED DEPENDENCIES of the workspace, by these manifests.
abbrev pub inheritance_in : WorkspaceText → List Data → InheritanceText
inheritance_in w ms = record { table = table_in ms; entries = entries_from w ms 0 w.packages }

-- The entry by which declaration `n` of package `p` is inherited, and the entry of the workspace's table with this name.
abbrev pub own_entry : InheritanceText → ℕ → ℕ → Option Data
own_entry i p n = option_and_then (λ entries. option_map_or (λ entry. entry) (slice_get entries n) None) (slice_get i.entries p)

abbrev pub shared_entry : InheritanceText → Text → Option Data
shared_entry i name = option_and_then (get name) i.table
