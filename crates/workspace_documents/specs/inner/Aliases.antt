-- The packages that a package calls by several names.
use Rattle.std.specs.Prelude.{◌≡◌, ◌&&◌, ◌<◌, ℕ, Bool, false, not, List, None, get_or, length, map}
use Rattle.std.specs.Borrow.{Bor}
use Rattle.std.specs.BTreeMap.{BTreeMap, get_by}
use Rattle.std.specs.BTreeSet.{BTreeSet}
use Rattle.std.specs.List.{find, list_any}
use Rattle.std.specs.Option.{option_map_or}
use Rattle.std.specs.Ordering.{is_eq}
use Rattle.std.specs.Str.{bytes_eq}
use Rattle.cargo_json.specs.Faults.{Text}
use Rattle.workspace_documents.specs.Lists.{id_cmp}
use Rattle.workspace_documents.specs.Dependencies.{DependencyText, is_other_name, name_of}
use Rattle.workspace_documents.specs.declared.dependencies.Dependency.{Dependency}
use Rattle.workspace_documents.specs.Views.{dependency_view}

abbrev pub has_id : BTreeSet (Bor Text) → Text → Bool
has_id ids q = list_any (λ k. is_eq (id_cmp q k.now)) ids.keys

-- whether the names have the dependency's name for its package
abbrev pub is_called : BTreeMap (Bor Text) (Bor Text) → DependencyText → Bool
is_called names d = option_map_or (λ n. bytes_eq n.now (name_of d.declaration)) (get_by (λ k. id_cmp d.target.id k.now) names) false

-- whether the dependency leads to package `q`, and the names don't have its name
abbrev pub is_miscalled : BTreeMap (Bor Text) (Bor Text) → Text → Dependency → Bool
is_miscalled names q d = bytes_eq d.target.now.id.now q && not (is_called names (dependency_view d))

-- Each dependency that has another name has the id of its package among these.
abbrev pub HasAliased : BTreeSet (Bor Text) → List Dependency → Type 0
HasAliased ids ds = (i : ℕ) (z : Dependency) → i < length ds → has_id ids (get_or ds i z).target.now.id.now ≡ false → find (is_other_name (dependency_view (get_or ds i z))) (map dependency_view ds) ≡ None
