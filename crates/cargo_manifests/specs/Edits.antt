-- Edits of a workspace: of one declaration, or of an entry that declarations inherit.
use Rattle.std.specs.Prelude.{ℕ, ◌+◌, List, [], ◌∷◌, ◌++◌, Bool, true, false, ◌&&◌, Option, Some, None, map, flat_map, nat_eq, not, slice_get, unwrap_or, if◌then◌else◌}
use Rattle.std.specs.List.{filter, list_any}
use Rattle.std.specs.Option.{option_map_or}
use Rattle.std.specs.Str.{bytes_eq}
use Rattle.cargo_workspaces.specs.Workspaces.{Text, DeclarationText, PackageText, WorkspaceText}
use Rattle.toml.specs.Data.{Data}
use Rattle.cargo_manifests.specs.inherited.Entries.{default_features, lists}
use Rattle.cargo_manifests.specs.inherited.Inheritances.{InheritanceText, own_entry, shared_entry}

-- What an edit takes out of a declaration: its default features, or the feature of this name.
pub data WithoutText : Type 0 where
  defaults : WithoutText
  feature : Text → WithoutText

-- What an edit changes: declaration `n` of package `p`, or the entry of the table `[workspace.dependencies]` with a name.
pub data PlaceText : Type 0 where
  declaration_at : ℕ → ℕ → PlaceText
  table_entry : Text → PlaceText

pub record EditText : Type 0 where
  pub place : PlaceText
  pub without : WithoutText

-- Whether a declaration uses default features after an edit, if it did so before.
abbrev pub default_features_after : WithoutText → Bool → Bool
default_features_after defaults before = false
default_features_after (feature name) before = before

abbrev pub is_other : Text → Text → Bool
is_other name f = not (bytes_eq name f)

-- The features that a declaration lists after an edit.
abbrev pub features_after : WithoutText → List Text → List Text
features_after defaults before = before
features_after (feature name) before = filter (is_other name) before

-- The declaration with these features, and with or without default features.
abbrev pub with_features : Bool → List Text → DeclarationText → DeclarationText
with_features default_features features d = record {
  name = d.name;
  kind = d.kind;
  optional = d.optional;
  platform = d.platform;
  default_features = default_features;
  features = features;
  leads_to = d.leads_to;
}

abbrev pub edited_declaration : WithoutText → DeclarationText → DeclarationText
edited_declaration without d = with_features (default_features_after without d.default_features) (features_after without d.features) d

-- Whether the entry `own`, by which a member inherits a dependency, has the part itself. An edit of the workspace's entry leaves it there.
abbrev pub has_itself : WithoutText → Data → Bool
has_itself defaults own = unwrap_or (default_features own) false
has_itself (feature name) own = lists name own

-- Whether the workspace's entry has the part. It has the default features unless it says otherwise.
abbrev pub has_part : WithoutText → Data → Bool
has_part defaults entry = unwrap_or (default_features entry) true
has_part (feature name) entry = lists name entry

-- Whether the workspace's entry has the part, or isn't known.
abbrev pub may_have_part : WithoutText → Option Data → Bool
may_have_part without shared = option_map_or (has_part without) shared true

-- Whether an edit of the declaration alone takes the part out of it: it isn't inherited, or its entry has the part and the workspace's hasn't.
abbrev pub is_own : Option Data → Option Data → WithoutText → Bool
is_own shared None without = true
is_own shared (Some own) without = has_itself without own && not (may_have_part without shared)

-- Whether an edit of the workspace's entry takes the part out of the declaration: it is inherited, and its entry hasn't the part itself.
abbrev pub is_shared : Option Data → WithoutText → Bool
is_shared None without = false
is_shared (Some own) without = not (has_itself without own)

-- Whether the edit changes declaration `n` of package `p`.
abbrev pub is_changed_at : InheritanceText → PlaceText → WithoutText → ℕ → ℕ → Text → Bool
is_changed_at i (declaration_at q k) without p n name = nat_eq q p && nat_eq k n
is_changed_at i (table_entry entry) without p n name = bytes_eq entry name && is_shared (own_entry i p n) without

abbrev pub is_changed : InheritanceText → EditText → ℕ → ℕ → DeclarationText → Bool
is_changed i e p n d = is_changed_at i e.place e.without p n d.name

-- The items changed, each by its number; the first has number `k`.
abbrev pub numbered : {X : Type 0} → (ℕ → X → X) → ℕ → List X → List X
numbered change k [] = []
numbered change k (x ∷ xs) = change k x ∷ numbered change (k + 1) xs

-- The package with these declarations.
abbrev pub with_declarations : List DeclarationText → PackageText → PackageText
with_declarations declarations p = record {
  id = p.id;
  name = p.name;
  version = p.version;
  source = p.source;
  features = p.features;
  declarations = declarations;
  targets = p.targets;
}

-- Declaration `n` of package `p` after an edit.
abbrev pub declaration_after : InheritanceText → EditText → ℕ → ℕ → DeclarationText → DeclarationText
declaration_after i e p n d = if is_changed i e p n d then edited_declaration e.without d else d

abbrev pub edited_declarations : InheritanceText → EditText → ℕ → List DeclarationText → List DeclarationText
edited_declarations i e p ds = numbered (declaration_after i e p) 0 ds

-- Package `p` after an edit.
abbrev pub edited_package : InheritanceText → EditText → ℕ → PackageText → PackageText
edited_package i e p x = with_declarations (edited_declarations i e p x.declarations) x

abbrev pub edited_packages : InheritanceText → EditText → List PackageText → List PackageText
edited_packages i e packages = numbered (edited_package i e) 0 packages

-- THE EDITED WORKSPACE: that of the document in which only the declarations are changed that the edit changes.
abbrev pub edited_text : WorkspaceText → InheritanceText → EditText → WorkspaceText
edited_text w i e = record {
  packages = edited_packages i e w.packages;
  members = w.members;
  default_members = w.default_members;
  root = w.root;
}

-- The list with the text at its end, unless the list has it.
abbrev pub with_text : List Text → Text → List Text
with_text listed t = if list_any (bytes_eq t) listed then listed else listed ++ t ∷ []

-- The list with each of the texts at its end that it hasn't.
abbrev pub with_texts : List Text → List Text → List Text
with_texts listed [] = listed
with_texts listed (t ∷ ts) = with_texts (with_text listed t) ts

-- The texts, each once.
abbrev pub once : List Text → List Text
once ts = with_texts [] ts

-- What edits take out of a declaration: its default features, if it uses them, and then each feature that it lists.
abbrev pub parts_of : DeclarationText → List WithoutText
parts_of d = (if d.default_features then defaults ∷ [] else []) ++ map feature (once d.features)

-- What to edit to take a part out of declaration `n` of package `p`: the declaration itself, or the workspace's entry. Neither is enough if
-- both have the part.
abbrev pub place_of : InheritanceText → ℕ → ℕ → Text → WithoutText → Option PlaceText
place_of i p n name without =
    if is_own (shared_entry i name) (own_entry i p n) without then Some (declaration_at p n)
    else (if is_shared (own_entry i p n) without then Some (table_entry name) else None)

abbrev pub edit_if : Option PlaceText → WithoutText → List EditText
edit_if None without = []
edit_if (Some place) without = record { place = place; without = without } ∷ []

abbrev pub edit_of : InheritanceText → ℕ → ℕ → Text → WithoutText → List EditText
edit_of i p n name without = edit_if (place_of i p n name without) without

-- The edits of declarations of package `p`. The number of the first declaration is `n`.
abbrev pub edits_from : InheritanceText → ℕ → ℕ → List DeclarationText → List EditText
edits_from i p n [] = []
edits_from i p n (d ∷ ds) = flat_map (edit_of i p n d.name) (parts_of d) ++ edits_from i p (n + 1) ds

abbrev pub edits_of_package : InheritanceText → ℕ → PackageText → List EditText
edits_of_package i p x = edits_from i p 0 x.declarations

abbrev pub edits_at : InheritanceText → List PackageText → ℕ → List EditText
edits_at i packages p = option_map_or (edits_of_package i p) (slice_get packages p) []

abbrev pub is_same_part : WithoutText → WithoutText → Bool
is_same_part defaults defaults = true
is_same_part (feature a) (feature b) = bytes_eq a b
is_same_part _ _ = false

abbrev pub is_same_place : PlaceText → PlaceText → Bool
is_same_place (declaration_at p n) (declaration_at q k) = nat_eq p q && nat_eq n k
is_same_place (table_entry a) (table_entry b) = bytes_eq a b
is_same_place _ _ = false

abbrev pub is_same_edit : EditText → EditText → Bool
is_same_edit a b = is_same_place a.place b.place && is_same_part a.without b.without

-- The list with each of the edits at its end that it hasn't.
abbrev pub with_edit : List EditText → EditText → List EditText
with_edit listed e = if list_any (is_same_edit e) listed then listed else listed ++ e ∷ []

abbrev pub with_edits : List EditText → List EditText → List EditText
with_edits listed [] = listed
with_edits listed (e ∷ es) = with_edits (with_edit listed e) es

-- THE EDITS of the declarations of these packages: package by package, in the order of the declarations. One of the workspace's entry is at
-- the first declaration that it changes.
abbrev pub edits_of : WorkspaceText → InheritanceText → List ℕ → List EditText
edits_of w i numbers = with_edits [] (flat_map (edits_at i w.packages) numbers)
