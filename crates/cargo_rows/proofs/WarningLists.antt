-- The warnings for packages, step by step.
use Rattle.std.proofs.Common.{◌≡◌, ◌∙◌, sym, ap, refl, ℕ, ◌+◌, ◌<◌, List, [], ◌∷◌, ◌++◌, map, length, drop, get_or, true, false, append_assoc, add-one, drop-cons, Bor}
use Rattle.std.specs.Prelude.{filter, is_some}
use Rattle.std.specs.List.{list_any}
use Rattle.std.specs.Str.{bytes_eq}
use Rattle.cargo_json.specs.Faults.{Text}
use Rattle.workspace_documents.specs.declared.packages.Declaration.{Declaration}
use Rattle.workspace_documents.specs.declared.packages.Package.{Package}
use Rattle.workspace_documents.specs.Lists.{ById}
use Rattle.workspace_documents.specs.Packages.{DeclarationText, PackageText}
use Rattle.workspace_documents.specs.Nodes.{NodeText}
use Rattle.workspace_documents.specs.Nodes.{node_of}
use Rattle.cargo_rows.specs.Warnings.{WarningText, warning_of, is_lost, package_warnings, libraries_of, all_warnings}
use Rattle.workspace_documents.specs.Views.{declaration_view, package_view, entries_view}

abbrev pub warnings_from : List Text → PackageText → NodeText → List DeclarationText → List WarningText
warnings_from libraries p node ds = map (warning_of p.id) (filter (is_lost libraries p node) ds)

-- one more declaration: a warning is appended if it should lead to a package but doesn't
module _ (libraries : List Text) (p : PackageText) (node : NodeText) (ds : List Declaration) (i : ℕ) (d : Declaration) (so_far whole : List WarningText) (within : i < length ds) (is : d ≡ get_or ds i d) (so : whole ≡ so_far ++ warnings_from libraries p node (map declaration_view (drop i ds))) where
  here : map declaration_view (drop i ds) ≡ declaration_view d ∷ map declaration_view (drop (i + 1) ds)
  here =
      let at : drop i ds ≡ get_or ds i d ∷ drop (i + 1) ds = rw (add-one, drop-cons ds i d within) refl in
      rw at (ap (λ x. declaration_view x ∷ map declaration_view (drop (i + 1) ds)) (sym is))

  pub not_lost : false ≡ is_lost libraries p node (declaration_view d) → whole ≡ so_far ++ warnings_from libraries p node (map declaration_view (drop (i + 1) ds))
  not_lost e = so ∙ rw (here, sym e) refl

  pub one_lost : true ≡ is_lost libraries p node (declaration_view d) → whole ≡ (so_far ++ warning_of p.id (declaration_view d) ∷ []) ++ warnings_from libraries p node (map declaration_view (drop (i + 1) ds))
  one_lost e = so ∙ rw (here, sym e) (sym (append_assoc so_far (warning_of p.id (declaration_view d) ∷ []) (warnings_from libraries p node (map declaration_view (drop (i + 1) ds)))))

abbrev pub packages_of : ById PackageText → List PackageText
packages_of es = map (λ e. e.1) es

-- one more package: its name is appended if it has a library
module _ (left rest : List (Bor Text × Package)) (id : Bor Text) (p : Package) (so_far whole : List Text) (is : left ≡ (id, p) ∷ rest) (so : whole ≡ so_far ++ libraries_of (packages_of (entries_view package_view left))) where
  pub no_library : is_some (package_view p).library ≡ false → whole ≡ so_far ++ libraries_of (packages_of (entries_view package_view rest))
  no_library e = so ∙ rw (is, e) refl

  pub one_library : is_some (package_view p).library ≡ true → whole ≡ (so_far ++ p.name.now ∷ []) ++ libraries_of (packages_of (entries_view package_view rest))
  one_library e = so ∙ rw (is, e) (sym (append_assoc so_far (p.name.now ∷ []) (libraries_of (packages_of (entries_view package_view rest)))))

-- one more package: its warnings are appended if it is a workspace member
module _ (libraries members : List Text) (nodes : ById NodeText) (left rest : List (Bor Text × Package)) (id : Bor Text) (p : Package) (so_far whole : List WarningText) (is : left ≡ (id, p) ∷ rest) (so : whole ≡ so_far ++ all_warnings libraries members nodes (entries_view package_view left)) where
  pub no_member : list_any (bytes_eq id.now) members ≡ false → whole ≡ so_far ++ all_warnings libraries members nodes (entries_view package_view rest)
  no_member e = so ∙ rw (is, e) refl

  pub one_member : (node : NodeText) → node ≡ node_of id.now nodes → list_any (bytes_eq id.now) members ≡ true → whole ≡ (so_far ++ package_warnings libraries (package_view p) node) ++ all_warnings libraries members nodes (entries_view package_view rest)
  one_member node found e = so ∙ rw (is, e, sym found) (sym (append_assoc so_far (package_warnings libraries (package_view p) node) (all_warnings libraries members nodes (entries_view package_view rest))))
