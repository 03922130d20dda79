-- The package that each declaration leads to.
use Rattle.std.specs.Prelude.{ℕ, ◌&&◌, ◌==◌, List, [], ◌∷◌, map, Bool, true, false, not, Option, Some, None, Result, Ok, Err, filter, if◌then◌else◌, ⊤}
use Rattle.std.specs.List.{find}
use Rattle.std.specs.Str.{bytes_eq}
use Rattle.std.specs.Cmp.Lexicographic.{pointwise}
use Rattle.cargo_json.specs.Faults.{Text, Refusal, ambiguous, two_names, ◌>>=◌}
use Rattle.workspace_documents.specs.Packages.{DeclarationText, PackageText}
use Rattle.workspace_documents.specs.Nodes.{DepText}
use Rattle.workspace_documents.specs.Requirements.{admits}

-- the name by which the declaring package calls the dependency: its new name, or the package's own if it has none
abbrev pub name_of : DeclarationText → Text
name_of d = elim d.rename as (λ _. Text) [ Some name ↦ name | None ↦ d.name ]

-- `_` for `-`, as in code; any other byte unchanged
abbrev pub in_code : ℕ → ℕ
in_code byte = if byte == 45 then 95 else byte

-- whether `name` is `plain` with `_` for each `-`
unfoldable pub is_in_code : Text → Text → Bool
is_in_code name plain = pointwise (λ a b. a == in_code b) name plain

-- the name of a package in code: the declaration's new name if it has one, else its library's, else its own
abbrev pub called : Option Text → PackageText → Text
called (Some rename) p = rename
called None p = elim p.library as (λ _. Text) [ Some library ↦ library | None ↦ p.name ]

-- The new name that a used package has in the code of package `id`, if it has one. Cargo ignores the rename of a package that
-- depends on itself.
abbrev pub rename_of : Text → DeclarationText → DepText → Option Text
rename_of id d dep = if bytes_eq dep.target.id id then None else d.rename

-- whether the used package has the name and the name in code that package `id` declares
abbrev pub fits : Text → DeclarationText → DepText → Bool
fits id d dep = bytes_eq dep.target.name d.name && is_in_code dep.extern_name (called (rename_of id d dep) dep.target)

-- whether the package is used for the kind and the platform of the declaration
abbrev pub is_used : DeclarationText → DepText → Bool
is_used d dep = dep.uses (record { kind = d.kind; platform = d.platform })

-- whether the declaration's requirement admits the package's version
abbrev pub is_admitted : DeclarationText → DepText → Bool
is_admitted d dep = admits d.requirement dep.target.version

-- Whether the used package has the declared name in code, even if it is the package itself.
abbrev pub is_as_named : DeclarationText → DepText → Bool
is_as_named d dep = is_in_code dep.extern_name (called d.rename dep.target)

-- none, one or several packages
pub data FoundPackage : Type 0 where
  nothing : FoundPackage
  one : PackageText → FoundPackage
  several : FoundPackage

abbrev pub found_of : List PackageText → FoundPackage
found_of [] = nothing
found_of (p ∷ []) = one p
found_of (p ∷ q ∷ ps) = several

-- the used packages that fit the declaration and pass the test: none, one or several
unfoldable pub pick : (DeclarationText → DepText → Bool) → Text → DeclarationText → List DepText → FoundPackage
pick test id d deps = found_of (map (λ dep. dep.target) (filter (λ dep. fits id d dep && test d dep) deps))

abbrev pub if_nothing : FoundPackage → FoundPackage → FoundPackage
if_nothing nothing other = other
if_nothing (one p) other = one p
if_nothing several other = several

-- The package, if the first search found one; else what the other found.
abbrev pub one_or : FoundPackage → FoundPackage → FoundPackage
one_or (one p) other = one p
one_or nothing other = other
one_or several other = other

abbrev pub choice_of : Bool → FoundPackage → FoundPackage → FoundPackage → FoundPackage → FoundPackage
choice_of optional (one p) by_version by_both by_name = one p
choice_of true nothing by_version by_both by_name = by_version
choice_of false nothing by_version by_both by_name = nothing
choice_of optional several by_version by_both by_name = one_or by_name (if_nothing by_both several)

-- The package that is used for a declaration of package `id`. Among several, the declared name in code decides, and then the requirement. If
-- none is used, the requirement decides for an optional dependency, and any other has no package.
abbrev pub choice : Text → DeclarationText → List DepText → FoundPackage
choice id d deps = choice_of d.is_optional (pick is_used id d deps) (pick is_admitted id d deps) (pick (λ e dep. is_used e dep && is_admitted e dep) id d deps) (pick (λ e dep. is_used e dep && is_as_named e dep) id d deps)

-- the package, if there is one; several are the fault that the declaration is ambiguous
abbrev pub led_to : Text → Text → FoundPackage → Result (Option PackageText) Refusal
led_to id name nothing = Ok None
led_to id name (one p) = Ok (Some p)
led_to id name several = Err (ambiguous id name)

unfoldable pub target_of : Text → DeclarationText → List DepText → Result (Option PackageText) Refusal
target_of id d deps = led_to id d.name (choice id d deps)

-- a declaration and the package that it leads to
pub record DependencyText : Type 0 where
  pub declaration : DeclarationText
  pub target : PackageText

abbrev pub with_target : DeclarationText → Option PackageText → List DependencyText → List DependencyText
with_target d None rest = rest
with_target d (Some p) rest = record { declaration = d; target = p } ∷ rest

-- the declarations that lead to a package, in their order, or the first fault
abbrev pub led : Text → List DepText → List DeclarationText → Result (List DependencyText) Refusal
led id deps [] = Ok []
led id deps (d ∷ ds) = target_of id d deps >>= λ target. led id deps ds >>= λ rest. Ok (with_target d target rest)

unfoldable pub dependencies_of : PackageText → List DepText → Result (List DependencyText) Refusal
dependencies_of p deps = led p.id deps p.declarations

-- whether `b` leads to the same package as `a` by another name
abbrev pub is_other_name : DependencyText → DependencyText → Bool
is_other_name a b = bytes_eq b.target.id a.target.id && not (bytes_eq (name_of b.declaration) (name_of a.declaration))

abbrev pub agrees : Text → DependencyText → Option DependencyText → Result ⊤ Refusal
agrees id a None = Ok tt
agrees id a (Some b) = Err (two_names id a.target.id (name_of a.declaration) (name_of b.declaration))

-- none of these has another name among `all`, or the first fault
abbrev pub agree : Text → List DependencyText → List DependencyText → Result ⊤ Refusal
agree id all [] = Ok tt
agree id all (a ∷ rest) = agrees id a (find (is_other_name a) all) >>= λ _. agree id all rest
