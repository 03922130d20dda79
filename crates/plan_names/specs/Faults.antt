-- Words that name nothing, or several things where one is wanted.
use Rattle.std.specs.Prelude.{◌≡◌, ℕ, List, [], ◌∷◌, map, if◌then◌else◌, Result, Ok, Err}
use Rattle.cargo_workspaces.specs.Workspaces.{Text, PackageText}
use Rattle.plan_names.specs.Names.{NamedText, candidates, has_star, whole_packages}
use Rattle.plan_names.specs.Views.{named_text}
use Rattle.plan_names.specs.declared.fault.NameFault.{NameFault}
use Rattle.plan_names.specs.declared.fault.NameFault.TheVariants as fault

pub data NameRefusal : Type 0 where
  unknown : Text → NameRefusal
  several : Text → List NamedText → NameRefusal
  out_of_memory : NameRefusal

abbrev pub refusal_of : NameFault → NameRefusal
refusal_of (fault.Unknown word) = unknown word.now
refusal_of (fault.Several word candidates) = several word.now (map named_text candidates.items)
refusal_of fault.Memory = out_of_memory

-- Nothing is claimed if an allocation fails.
abbrev pub IfNotMemory : NameRefusal → Type 0 → Type 0
IfNotMemory out_of_memory claim = Unit {0}
IfNotMemory _ claim = claim

-- A call returned the expected result, with its value seen through `view`.
abbrev pub Gives : {X Y : Type 0} → (X → Y) → Result X NameFault → Result Y NameRefusal → Type 0
Gives view (Ok x) given = given ≡ Ok (view x)
Gives view (Err e) given = IfNotMemory (refusal_of e) (given ≡ Err (refusal_of e))

-- What a word names, of its candidates: all if it has a star, else the only one.
abbrev pub named_of : Text → List NamedText → Result (List NamedText) NameRefusal
named_of word [] = Err (unknown word)
named_of word (x ∷ []) = Ok (x ∷ [])
named_of word (x ∷ y ∷ more) = if has_star word then Ok (x ∷ y ∷ more) else Err (several word (x ∷ y ∷ more))

abbrev pub parts_named : List PackageText → List ℕ → Text → Result (List NamedText) NameRefusal
parts_named packages selected word = named_of word (candidates packages selected word)

-- The only package that a word of `-p` names.
abbrev pub the_package : Text → List NamedText → Result ℕ NameRefusal
the_package word [] = Err (unknown word)
the_package word (x ∷ []) = Ok x.owner
the_package word (x ∷ y ∷ more) = Err (several word (x ∷ y ∷ more))

abbrev pub package_named : List PackageText → Text → Result ℕ NameRefusal
package_named packages word = the_package word (whole_packages packages word)

-- The candidates that a refusal lists.
abbrev pub candidates_of : NameRefusal → List NamedText
candidates_of (unknown word) = []
candidates_of (several word candidates) = candidates
candidates_of out_of_memory = []
