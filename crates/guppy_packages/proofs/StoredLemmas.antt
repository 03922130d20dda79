-- The tables that are stored.
use Rattle.std.proofs.Common.{ℕ, zero, suc, [], ◌∷◌, Some, ap, get_or, refl}
use Rattle.std.proofs.lemmas.List.Quantifiers.{position-Some}
use Rattle.std.specs.Prelude.{slice_get}
use Rattle.std.specs.Cmp.Lexicographic.{bytes_decides}
use Rattle.guppy_packages.specs.Tables.{PackageTable}
use Rattle.std.proofs.Common.{◌≡◌, List, map, sym, ◌∙◌}
use Rattle.std.specs.Prelude.{position}
use Rattle.std.specs.Str.{bytes_eq}
use Rattle.guppy_packages.specs.Rows.{Text}
use Rattle.guppy_packages.specs.Tables.{package_place}
use Rattle.guppy_packages.specs.Stored.{package_table}
use Rattle.guppy_packages.specs.declared.contents.PackageData.{PackageData}
use Rattle.guppy_packages.proofs.Lists.{position-map}

-- the place of an id in the list is its place in the tables
pub place_of_key : (id : Text) (es : List (Text × PackageData)) → package_place id (map package_table es) ≡ position (λ e. bytes_eq id e.0) es
place_of_key id es = position-map package_table (λ p. bytes_eq id p.id) es

get_or-slice_get : {X : Type 0} (xs : List X) (i : ℕ) (x : X) → slice_get xs i ≡ Some x → get_or xs i x ≡ x
get_or-slice_get [] i x h = refl
get_or-slice_get (y ∷ ys) zero x h = cc
get_or-slice_get (y ∷ ys) (suc i) x h = get_or-slice_get ys i x h

-- the package at the index of an id has that id
pub id_at_place : (id : Text) (packages : List PackageTable) (i : ℕ) (p : PackageTable) → package_place id packages ≡ Some i → slice_get packages i ≡ Some p → p.id ≡ id
id_at_place id packages i p place at =
    let found = position-Some (λ p. bytes_eq id p.id) packages i p place in
    let same : get_or packages i p ≡ p = get_or-slice_get packages i p at in
    sym ((bytes_decides id p.id).0 (ap (λ q. bytes_eq id q.id) (sym same) ∙ found.1))
