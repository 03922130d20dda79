-- The order of parts.
use Rattle.std.specs.Prelude.{List, [], ◌∷◌, ◌≡◌, false, ⊤}
use Rattle.std.specs.List.{AllByRecursion}
use Rattle.std.specs.Cmp.{IsTotalOrder, on_total, then_total, nat_cmp_total, bool_cmp_total}
use Rattle.std.specs.Cmp.Lexicographic.{nat_list_cmp_total}
use Rattle.std.specs.Ordering.{bool_cmp, is_lt, nat_cmp, on, then_cmp}
use Rattle.std.specs.declared.cmp.Ordering.{Ordering}
use Rattle.cargo_workspaces.specs.Workspaces.{text_cmp}
use Rattle.feats_diff.specs.changes.Parts.{PartText, source_of}

abbrev pub PartOrder : Type 0
PartOrder = PartText → PartText → Ordering

-- By place, and then by name.
abbrev pub name_cmp : PartOrder
name_cmp = then_cmp (on (λ p. p.place) text_cmp) (on (λ p. p.described.name) text_cmp)

-- By the numbers of the versions, pre-releases before releases, and then by the bytes of the versions.
abbrev pub version_cmp : PartOrder
version_cmp =
    then_cmp (on (λ p. p.rank.major) nat_cmp) (then_cmp (on (λ p. p.rank.minor) nat_cmp) (then_cmp (on (λ p. p.rank.patch) nat_cmp)
    (then_cmp (on (λ p. p.rank.is_release) bool_cmp) (on (λ p. p.described.version) text_cmp))))

-- By place, name, version and source. Parts that are equal in these are of one package.
abbrev pub part_cmp : PartOrder
part_cmp = then_cmp name_cmp (then_cmp version_cmp (on source_of text_cmp))

pub name_total : IsTotalOrder name_cmp
name_total = then_total (on_total (λ p. p.place) nat_list_cmp_total) (on_total (λ p. p.described.name) nat_list_cmp_total)

pub version_total : IsTotalOrder version_cmp
version_total =
    then_total (on_total (λ p. p.rank.major) nat_cmp_total) (then_total (on_total (λ p. p.rank.minor) nat_cmp_total) (then_total (on_total (λ p. p.rank.patch) nat_cmp_total)
    (then_total (on_total (λ p. p.rank.is_release) bool_cmp_total) (on_total (λ p. p.described.version) nat_list_cmp_total))))

pub part_total : IsTotalOrder part_cmp
part_total = then_total name_total (then_total version_total (on_total source_of nat_list_cmp_total))

-- Each part is followed by none that is less.
abbrev pub Ascends : PartOrder → List PartText → Type 0
Ascends cmp [] = ⊤
Ascends cmp (x ∷ xs) = AllByRecursion (λ y. is_lt (cmp y x) ≡ false) xs × Ascends cmp xs
