-- Links under a package and a name.
use Rattle.std.proofs.Common.{◌≡◌, ℕ, zero, suc, ◌+◌, ◌<◌, List, [], ◌∷◌, Bool, true, false, cond, Some, map, length, refl, ap, ◌∙◌, arith}
use Rattle.std.specs.Prelude.{slice_get, ◌&&◌, ◌==◌, filter}
use Rattle.std.specs.List.{range_with_len}
use Rattle.std.specs.Option.{option_map_or}
use Rattle.std.specs.Str.{bytes_eq}
use Rattle.guppy_packages.specs.Rows.{Text}
use Rattle.guppy_packages.specs.Tables.{LinkTable, Tables}
use Rattle.feature_links.specs.Links.{numbered}
use Rattle.feature_links.specs.NamedLinks.{is_link_under, link_numbers}

below_end : (test : ℕ × LinkTable → Bool) (q : ℕ) (ls : List LinkTable) (i k : ℕ) → slice_get (map (λ l. l.0) (filter test (numbered q ls))) i ≡ Some k → k < q + length ls
below_end test q [] i k h = cc
below_end test q (l ∷ ls) i k h = go (test (q, l)) i (λ j e. below_end test (q + 1) ls j k e) h
  where
    go : (b : Bool) (i : ℕ) → ((j : ℕ) → slice_get (map (λ l. l.0) (filter test (numbered (q + 1) ls))) j ≡ Some k → k < q + 1 + length ls)
        → slice_get (map (λ l. l.0) (cond b ((q, l) ∷ filter test (numbered (q + 1) ls)) (filter test (numbered (q + 1) ls)))) i ≡ Some k → k < q + suc (length ls)
    go true zero later h = let e : q ≡ k = cc in omega (arith, e)
    go true (suc i) later h = omega (arith, later i h)
    go false i later h = omega (arith, later i h)

-- the links under a name are links of the tables
pub numbers_below : (t : Tables) (p : ℕ) (d : Text) (i k : ℕ) → slice_get (link_numbers t p d) i ≡ Some k → k < length t.links
numbers_below t p d i k h = omega (arith, below_end (λ l. (l.1.from == p) && bytes_eq l.1.name d) 0 t.links i k h)

-- the numbers from `q` on whose links leave a package under a name
under_from : (t : Tables) (p : ℕ) (name : Text) (q : ℕ) (ls : List LinkTable) → ((j : ℕ) → slice_get t.links (q + j) ≡ slice_get ls j)
    → filter (is_link_under t p name) (range_with_len q (length ls)) ≡ map (λ l. l.0) (filter (λ l. (l.1.from == p) && bytes_eq l.1.name name) (numbered q ls))
under_from t p name q [] same = refl
under_from t p name q (l ∷ ls) same =
    ap (λ b. cond b (q ∷ later) later) here
    ∙ go ((l.from == p) && bytes_eq l.name name) (under_from t p name (q + 1) ls (λ j. ap (slice_get t.links) (omega arith) ∙ same (suc j)))
  where
    later : List ℕ
    later = filter (is_link_under t p name) (range_with_len (q + 1) (length ls))

    rest : List (ℕ × LinkTable)
    rest = filter (λ l. (l.1.from == p) && bytes_eq l.1.name name) (numbered (q + 1) ls)

    here : is_link_under t p name q ≡ ((l.from == p) && bytes_eq l.name name)
    here = ap (λ o. option_map_or (λ l. (l.from == p) && bytes_eq l.name name) o false) (ap (slice_get t.links) (omega arith) ∙ same 0)

    go : (b : Bool) → later ≡ map (λ l. l.0) rest → cond b (q ∷ later) later ≡ map (λ l. l.0) (cond b ((q, l) ∷ rest) rest)
    go true e = ap (λ z. q ∷ z) e
    go false e = e

-- the numbers of all links are those of each package and name
pub all_under : (t : Tables) (p : ℕ) (name : Text) → filter (is_link_under t p name) (range_with_len 0 (length t.links)) ≡ link_numbers t p name
all_under t p name = under_from t p name 0 t.links (λ j. ap (slice_get t.links) (omega arith))
