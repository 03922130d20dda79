-- Tables with the index of each number.
use Rattle.std.proofs.Common.{◌≡◌, ◌∙◌, ℕ, suc, ◌+◌, ◌<◌, List, [], ◌∷◌, ◌++◌, take, Option, Some, None, refl, ap, ap₂, sym, arith, if◌then◌else◌}
use Rattle.std.specs.Prelude.{◌==◌, flat_map, option_and_then, option_map, slice_get}
use Rattle.std.specs.Option.{option_or}
use Rattle.plan_whys.specs.links.Links.{index_of}
use Rattle.plan_whys.specs.links.inner.Pairs.{AreBelow}
use Rattle.plan_whys.specs.links.inner.Places.{ArePlaces, both, noted, place_in}
use Rattle.plan_whys.proofs.Indexes.{length_taken, position_pushed, take_next}

-- one more number
pub next_noted : (size : ℕ) (numbers : List ℕ) (i n : ℕ) (old new : List (Option ℕ)) → slice_get numbers i ≡ Some n → ArePlaces size (take i numbers) old
    → ((k : ℕ) → slice_get new k ≡ option_map (noted (n == k) i) (slice_get old k)) → ArePlaces size (take (i + 1) numbers) new
next_noted size numbers i n old new at are step k below = step k ∙ ap (option_map (noted (n == k) i)) (are k below) ∙ ap Some (sym taken)
  where
    taken : index_of (take (i + 1) numbers) k ≡ noted (n == k) i (index_of (take i numbers) k)
    taken =
        ap (λ l. index_of l k) (take_next numbers i n at)
        ∙ position_pushed (λ m. m == k) (take i numbers) n
        ∙ ap (λ (z : ℕ). option_or (index_of (take i numbers) k) (if n == k then Some z else None)) (length_taken numbers i n at)

-- the links by the table are those by the indexes
place_is : (size : ℕ) (numbers : List ℕ) (places : List (Option ℕ)) (k : ℕ) → ArePlaces size numbers places → k < size → place_in places k ≡ index_of numbers k
place_is size numbers places k are below = ap (option_and_then (λ p. p)) (are k below)

same_links : (size : ℕ) (numbers : List ℕ) (places : List (Option ℕ)) (pairs : List (ℕ × ℕ)) → ArePlaces size numbers places → AreBelow size pairs
    → flat_map (λ p. both (place_in places p.0) (place_in places p.1)) pairs ≡ flat_map (λ p. both (index_of numbers p.0) (index_of numbers p.1)) pairs
same_links size numbers places [] are below = refl
same_links size numbers places (p ∷ pairs) are below =
    let here = below 0 p (omega arith) in
    ap₂ (λ x y. x ++ y)
    (ap₂ both (place_is size numbers places p.0 are here.0) (place_is size numbers places p.1 are here.1))
    (same_links size numbers places pairs are (λ k d within. below (suc k) d (omega (arith, within))))

pub links_made : (size : ℕ) (numbers : List ℕ) (places taken : List (Option ℕ)) (pairs made : List (ℕ × ℕ)) → ArePlaces size numbers places → taken ≡ places → AreBelow size pairs
    → made ≡ flat_map (λ p. both (place_in taken p.0) (place_in taken p.1)) pairs → made ≡ flat_map (λ p. both (index_of numbers p.0) (index_of numbers p.1)) pairs
links_made size numbers places taken pairs made are same below is =
    is ∙ ap (λ (l : List (Option ℕ)). flat_map (λ p. both (place_in l p.0) (place_in l p.1)) pairs) same ∙ same_links size numbers places pairs are below
