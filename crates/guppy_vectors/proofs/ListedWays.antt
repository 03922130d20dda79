-- Lemmas about a list of ways as an edge source.
use Rattle.std.proofs.Common.{◌≡◌, ℕ, zero, suc, ◌<◌, Bool, List, [], ◌∷◌, Option, Some, length, drop, get_or, map, refl, sym, ◌∙◌, ap, subst}
use Rattle.std.specs.Prelude.{IsTrue, slice_get}
use Rattle.std.proofs.Math.Seq.{drop-cons}
use Rattle.std.proofs.lemmas.List.Elements.{All-head, All-tail}
use Rattle.std.proofs.lemmas.Option.{slice_get-map, slice_get-get_or}
use Rattle.std.specs.Option.{option_map}
use Rattle.walk_engine.specs.declared.walks.Taken.{Taken}
use Rattle.walk_engine.specs.Walks.{Way, EndsAreNodes, numbers_where, told, taken_of}
use Rattle.guppy_vectors.specs.ListedWays.{ListedWay, way_of, AreWithin}

-- The start, far end and gate of a way are below `nodes`.
abbrev IsWithin : ℕ → ListedWay → Type 0
IsWithin nodes w = (w.0 < nodes) × (w.1 < nodes) × (w.3 < nodes)

ends_at : (nodes : ℕ) (ways : List ListedWay) → AreWithin nodes ways → (e : ℕ) (w : Way) → slice_get (map way_of ways) e ≡ Some w → (w.start < nodes) × (w.far < nodes) × (w.gate < nodes)
ends_at nodes [] h e w q = absurd (cc)
ends_at nodes (v ∷ vs) h zero w q =
    let same : way_of v ≡ w = cc in
    subst (λ (x : Way). (x.start < nodes) × (x.far < nodes) × (x.gate < nodes)) same (All-head (IsWithin nodes) v vs h)
ends_at nodes (v ∷ vs) h (suc e) w q = ends_at nodes vs (All-tail (IsWithin nodes) v vs h) e w q

-- The ends of the ways are nodes if the tuples are within `nodes`.
pub listed_content : (nodes : ℕ) (ways : List ListedWay) → AreWithin nodes ways → EndsAreNodes (record { nodes = nodes; ways = map way_of ways })
listed_content nodes ways h e w is = let r = ends_at nodes ways h e w is in (r.0, r.1, λ _. r.2)

-- If the scan is at a way that passes, with none left to skip, the source returns edge `i`.
pub found_at : (p : Way → Bool) (nodes : ℕ) (ways : List ListedWay) (i place : ℕ) (d : ListedWay) → i < length ways → IsTrue (p (way_of (get_or ways i d))) → slice_get (numbers_where p i (map way_of (drop i ways))) 0 ≡ slice_get (numbers_where p 0 (map way_of ways)) place → ◌≡◌ {A = Option Taken} (Some (record { edge = i; far = (get_or ways i d).1; ask = (get_or ways i d).2 })) (told (record { nodes = nodes; ways = map way_of ways }) (slice_get (numbers_where p 0 (map way_of ways)) place))
found_at p nodes ways i place d h t q =
    let rest : map way_of (drop i ways) ≡ way_of (get_or ways i d) ∷ map way_of (drop (suc i) ways) = ap (map way_of) (drop-cons ways i d h) in
    let first : slice_get (numbers_where p i (map way_of (drop i ways))) 0 ≡ Some i = ap (λ (ws : List Way). slice_get (numbers_where p i ws) 0) rest ∙ rw t refl in
    let is : slice_get (map way_of ways) i ≡ Some (way_of (get_or ways i d)) = slice_get-map way_of ways i ∙ ap (option_map way_of) (slice_get-get_or ways i d h) in
    sym (ap (told (record { nodes = nodes; ways = map way_of ways })) (sym q ∙ first) ∙ ap (taken_of i) is)
