-- The number of nodes of a built graph.
use Rattle.std.proofs.Common.{◌≡◌, ℕ, ◌+◌, List, [], ◌∷◌, length, map, refl, ap, sym, ◌∙◌, length-append}
use Rattle.std.specs.Prelude.{flat_map}
use Rattle.std.proofs.lemmas.List.{length-map}
use Rattle.guppy_packages.specs.Tables.{Tables}
use Rattle.feature_core.specs.Built.{Built, IsBuilt}
use Rattle.feature_core.specs.Nodes.{labels_of, spread, nodes, node_places, node_packages}

length-spread : {A B : Type 0} (f : A → List B) (q : ℕ) (xs : List A) → length (spread f q xs) ≡ length (flat_map f xs)
length-spread f q [] = refl
length-spread {A} {B} f q (x ∷ xs) =
    let row : length (map {B = ℕ × B} (λ y. (q, y)) (f x)) ≡ length (f x) = length-map (f x) (λ y. (q, y)) in
    length-append (map {B = ℕ × B} (λ y. (q, y)) (f x)) (spread f (q + 1) xs)
    ∙ ap (λ n. n + length (spread f (q + 1) xs)) row
    ∙ ap (λ n. length (f x) + n) (length-spread f (q + 1) xs)
    ∙ sym (length-append (f x) (flat_map f xs))

pub length-renamed : {A B C : Type 0} (f : A → List B) (g : A → B → C) (xs : List A) → length (flat_map (λ x. map (g x) (f x)) xs) ≡ length (flat_map f xs)
length-renamed f g [] = refl
length-renamed f g (x ∷ xs) =
    length-append (map (g x) (f x)) (flat_map (λ y. map (g y) (f y)) xs)
    ∙ ap (λ n. n + length (flat_map (λ y. map (g y) (f y)) xs)) (length-map (f x) (g x))
    ∙ ap (λ n. length (f x) + n) (length-renamed f g xs)
    ∙ sym (length-append (f x) (flat_map f xs))

-- there are as many nodes with a package as nodes with a name
pub node_count : (t : Tables) → length (node_packages t) ≡ length (nodes t)
node_count t =
    length-map (node_places t) (λ x. x.0)
    ∙ length-spread labels_of 0 t.packages
    ∙ sym (length-renamed labels_of (λ p l. (p.id, l)) t.packages)

pub built_count : (t : Tables) (b : Built) → IsBuilt t b → length b.packages ≡ length (nodes t)
built_count t b h = ap length h.packages ∙ node_count t
