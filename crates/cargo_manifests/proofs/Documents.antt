-- Documents of pieces, one after the other.
use Rattle.std.proofs.Common.{◌≡◌, ◌∙◌, ℕ, ◌<◌, ◌+◌, List, [], ◌∷◌, ◌++◌, Bor, sym, subst, ap, map, take, length, get_or}
use Rattle.std.proofs.lemmas.List.{map-append, take_more}
use Rattle.std.specs.List.{AllZip}
use Rattle.toml.specs.Data.{Data}
use Rattle.toml.specs.View.{view}
use Rattle.toml.specs.declared.value.Value.{Value}
use Rattle.cargo_manifests.specs.inherited.Manifests.{IsDocument}

abbrev bytes_of : List (Bor (List ℕ)) → List (List ℕ)
bytes_of = map (λ p. p.now)

are_push : (ts : List (List ℕ)) (ds : List Data) (t : List ℕ) (d : Data) → AllZip IsDocument ts ds → IsDocument t d → AllZip IsDocument (ts ++ t ∷ []) (ds ++ d ∷ [])
are_push [] [] t d all is = (is, tt)
are_push (u ∷ ts) (e ∷ ds) t d (first, rest) is = (first, are_push ts ds t d rest is)
are_push [] (e ∷ ds) t d all is = absurd all
are_push (u ∷ ts) [] t d all is = absurd all

-- one more piece
pub documents_more : (pieces : List (Bor (List ℕ))) (i : ℕ) (q : Bor (List ℕ)) (ds new : List Value) (d : Value) → i < length pieces
    → AllZip IsDocument (map (λ p. p.now) (take i pieces)) (map view ds) → IsDocument (get_or pieces i q).now (view d) → new ≡ ds ++ d ∷ []
    → AllZip IsDocument (map (λ p. p.now) (take (i + 1) pieces)) (map view new)
documents_more pieces i q ds new d within all one grown =
    let p = get_or pieces i q in
    let there : map view ds ++ view d ∷ [] ≡ map view new = sym (ap (map view) grown ∙ map-append view ds (d ∷ [])) in
    let here : bytes_of (take i pieces) ++ p.now ∷ [] ≡ bytes_of (take (i + 1) pieces) =
    sym (ap bytes_of (take_more pieces i q within) ∙ map-append (λ p. p.now) (take i pieces) (p ∷ [])) in
    subst (λ ts. AllZip IsDocument ts (map view new)) here
    (subst (AllZip IsDocument (bytes_of (take i pieces) ++ p.now ∷ [])) there (are_push (bytes_of (take i pieces)) (map view ds) p.now (view d) all one))
