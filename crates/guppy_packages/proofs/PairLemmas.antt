-- Two lists of one length as a list of pairs.
use Rattle.std.proofs.Common.{◌≡◌, ◌∙◌, ℕ, zero, suc, List, [], ◌∷◌, ◌++◌, Bool, Some, length, set, refl, ap, sym, arith}
use Rattle.std.specs.Prelude.{position, slice_get}
use Rattle.std.specs.List.{list_any, zip}
use Rattle.std.proofs.lemmas.Slice.Zip.{firsts-zip, length-zip}
use Rattle.guppy_packages.proofs.Lists.{list_any-map, position-map}

module _ {A B : Type 0} where
  pub zip-push : (ks : List A) (vs : List B) (k : A) (v : B) → length vs ≡ length ks → zip (ks ++ k ∷ []) (vs ++ v ∷ []) ≡ zip ks vs ++ (k, v) ∷ []
  zip-push [] [] k v e = refl
  zip-push [] (w ∷ vs) k v e = absurd (omega arith)
  zip-push (x ∷ ks) [] k v e = absurd (omega arith)
  zip-push (x ∷ ks) (w ∷ vs) k v e = ap (λ l. (x, w) ∷ l) (zip-push ks vs k v (omega arith))

  pub zip_at : (ks : List A) (vs : List B) (i : ℕ) (k : A) (v : B) → slice_get ks i ≡ Some k → slice_get vs i ≡ Some v → slice_get (zip ks vs) i ≡ Some (k, v)
  zip_at [] vs i k v a b = cc
  zip_at (x ∷ ks) [] i k v a b = cc
  zip_at (x ∷ ks) (w ∷ vs) zero k v a b =
      let one : x ≡ k = cc in
      let two : w ≡ v = cc in
      rw (one, two)
  zip_at (x ∷ ks) (w ∷ vs) (suc i) k v a b = zip_at ks vs i k v a b

  -- a pair with another second part
  pub zip_changed : (ks : List A) (vs : List B) (i : ℕ) (k : A) (old new : B) → slice_get (zip ks vs) i ≡ Some (k, old) → zip ks (set vs i new) ≡ set (zip ks vs) i (k, new)
  zip_changed [] vs i k old new h = cc
  zip_changed (x ∷ ks) [] i k old new h = cc
  zip_changed (x ∷ ks) (w ∷ vs) zero k old new h =
      let one : A × B = (x, w) in
      let other : A × B = (k, old) in
      let same : one ≡ other = cc in
      ap (λ (z : A × B). (z.0, new) ∷ zip ks vs) same
  zip_changed (x ∷ ks) (w ∷ vs) (suc i) k old new h = ap (λ l. (x, w) ∷ l) (zip_changed ks vs i k old new h)

  pub zip_long : (ks : List A) (vs : List B) → length vs ≡ length ks → length (zip ks vs) ≡ length vs
  zip_long ks vs e = omega (arith, length-zip ks vs)

  -- a search by the first parts
  pub position-firsts : (p : A → Bool) (ks : List A) (vs : List B) → length vs ≡ length ks → position p ks ≡ position (λ (e : A × B). p e.0) (zip ks vs)
  position-firsts p ks vs e = ap (position p) (sym (firsts-zip ks vs e)) ∙ position-map (λ (e : A × B). e.0) p (zip ks vs)

  pub list_any-firsts : (p : A → Bool) (ks : List A) (vs : List B) → length vs ≡ length ks → list_any p ks ≡ list_any (λ (e : A × B). p e.0) (zip ks vs)
  list_any-firsts p ks vs e = ap (list_any p) (sym (firsts-zip ks vs e)) ∙ list_any-map (λ (e : A × B). e.0) p (zip ks vs)
