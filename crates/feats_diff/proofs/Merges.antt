-- The pass that joins two lists.
use Rattle.std.proofs.Common.{◌≡◌, ◌∙◌, ◌⊎◌, inl, inr, Ordering, arith, zero, suc, ◌&&◌, IsFalse, sym, refl, ap, ℕ, ◌+◌, ◌<◌, ◌≤◌, List, [], ◌∷◌, ◌++◌, map, length, drop, get_or, append_assoc, append-nil, add-one, drop-cons, Bool, true, false, nat_lt}
use Rattle.std.proofs.lemmas.List.{map-append}
use Rattle.std.proofs.lemmas.Bool.Decides.{nat_tests}
use Rattle.std.specs.declared.cmp.Ordering.TheVariants.{Less, Equal, Greater}
use Rattle.feats_diff.specs.changes.Orders.{PartOrder}
use Rattle.feats_diff.specs.changes.Pairings.{PairingText}
use Rattle.feats_diff.specs.changes.Parts.{PartText}
use Rattle.feats_diff.specs.changes.Views.{pair_text, part_text}
use Rattle.feats_diff.specs.declared.changes.matches.Pair.{Pair}
use Rattle.feats_diff.specs.declared.changes.orders.By.{By}
use Rattle.feats_diff.specs.declared.changes.parts.Part.{Part}
use Rattle.feats_diff.specs.changes.inner.Joined.{chosen, cmp_by, followed_by, joined, joined_from, with_gone, with_new, with_pair}

-- ---- one step

module _ (cmp : PartOrder) (x y : PartText) (xs ys : List PartText) (f : PairingText) where
  by_order : (r : Ordering) → cmp x y ≡ r → joined cmp (x ∷ xs) (y ∷ ys) ≡ chosen r (with_gone x (joined cmp xs (y ∷ ys))) (with_pair x y (joined cmp xs ys)) (with_new y (joined cmp (x ∷ xs) ys))
  unfolding joined joined_from
  by_order r e = ap (λ (o : Ordering). chosen o (with_gone x (joined cmp xs (y ∷ ys))) (with_pair x y (joined cmp xs ys)) (with_new y (joined cmp (x ∷ xs) ys))) e

  less : cmp x y ≡ Less → followed_by (record { gone = f.gone ++ x ∷ []; pairs = f.pairs; comes = f.comes }) (joined cmp xs (y ∷ ys)) ≡ followed_by f (joined cmp (x ∷ xs) (y ∷ ys))
  less e =
      let j : PairingText = joined cmp xs (y ∷ ys) in
      ap (λ (g : List PartText). record { gone = g; pairs = f.pairs ++ j.pairs; comes = f.comes ++ j.comes }) (append_assoc f.gone (x ∷ []) j.gone)
      ∙ sym (ap (followed_by f) (by_order Less e))

  equal : cmp x y ≡ Equal → followed_by (record { gone = f.gone; pairs = f.pairs ++ (x, y) ∷ []; comes = f.comes }) (joined cmp xs ys) ≡ followed_by f (joined cmp (x ∷ xs) (y ∷ ys))
  equal e =
      let j : PairingText = joined cmp xs ys in
      ap (λ (p : List (PartText × PartText)). record { gone = f.gone ++ j.gone; pairs = p; comes = f.comes ++ j.comes }) (append_assoc f.pairs ((x, y) ∷ []) j.pairs)
      ∙ sym (ap (followed_by f) (by_order Equal e))

  greater : cmp x y ≡ Greater → followed_by (record { gone = f.gone; pairs = f.pairs; comes = f.comes ++ y ∷ [] }) (joined cmp (x ∷ xs) ys) ≡ followed_by f (joined cmp (x ∷ xs) (y ∷ ys))
  greater e =
      let j : PairingText = joined cmp (x ∷ xs) ys in
      ap (λ (c : List PartText). record { gone = f.gone ++ j.gone; pairs = f.pairs ++ j.pairs; comes = c }) (append_assoc f.comes (y ∷ []) j.comes)
      ∙ sym (ap (followed_by f) (by_order Greater e))

-- ---- the same for the parts of lists that are left

dropped : {X : Type 0} (xs : List X) (i : ℕ) (x : X) → i < length xs → x ≡ get_or xs i x → drop i xs ≡ x ∷ drop (i + 1) xs
dropped xs i x within is = (rw (add-one, drop-cons xs i x within) refl) ∙ ap (λ y. y ∷ drop (i + 1) xs) (sym is)

module _ (cmp : PartOrder) (old new : List Part) (i j : ℕ) (x y : Part) (old_left : i < length old) (new_left : j < length new) (is_old : x ≡ get_or old i x) (is_new : y ≡ get_or new j y) where
  abbrev left : List Part → List Part → PairingText → PairingText
  left xs ys f = followed_by f (joined cmp (map part_text xs) (map part_text ys))

  at_both : (f : PairingText) → left (drop i old) (drop j new) f ≡ left (x ∷ drop (i + 1) old) (y ∷ drop (j + 1) new) f
  at_both f = ap (λ xs. left xs (drop j new) f) (dropped old i x old_left is_old) ∙ ap (λ ys. left (x ∷ drop (i + 1) old) ys f) (dropped new j y new_left is_new)

  pub took_old : (gone more comes : List Part) (pairs : List Pair) → cmp (part_text x) (part_text y) ≡ Less → more ≡ gone ++ x ∷ []
      → left (drop (i + 1) old) (drop j new) (record { gone = map part_text more; pairs = map pair_text pairs; comes = map part_text comes })
      ≡ left (drop i old) (drop j new) (record { gone = map part_text gone; pairs = map pair_text pairs; comes = map part_text comes })
  took_old gone more comes pairs e is =
      let f : PairingText = record { gone = map part_text gone; pairs = map pair_text pairs; comes = map part_text comes } in
      ap (λ ys. left (drop (i + 1) old) ys (record { gone = map part_text more; pairs = map pair_text pairs; comes = map part_text comes })) (dropped new j y new_left is_new)
      ∙ ap (λ (g : List PartText). left (drop (i + 1) old) (y ∷ drop (j + 1) new) (record { gone = g; pairs = map pair_text pairs; comes = map part_text comes })) (ap (map part_text) is ∙ map-append part_text gone (x ∷ []))
      ∙ less cmp (part_text x) (part_text y) (map part_text (drop (i + 1) old)) (map part_text (drop (j + 1) new)) f e
      ∙ sym (at_both f)

  pub took_both : (gone comes : List Part) (pairs more : List Pair) (p : Pair) → cmp (part_text x) (part_text y) ≡ Equal → pair_text p ≡ (part_text x, part_text y) → more ≡ pairs ++ p ∷ []
      → left (drop (i + 1) old) (drop (j + 1) new) (record { gone = map part_text gone; pairs = map pair_text more; comes = map part_text comes })
      ≡ left (drop i old) (drop j new) (record { gone = map part_text gone; pairs = map pair_text pairs; comes = map part_text comes })
  took_both gone comes pairs more p e both is =
      let f : PairingText = record { gone = map part_text gone; pairs = map pair_text pairs; comes = map part_text comes } in
      ap (λ (g : List (PartText × PartText)). left (drop (i + 1) old) (drop (j + 1) new) (record { gone = map part_text gone; pairs = g; comes = map part_text comes }))
      (ap (map pair_text) is ∙ map-append pair_text pairs (p ∷ []) ∙ ap (λ e. map pair_text pairs ++ e ∷ []) both)
      ∙ equal cmp (part_text x) (part_text y) (map part_text (drop (i + 1) old)) (map part_text (drop (j + 1) new)) f e
      ∙ sym (at_both f)

  pub took_new : (gone comes more : List Part) (pairs : List Pair) → cmp (part_text x) (part_text y) ≡ Greater → more ≡ comes ++ y ∷ []
      → left (drop i old) (drop (j + 1) new) (record { gone = map part_text gone; pairs = map pair_text pairs; comes = map part_text more })
      ≡ left (drop i old) (drop j new) (record { gone = map part_text gone; pairs = map pair_text pairs; comes = map part_text comes })
  took_new gone comes more pairs e is =
      let f : PairingText = record { gone = map part_text gone; pairs = map pair_text pairs; comes = map part_text comes } in
      ap (λ xs. left xs (drop (j + 1) new) (record { gone = map part_text gone; pairs = map pair_text pairs; comes = map part_text more })) (dropped old i x old_left is_old)
      ∙ ap (λ (g : List PartText). left (x ∷ drop (i + 1) old) (drop (j + 1) new) (record { gone = map part_text gone; pairs = map pair_text pairs; comes = g })) (ap (map part_text) is ∙ map-append part_text comes (y ∷ []))
      ∙ greater cmp (part_text x) (part_text y) (map part_text (drop (i + 1) old)) (map part_text (drop (j + 1) new)) f e
      ∙ sym (at_both f)

-- ---- the end

all_gone : (cmp : PartOrder) (xs : List PartText) → joined cmp xs [] ≡ record { gone = xs; pairs = []; comes = [] }
unfolding joined joined_from
all_gone cmp [] = refl
all_gone cmp (x ∷ xs) = ap (with_gone x) (all_gone cmp xs)

-- one of the lists has nothing left
pub ended : (cmp : PartOrder) (xs ys : List PartText) (f : PairingText) → (xs ≡ []) ⊎ (ys ≡ []) → followed_by f (joined cmp xs ys) ≡ record { gone = f.gone ++ xs; pairs = f.pairs; comes = f.comes ++ ys }
unfolding joined
ended cmp xs ys f (inl e) =
    ap (λ zs. followed_by f (joined cmp zs ys)) e ∙ ap (λ (p : List (PartText × PartText)). record { gone = f.gone ++ []; pairs = p; comes = f.comes ++ ys }) (append-nil f.pairs)
    ∙ ap (λ zs. record { gone = f.gone ++ zs; pairs = f.pairs; comes = f.comes ++ ys }) (sym e)
ended cmp xs ys f (inr e) =
    ap (λ zs. followed_by f (joined cmp xs zs)) e ∙ ap (followed_by f) (all_gone cmp xs)
    ∙ ap (λ (p : List (PartText × PartText)). record { gone = f.gone ++ xs; pairs = p; comes = f.comes ++ [] }) (append-nil f.pairs)
    ∙ ap (λ zs. record { gone = f.gone ++ xs; pairs = f.pairs; comes = f.comes ++ zs }) (sym e)

drop_all : {X : Type 0} (n : ℕ) (xs : List X) → length xs ≤ n → drop n xs ≡ []
drop_all zero [] h = refl
drop_all zero (x ∷ xs) h = absurd (omega (arith, h))
drop_all (suc n) [] h = refl
drop_all (suc n) (x ∷ xs) h = drop_all n xs (omega arith)

up_to : (x y : ℕ) → nat_lt x y ≡ false → y ≤ x
up_to x y h = grind (arith, nat_tests)

no_parts : (n : ℕ) (xs : List Part) → nat_lt n (length xs) ≡ false → map part_text (drop n xs) ≡ []
no_parts n xs h = ap (map part_text) (drop_all n xs (up_to n (length xs) h))

one_ended : (i j : ℕ) (old new : List Part) (s t : Bool) → nat_lt i (length old) ≡ s → nat_lt j (length new) ≡ t → IsFalse (s && t) → (map part_text (drop i old) ≡ []) ⊎ (map part_text (drop j new) ≡ [])
one_ended i j old new false t h k e = inl (no_parts i old h)
one_ended i j old new true false h k e = inr (no_parts j new k)
one_ended i j old new true true h k e = cc

-- the parts that are left of one list are appended
pub all_taken : (by : By) (i j : ℕ) (old new gone all_gone comes all_comes : List Part) (pairs : List Pair) → IsFalse (nat_lt i (length old) && nat_lt j (length new)) → all_gone ≡ gone ++ drop i old → all_comes ≡ comes ++ drop j new
    → record { gone = map part_text all_gone; pairs = map pair_text pairs; comes = map part_text all_comes }
    ≡ followed_by (record { gone = map part_text gone; pairs = map pair_text pairs; comes = map part_text comes }) (joined (cmp_by by) (map part_text (drop i old)) (map part_text (drop j new)))
all_taken by i j old new gone all_gone comes all_comes pairs e is_gone is_comes =
    ap (λ (g : List PartText). record { gone = g; pairs = map pair_text pairs; comes = map part_text all_comes }) (ap (map part_text) is_gone ∙ map-append part_text gone (drop i old))
    ∙ ap (λ (g : List PartText). record { gone = map part_text gone ++ map part_text (drop i old); pairs = map pair_text pairs; comes = g }) (ap (map part_text) is_comes ∙ map-append part_text comes (drop j new))
    ∙ sym (ended (cmp_by by) (map part_text (drop i old)) (map part_text (drop j new)) (record { gone = map part_text gone; pairs = map pair_text pairs; comes = map part_text comes }) (one_ended i j old new _ _ refl refl e))
