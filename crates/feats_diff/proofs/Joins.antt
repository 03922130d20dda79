-- Two lists in an order, joined in one pass.
use Rattle.std.proofs.Common.{◌≡◌, ◌∙◌, sym, refl, ap, ℕ, zero, suc, List, [], ◌∷◌, ◌++◌, map, length, drop, Bool, true, false, cond}
use Rattle.std.specs.List.{AllByRecursion, filter, zip}
use Rattle.std.specs.Cmp.{IsTotalOrder, alike_right}
use Rattle.std.specs.Ordering.{is_eq, is_lt, ordering_reverse, ordering_then}
use Rattle.std.specs.declared.cmp.Ordering.{Ordering}
use Rattle.std.specs.declared.cmp.Ordering.TheVariants.{Less, Equal, Greater}
use Rattle.std.proofs.lemmas.List.Sorted.{IsPermutation-refl, IsPermutation-cons, IsPermutation-trans, IsPermutation-sym, IsPermutation-middle}
use Rattle.feats_diff.specs.changes.Orders.{Ascends, PartOrder, name_cmp, part_cmp}
use Rattle.feats_diff.specs.changes.Pairings.{ArePaired, IsPartition, PairingText, is_like, likes}
use Rattle.feats_diff.specs.changes.Parts.{PartText}
use Rattle.feats_diff.specs.changes.inner.Joined.{chosen, joined, joined_from, with_gone, with_new, with_pair}

-- ---- lists of which all elements have a property

all_map : {X : Type 0} (P Q : X → Type 0) → ((x : X) → P x → Q x) → (xs : List X) → AllByRecursion P xs → AllByRecursion Q xs
all_map P Q f [] h = tt
all_map P Q f (x ∷ xs) h = (f x h.0, all_map P Q f xs h.1)

drop_none : {X : Type 0} (n : ℕ) (xs : List X) → xs ≡ [] → drop n xs ≡ []
drop_none zero xs e = e
drop_none (suc n) [] e = refl
drop_none (suc n) (x ∷ xs) e = cc

zip_none : {X Y : Type 0} (xs : List X) (ys : List Y) → ys ≡ [] → zip xs ys ≡ []
zip_none [] ys e = refl
zip_none (x ∷ xs) [] e = refl
zip_none (x ∷ xs) (y ∷ ys) e = cc

-- ---- one more part, of a list of those that are equal to some part

gone_more : {X : Type 0} (x : X) (a b : List X) (pairs : List (X × X)) (gone comes : List X) → b ≡ []
    → pairs ≡ zip a b → gone ≡ drop (length b) a → comes ≡ drop (length a) b
    → (pairs ≡ zip (x ∷ a) b) × (x ∷ gone ≡ drop (length b) (x ∷ a)) × (comes ≡ drop (length (x ∷ a)) b)
gone_more x a [] pairs gone comes e h k l = (h ∙ zip_none a [] refl, ap (λ z. x ∷ z) k, l ∙ drop_none (length a) [] refl)
gone_more x a (y ∷ b) pairs gone comes e h k l = cc

new_more : {X : Type 0} (y : X) (a b : List X) (pairs : List (X × X)) (gone comes : List X) → a ≡ []
    → pairs ≡ zip a b → gone ≡ drop (length b) a → comes ≡ drop (length a) b
    → (pairs ≡ zip a (y ∷ b)) × (gone ≡ drop (length (y ∷ b)) a) × (y ∷ comes ≡ drop (length a) (y ∷ b))
new_more y [] b pairs gone comes e h k l = (h, k ∙ drop_none (length b) [] refl, ap (λ z. y ∷ z) l)
new_more y (x ∷ a) b pairs gone comes e h k l = cc

-- ---- what is less than each part of a list

module _ (cmp along : PartOrder) (o : IsTotalOrder cmp) where
  abbrev IsBelow : PartText → List PartText → Type 0
  IsBelow x zs = AllByRecursion (λ z. cmp x z ≡ Less) zs

  below : (x y z : PartText) → cmp x y ≡ Less → is_lt (cmp z y) ≡ false → cmp x z ≡ Less
  below x y z l h = go (cmp y z) refl
    where
      go : (r : Ordering) → cmp y z ≡ r → cmp x z ≡ Less
      go Less e = o.trans x y z l e
      go Equal e = sym (alike_right o y z x e) ∙ l
      go Greater e = let bad : true ≡ false = sym (ap is_lt (o.antisymm z y ∙ ap ordering_reverse e)) ∙ h in cc

  below_all : (x y : PartText) (ys : List PartText) → cmp x y ≡ Less → Ascends cmp (y ∷ ys) → IsBelow x (y ∷ ys)
  below_all x y ys l up = (l, all_map (λ z. is_lt (cmp z y) ≡ false) (λ z. cmp x z ≡ Less) (λ z h. below x y z l h) ys up.0)

  turned : (x y : PartText) → cmp x y ≡ Greater → cmp y x ≡ Less
  turned x y e = o.antisymm y x ∙ ap ordering_reverse e

  none_like : (q x : PartText) (zs : List PartText) → is_like cmp q x ≡ true → IsBelow x zs → likes cmp q zs ≡ []
  none_like q x [] e h = refl
  none_like q x (z ∷ zs) e h =
      let tied : cmp q x ≡ Equal = is_tied (cmp q x) e in
      let apart : is_like cmp q z ≡ false = ap is_eq (o.congr q x z tied ∙ h.0) in
      ap (λ b. cond b (z ∷ likes cmp q zs) (likes cmp q zs)) apart ∙ none_like q x zs e h.1
    where
      is_tied : (r : Ordering) → is_eq r ≡ true → r ≡ Equal
      is_tied Less e = cc
      is_tied Equal e = refl
      is_tied Greater e = cc

  -- ---- pairs

  paired_gone : (x : PartText) (xs new : List PartText) (p : PairingText) → IsBelow x new → ArePaired cmp xs new p → ArePaired cmp (x ∷ xs) new (with_gone x p)
  paired_gone x xs new p less h = record { pairs = λ q. (all q).0; gone = λ q. (all q).1; comes = λ q. (all q).2 }
    where
      all : (q : PartText) → (filter (λ e. is_like cmp q e.0) p.pairs ≡ zip (likes cmp q (x ∷ xs)) (likes cmp q new))
          × (likes cmp q (x ∷ p.gone) ≡ drop (length (likes cmp q new)) (likes cmp q (x ∷ xs))) × (likes cmp q p.comes ≡ drop (length (likes cmp q (x ∷ xs))) (likes cmp q new))
      all q = go (is_like cmp q x) refl
        where
          a : List PartText
          a = likes cmp q xs

          go : (b : Bool) → is_like cmp q x ≡ b → (filter (λ e. is_like cmp q e.0) p.pairs ≡ zip (cond b (x ∷ a) a) (likes cmp q new))
              × (cond b (x ∷ likes cmp q p.gone) (likes cmp q p.gone) ≡ drop (length (likes cmp q new)) (cond b (x ∷ a) a)) × (likes cmp q p.comes ≡ drop (length (cond b (x ∷ a) a)) (likes cmp q new))
          go true e = gone_more x a (likes cmp q new) _ _ _ (none_like q x new e less) (h.pairs q) (h.gone q) (h.comes q)
          go false e = (h.pairs q, h.gone q, h.comes q)

  paired_new : (y : PartText) (old ys : List PartText) (p : PairingText) → IsBelow y old → ArePaired cmp old ys p → ArePaired cmp old (y ∷ ys) (with_new y p)
  paired_new y old ys p less h = record { pairs = λ q. (all q).0; gone = λ q. (all q).1; comes = λ q. (all q).2 }
    where
      all : (q : PartText) → (filter (λ e. is_like cmp q e.0) p.pairs ≡ zip (likes cmp q old) (likes cmp q (y ∷ ys)))
          × (likes cmp q p.gone ≡ drop (length (likes cmp q (y ∷ ys))) (likes cmp q old)) × (likes cmp q (y ∷ p.comes) ≡ drop (length (likes cmp q old)) (likes cmp q (y ∷ ys)))
      all q = go (is_like cmp q y) refl
        where
          b : List PartText
          b = likes cmp q ys

          go : (t : Bool) → is_like cmp q y ≡ t → (filter (λ e. is_like cmp q e.0) p.pairs ≡ zip (likes cmp q old) (cond t (y ∷ b) b))
              × (likes cmp q p.gone ≡ drop (length (cond t (y ∷ b) b)) (likes cmp q old)) × (cond t (y ∷ likes cmp q p.comes) (likes cmp q p.comes) ≡ drop (length (likes cmp q old)) (cond t (y ∷ b) b))
          go true e = new_more y (likes cmp q old) b _ _ _ (none_like q y old e less) (h.pairs q) (h.gone q) (h.comes q)
          go false e = (h.pairs q, h.gone q, h.comes q)

  paired_both : (x y : PartText) (xs ys : List PartText) (p : PairingText) → cmp x y ≡ Equal → ArePaired cmp xs ys p → ArePaired cmp (x ∷ xs) (y ∷ ys) (with_pair x y p)
  paired_both x y xs ys p same h = record { pairs = λ q. (all q).0; gone = λ q. (all q).1; comes = λ q. (all q).2 }
    where
      all : (q : PartText) → (filter (λ e. is_like cmp q e.0) ((x, y) ∷ p.pairs) ≡ zip (likes cmp q (x ∷ xs)) (likes cmp q (y ∷ ys)))
          × (likes cmp q p.gone ≡ drop (length (likes cmp q (y ∷ ys))) (likes cmp q (x ∷ xs))) × (likes cmp q p.comes ≡ drop (length (likes cmp q (x ∷ xs))) (likes cmp q (y ∷ ys)))
      all q = go (is_like cmp q x) (is_like cmp q y) (ap is_eq (alike_right o x y q same))
        where
          a : List PartText
          a = likes cmp q xs

          b : List PartText
          b = likes cmp q ys

          pairs : List (PartText × PartText)
          pairs = filter (λ e. is_like cmp q e.0) p.pairs

          go : (s t : Bool) → s ≡ t → (cond s ((x, y) ∷ pairs) pairs ≡ zip (cond s (x ∷ a) a) (cond t (y ∷ b) b))
              × (likes cmp q p.gone ≡ drop (length (cond t (y ∷ b) b)) (cond s (x ∷ a) a)) × (likes cmp q p.comes ≡ drop (length (cond s (x ∷ a) a)) (cond t (y ∷ b) b))
          go true true e = (ap (λ z. (x, y) ∷ z) (h.pairs q), h.gone q, h.comes q)
          go false false e = (h.pairs q, h.gone q, h.comes q)
          go true false e = cc
          go false true e = cc

  -- ---- each part is in one place

  divided_gone : (x : PartText) (xs new : List PartText) (p : PairingText) → IsPartition xs new p → IsPartition (x ∷ xs) new (with_gone x p)
  divided_gone x xs new p h = record {
    olds = IsPermutation-trans (x ∷ xs) (x ∷ (map (λ e. e.0) p.pairs ++ p.gone)) (map (λ e. e.0) p.pairs ++ x ∷ p.gone)
        (IsPermutation-cons x xs (map (λ e. e.0) p.pairs ++ p.gone) h.olds)
        (IsPermutation-sym (map (λ e. e.0) p.pairs ++ x ∷ p.gone) (x ∷ (map (λ e. e.0) p.pairs ++ p.gone)) (IsPermutation-middle (map (λ e. e.0) p.pairs) x p.gone));
    news = h.news;
  }

  divided_new : (y : PartText) (old ys : List PartText) (p : PairingText) → IsPartition old ys p → IsPartition old (y ∷ ys) (with_new y p)
  divided_new y old ys p h = record {
    olds = h.olds;
    news = IsPermutation-trans (y ∷ ys) (y ∷ (map (λ e. e.1) p.pairs ++ p.comes)) (map (λ e. e.1) p.pairs ++ y ∷ p.comes)
        (IsPermutation-cons y ys (map (λ e. e.1) p.pairs ++ p.comes) h.news)
        (IsPermutation-sym (map (λ e. e.1) p.pairs ++ y ∷ p.comes) (y ∷ (map (λ e. e.1) p.pairs ++ p.comes)) (IsPermutation-middle (map (λ e. e.1) p.pairs) y p.comes));
  }

  divided_both : (x y : PartText) (xs ys : List PartText) (p : PairingText) → IsPartition xs ys p → IsPartition (x ∷ xs) (y ∷ ys) (with_pair x y p)
  divided_both x y xs ys p h = record {
    olds = IsPermutation-cons x xs (map (λ e. e.0) p.pairs ++ p.gone) h.olds;
    news = IsPermutation-cons y ys (map (λ e. e.1) p.pairs ++ p.comes) h.news;
  }

  -- ---- what has no partner is still in order

  abbrev IsFrom : PartText → List PartText → Type 0
  IsFrom x zs = AllByRecursion (λ z. is_lt (along z x) ≡ false) zs

  pub record IsOrdered (old new : List PartText) (p : PairingText) : Type 0 where
    pub old_from : (x : PartText) → IsFrom x old → IsFrom x p.gone
    pub new_from : (x : PartText) → IsFrom x new → IsFrom x p.comes
    pub old_pairs_from : (x : PartText) → IsFrom x old → IsFrom x (map (λ e. e.0) p.pairs)
    pub new_pairs_from : (x : PartText) → IsFrom x new → IsFrom x (map (λ e. e.1) p.pairs)
    pub old_up : Ascends along old → Ascends along p.gone
    pub new_up : Ascends along new → Ascends along p.comes
    pub old_pairs_up : Ascends along old → Ascends along (map (λ e. e.0) p.pairs)
    pub new_pairs_up : Ascends along new → Ascends along (map (λ e. e.1) p.pairs)

  ordered_gone : (x : PartText) (xs new : List PartText) (p : PairingText) → IsOrdered xs new p → IsOrdered (x ∷ xs) new (with_gone x p)
  ordered_gone x xs new p h = record {
    old_from = λ z k. (k.0, h.old_from z k.1);
    new_from = h.new_from;
    old_pairs_from = λ z k. h.old_pairs_from z k.1;
    new_pairs_from = h.new_pairs_from;
    old_up = λ k. (h.old_from x k.0, h.old_up k.1);
    new_up = h.new_up;
    old_pairs_up = λ k. h.old_pairs_up k.1;
    new_pairs_up = h.new_pairs_up;
  }

  ordered_new : (y : PartText) (old ys : List PartText) (p : PairingText) → IsOrdered old ys p → IsOrdered old (y ∷ ys) (with_new y p)
  ordered_new y old ys p h = record {
    old_from = h.old_from;
    new_from = λ z k. (k.0, h.new_from z k.1);
    old_pairs_from = h.old_pairs_from;
    new_pairs_from = λ z k. h.new_pairs_from z k.1;
    old_up = h.old_up;
    new_up = λ k. (h.new_from y k.0, h.new_up k.1);
    old_pairs_up = h.old_pairs_up;
    new_pairs_up = λ k. h.new_pairs_up k.1;
  }

  ordered_both : (x y : PartText) (xs ys : List PartText) (p : PairingText) → IsOrdered xs ys p → IsOrdered (x ∷ xs) (y ∷ ys) (with_pair x y p)
  ordered_both x y xs ys p h = record {
    old_from = λ z k. h.old_from z k.1;
    new_from = λ z k. h.new_from z k.1;
    old_pairs_from = λ z k. (k.0, h.old_pairs_from z k.1);
    new_pairs_from = λ z k. (k.0, h.new_pairs_from z k.1);
    old_up = λ k. h.old_up k.1;
    new_up = λ k. h.new_up k.1;
    old_pairs_up = λ k. (h.old_pairs_from x k.0, h.old_pairs_up k.1);
    new_pairs_up = λ k. (h.new_pairs_from y k.0, h.new_pairs_up k.1);
  }

  -- ---- the whole

  pub record IsJoin (old new : List PartText) (p : PairingText) : Type 0 where
    pub paired : ArePaired cmp old new p
    pub divided : IsPartition old new p
    pub ordered : IsOrdered old new p

  join_from : (x : PartText) (xs : List PartText) (rest : List PartText → PairingText) → ((ys : List PartText) → Ascends cmp ys → IsJoin xs ys (rest ys)) → Ascends cmp (x ∷ xs)
      → (ys : List PartText) → Ascends cmp ys → IsJoin (x ∷ xs) ys (joined_from cmp x rest ys)
  unfolding joined_from
  join_from x xs rest h up [] new_up =
      let r : IsJoin xs [] (rest []) = h [] tt in
      record { paired = paired_gone x xs [] (rest []) tt r.paired; divided = divided_gone x xs [] (rest []) r.divided; ordered = ordered_gone x xs [] (rest []) r.ordered }
  join_from x xs rest h up (y ∷ ys) new_up = go (cmp x y) refl (join_from x xs rest h up ys new_up.1)
    where
      later : PairingText
      later = joined_from cmp x rest ys

      go : (r : Ordering) → cmp x y ≡ r → IsJoin (x ∷ xs) ys later → IsJoin (x ∷ xs) (y ∷ ys) (chosen r (with_gone x (rest (y ∷ ys))) (with_pair x y (rest ys)) (with_new y later))
      go Less e after =
          let r : IsJoin xs (y ∷ ys) (rest (y ∷ ys)) = h (y ∷ ys) new_up in
          record { paired = paired_gone x xs (y ∷ ys) _ (below_all x y ys e new_up) r.paired; divided = divided_gone x xs (y ∷ ys) _ r.divided; ordered = ordered_gone x xs (y ∷ ys) _ r.ordered }
      go Equal e after =
          let r : IsJoin xs ys (rest ys) = h ys new_up.1 in
          record { paired = paired_both x y xs ys _ e r.paired; divided = divided_both x y xs ys _ r.divided; ordered = ordered_both x y xs ys _ r.ordered }
      go Greater e after =
          record { paired = paired_new y (x ∷ xs) ys _ (below_all y x xs (turned x y e) up) after.paired; divided = divided_new y (x ∷ xs) ys _ after.divided; ordered = ordered_new y (x ∷ xs) ys _ after.ordered }

  pub join : (xs ys : List PartText) → Ascends cmp xs → Ascends cmp ys → IsJoin xs ys (joined cmp xs ys)
  unfolding joined
  join [] ys up new_up = record {
    paired = record { pairs = λ q. refl; gone = λ q. sym (drop_none (length (likes cmp q ys)) [] refl); comes = λ q. refl };
    divided = record { olds = IsPermutation-refl []; news = IsPermutation-refl ys };
    ordered = record { old_from = λ x k. tt; new_from = λ x k. k; old_pairs_from = λ x k. tt; new_pairs_from = λ x k. tt; old_up = λ k. tt; new_up = λ k. k; old_pairs_up = λ k. tt; new_pairs_up = λ k. tt };
  }
  join (x ∷ xs) ys up new_up = join_from x xs (joined cmp xs) (λ zs k. join xs zs up.1 k) up ys new_up

-- ---- the order of names

not_first : (r s : Ordering) → is_lt (ordering_then r s) ≡ false → is_lt r ≡ false
not_first Less s h = h
not_first Equal s h = refl
not_first Greater s h = refl

pub by_name : (xs : List PartText) → Ascends part_cmp xs → Ascends name_cmp xs
by_name [] up = tt
by_name (x ∷ xs) up =
    (all_map (λ y. is_lt (part_cmp y x) ≡ false) (λ y. is_lt (name_cmp y x) ≡ false) (λ y h. not_first (name_cmp y x) _ h) xs up.0, by_name xs up.1)
