-- The differences of two plans from both pairings.
use Rattle.std.proofs.Common.{◌≡◌, ◌∙◌, sym, refl, ap, subst, List, [], ◌∷◌, ◌++◌, map, IsPermutation}
use Rattle.std.proofs.lemmas.List.Sorted.{IsPermutation-append_right, IsPermutation-trans}
use Rattle.feats_diff.specs.changes.Changes.{ChangeText, change_of}
use Rattle.feats_diff.specs.changes.Differences.{AreDifferences, AreInOrder, DifferencesText, IsPartitioned}
use Rattle.feats_diff.specs.changes.Orders.{name_cmp, part_cmp}
use Rattle.feats_diff.specs.changes.Pairings.{AreAscending, ArePaired, IsPartition, PairingText}
use Rattle.feats_diff.specs.changes.Parts.{PartText}
use Rattle.feats_diff.specs.changes.Views.{pair_text, part_text}
use Rattle.feats_diff.specs.declared.changes.matches.Pair.{Pair}
use Rattle.feats_diff.specs.declared.changes.matches.Pairing.{Pairing}
use Rattle.feats_diff.specs.declared.changes.parts.Part.{Part}
use Rattle.feats_diff.specs.changes.inner.Merges.{pairing_text}

olds : (pairs : List (PartText × PartText)) → map (λ c. c.old) (map change_of pairs) ≡ map (λ e. e.0) pairs
olds [] = refl
olds (e ∷ es) = ap (λ z. e.0 ∷ z) (olds es)

news : (pairs : List (PartText × PartText)) → map (λ c. c.new) (map change_of pairs) ≡ map (λ e. e.1) pairs
news [] = refl
news (e ∷ es) = ap (λ z. e.1 ∷ z) (news es)

both_steps : (all sorted same rest moved gone : List PartText) → IsPermutation all sorted → IsPermutation sorted (same ++ rest) → IsPermutation rest (moved ++ gone) → IsPermutation all (same ++ (moved ++ gone))
both_steps all sorted same rest moved gone h k l =
    IsPermutation-trans all sorted (same ++ (moved ++ gone)) h (IsPermutation-trans sorted (same ++ rest) (same ++ (moved ++ gone)) k (IsPermutation-append_right same rest (moved ++ gone) l))

pub divided : (old new sorted_old sorted_new : List PartText) (p q : PairingText) → AreInOrder old sorted_old → AreInOrder new sorted_new → IsPartition sorted_old sorted_new p → IsPartition p.gone p.comes q
    → IsPartitioned old new (record { comes = q.comes; gone = q.gone; moved = map change_of q.pairs; kept = map change_of p.pairs })
divided old new sorted_old sorted_new p q h k l m = record {
  olds = subst (λ z. IsPermutation old z) (sym (rw (olds p.pairs, olds q.pairs) refl)) (both_steps old sorted_old (map (λ e. e.0) p.pairs) p.gone (map (λ e. e.0) q.pairs) q.gone h.are_parts l.olds m.olds);
  news = subst (λ z. IsPermutation new z) (sym (rw (news p.pairs, news q.pairs) refl)) (both_steps new sorted_new (map (λ e. e.1) p.pairs) p.comes (map (λ e. e.1) q.pairs) q.comes k.are_parts l.news m.news);
}

pub differ : (old new sorted_old sorted_new : List PartText) (p q : PairingText) → AreInOrder old sorted_old → AreInOrder new sorted_new → ArePaired part_cmp sorted_old sorted_new p → ArePaired name_cmp p.gone p.comes q → AreAscending p → AreAscending q
    → AreDifferences old new (record { comes = q.comes; gone = q.gone; moved = map change_of q.pairs; kept = map change_of p.pairs })
differ old new sorted_old sorted_new p q h k l m up up_others = record {
  sorted_old = sorted_old;
  sorted_new = sorted_new;
  is_old = h;
  is_new = k;
  same = p;
  others = q;
  are_same = l;
  are_others = m;
  same_ascend = up;
  others_ascend = up_others;
  kept = refl;
  moved = refl;
  gone = refl;
  comes = refl;
}

-- the same values, read through references
module _ (old new : List PartText) (sorted_old sorted_new read_old read_new gone comes : List Part) (p q : Pairing) (same others : List Pair)
    (is_old : read_old ≡ sorted_old) (is_new : read_new ≡ sorted_new) (is_gone : gone ≡ p.gone.items) (is_comes : comes ≡ p.comes.items) (is_same : same ≡ p.pairs.items) (are_others : others ≡ q.pairs.items)
    (kept moved : List ChangeText) (are_kept : kept ≡ map change_of (map pair_text same)) (are_moved : moved ≡ map change_of (map pair_text others))
    (old_order : AreInOrder old (map part_text sorted_old)) (new_order : AreInOrder new (map part_text sorted_new)) where
  abbrev made : List ChangeText → List ChangeText → DifferencesText
  made k m = record { comes = map part_text q.comes.items; gone = map part_text q.gone.items; moved = m; kept = k }

  as_made : made (map change_of (map pair_text p.pairs.items)) (map change_of (map pair_text q.pairs.items)) ≡ made kept moved
  as_made =
      ap (λ m. made (map change_of (map pair_text p.pairs.items)) m) (sym (are_moved ∙ ap (λ z. map change_of (map pair_text z)) are_others))
      ∙ ap (λ k. made k moved) (sym (are_kept ∙ ap (λ z. map change_of (map pair_text z)) is_same))

  pub whole_partition : IsPartition (map part_text read_old) (map part_text read_new) (pairing_text p) → IsPartition (map part_text gone) (map part_text comes) (pairing_text q)
      → IsPartitioned old new (record { comes = map part_text q.comes.items; gone = map part_text q.gone.items; moved = moved; kept = kept })
  whole_partition l m =
      let l2 : IsPartition (map part_text sorted_old) (map part_text sorted_new) (pairing_text p) = subst (λ z. IsPartition (map part_text z) (map part_text sorted_new) (pairing_text p)) is_old (subst (λ z. IsPartition (map part_text read_old) (map part_text z) (pairing_text p)) is_new l) in
      let m2 : IsPartition (map part_text p.gone.items) (map part_text p.comes.items) (pairing_text q) = subst (λ z. IsPartition (map part_text z) (map part_text p.comes.items) (pairing_text q)) is_gone (subst (λ z. IsPartition (map part_text gone) (map part_text z) (pairing_text q)) is_comes m) in
      subst (IsPartitioned old new) as_made (divided old new (map part_text sorted_old) (map part_text sorted_new) (pairing_text p) (pairing_text q) old_order new_order l2 m2)

  pub whole_differences : ArePaired part_cmp (map part_text read_old) (map part_text read_new) (pairing_text p) → ArePaired name_cmp (map part_text gone) (map part_text comes) (pairing_text q) → AreAscending (pairing_text p) → AreAscending (pairing_text q)
      → AreDifferences old new (record { comes = map part_text q.comes.items; gone = map part_text q.gone.items; moved = moved; kept = kept })
  whole_differences l m up up_others =
      let l2 : ArePaired part_cmp (map part_text sorted_old) (map part_text sorted_new) (pairing_text p) = subst (λ z. ArePaired part_cmp (map part_text z) (map part_text sorted_new) (pairing_text p)) is_old (subst (λ z. ArePaired part_cmp (map part_text read_old) (map part_text z) (pairing_text p)) is_new l) in
      let m2 : ArePaired name_cmp (map part_text p.gone.items) (map part_text p.comes.items) (pairing_text q) = subst (λ z. ArePaired name_cmp (map part_text z) (map part_text p.comes.items) (pairing_text q)) is_gone (subst (λ z. ArePaired name_cmp (map part_text gone) (map part_text z) (pairing_text q)) is_comes m) in
      subst (AreDifferences old new) as_made (differ old new (map part_text sorted_old) (map part_text sorted_new) (pairing_text p) (pairing_text q) old_order new_order l2 m2 up up_others)
