-- Binary search among features, which are in the order of their names.
use Rattle.std.proofs.Common.{◌≡◌, ◌∙◌, ⊎_elim, sym, ap, subst, ℕ, ◌+◌, ◌<◌, ◌≤◌, List, [], ◌∷◌, map, length, get_or, arith}
use Rattle.std.specs.Prelude.{Some, option_map, slice_get, IsSortedBy}
use Rattle.std.specs.List.Sorted.{IsStrictlySortedBy, IsNonDecreasingBy, IsPartitionPoint}
use Rattle.std.specs.Ordering.{is_eq, is_lt, ordering_index, ordering_reverse}
use Rattle.std.specs.declared.cmp.Ordering.TheVariants.{Less, Equal, Greater}
use Rattle.std.proofs.lemmas.Bool.{cases_eq, cases_lt}
use Rattle.std.proofs.lemmas.Cmp.{nat_list_cmp_total, tied_itself}
use Rattle.std.proofs.lemmas.List.{length-map, get_or-map}
use Rattle.std.proofs.lemmas.List.Sorted.{searchable_from_sorted}
use Rattle.std.proofs.lemmas.Map.Keys.{Less-from_sorted}
use Rattle.std.proofs.lemmas.Map.Text.{is_eq-slice_cmp}
use Rattle.std.proofs.lemmas.Option.{get_or_from_slice_get, slice_get-get_or, slice_get-map, slice_get_within}
use Rattle.std.proofs.lemmas.Slice.Eq.{bytes_eq-Decides}
use Rattle.cargo_workspaces.specs.Workspaces.{FeatureText, Text, text_cmp}

same_text : (a n : Text) → text_cmp a n ≡ Equal → a ≡ n
same_text a n h = (bytes_eq-Decides a n).0 (sym (is_eq-slice_cmp a n) ∙ ap is_eq h)

-- a feature that was found is at its place
pub found_name : {X : Type 0} (view : X → FeatureText) (xs : List X) (n : Text) (i : ℕ) → i < length xs → ((d : X) → text_cmp (view (get_or xs i d)).name n ≡ Equal)
    → (f : FeatureText) × (slice_get (map view xs) i ≡ Some f) × (f.name ≡ n)
found_name view [] n i within h = absurd (omega arith)
found_name view (x ∷ xs) n i within h =
    let y = get_or (x ∷ xs) i x in
    (view y, slice_get-map view (x ∷ xs) i ∙ ap (option_map view) (slice_get-get_or (x ∷ xs) i x within), same_text (view y).name n (h x))

not_itself : (n : Text) → text_cmp n n ≡ Less → ⊥
not_itself n h = let same : text_cmp n n ≡ Equal = tied_itself nat_list_cmp_total n in cc

never_before : (ks : List Text) (i k : ℕ) (n : Text) → IsStrictlySortedBy text_cmp ks → slice_get ks i ≡ Some n → slice_get ks k ≡ Some n → i < k → ⊥
never_before ks i k n s at there before =
    let less : text_cmp (get_or ks i n) (get_or ks k n) ≡ Less = Less-from_sorted text_cmp ks i k n s before (slice_get_within ks k n there) in
    not_itself n (subst (λ z. text_cmp z n ≡ Less) (get_or_from_slice_get ks i n n at) (subst (λ z. text_cmp (get_or ks i n) z ≡ Less) (get_or_from_slice_get ks k n n there) less))

-- a name is at one place
one_place : (ks : List Text) (i k : ℕ) (n : Text) → IsStrictlySortedBy text_cmp ks → slice_get ks i ≡ Some n → slice_get ks k ≡ Some n → i ≡ k
one_place ks i k n s at there = ⊎_elim (λ e. e) (λ ne. absurd (⊎_elim (λ (l : i < k). never_before ks i k n s at there l) (λ (g : k ≤ i). never_before ks k i n s there at (omega arith)) (cases_lt i k))) (cases_eq i k)

name_at : (fs : List FeatureText) (k : ℕ) (f : FeatureText) (n : Text) → slice_get fs k ≡ Some f → f.name ≡ n → slice_get (map (λ f. f.name) fs) k ≡ Some n
name_at fs k f n at is = slice_get-map (λ (f : FeatureText). f.name) fs k ∙ ap (option_map (λ (f : FeatureText). f.name)) at ∙ ap Some is

pub found_place : (fs : List FeatureText) (i k : ℕ) (g f : FeatureText) (n : Text) → IsStrictlySortedBy text_cmp (map (λ f. f.name) fs) → slice_get fs i ≡ Some g → g.name ≡ n → slice_get fs k ≡ Some f → f.name ≡ n → i ≡ k
found_place fs i k g f n s at is there same = one_place (map (λ f. f.name) fs) i k n s (name_at fs i g n at is) (name_at fs k f n there same)

module _ {X : Type 0} (view : X → FeatureText) (xs : List X) (s : IsStrictlySortedBy text_cmp (map (λ f. f.name) (map view xs))) where
  abbrev pub key : X → Text
  key x = (view x).name

  key_at : (k : ℕ) (d : X) → k < length xs → get_or (map (λ f. f.name) (map view xs)) k (key d) ≡ key (get_or xs k d)
  key_at k d within =
      let long : length (map view xs) ≡ length xs = length-map xs view in
      get_or-map (λ (f : FeatureText). f.name) (map view xs) k (view d) (key d) (omega arith) ∙ ap (λ (f : FeatureText). f.name) (get_or-map view xs k d (view d) within)

  rising : IsSortedBy (λ a b. is_lt (text_cmp (key a) (key b))) xs
  rising = λ k d low high.
      let long : length (map view xs) ≡ length xs = length-map xs view in
      let longer : length (map (λ f. f.name) (map view xs)) ≡ length (map view xs) = length-map (map view xs) (λ f. f.name) in
      let less : text_cmp (get_or (map (λ f. f.name) (map view xs)) k (key d)) (get_or (map (λ f. f.name) (map view xs)) (k + 1) (key d)) ≡ Less =
      Less-from_sorted text_cmp (map (λ f. f.name) (map view xs)) k (k + 1) (key d) s (omega arith) (omega arith) in
      let seen : text_cmp (key (get_or xs k d)) (key (get_or xs (k + 1) d)) ≡ Less =
      sym (ap (λ a. text_cmp a (get_or (map (λ f. f.name) (map view xs)) (k + 1) (key d))) (key_at k d (omega arith)) ∙ ap (text_cmp (key (get_or xs k d))) (key_at (k + 1) d (omega arith))) ∙ less in
      ap is_lt (nat_list_cmp_total.antisymm (key (get_or xs (k + 1) d)) (key (get_or xs k d)) ∙ ap ordering_reverse seen)

  -- a feature that wasn't found isn't there
  pub not_found : (n : Text) (i : ℕ) → (IsNonDecreasingBy (λ x. ordering_index (text_cmp (key x) n)) xs → IsPartitionPoint (λ x. text_cmp (key x) n ≡ Less) (λ x. text_cmp (key x) n ≡ Greater) xs i)
      → (k : ℕ) (f : FeatureText) → slice_get (map view xs) k ≡ Some f → f.name ≡ n → ⊥
  not_found n i h k f at is =
      let point = h (searchable_from_sorted nat_list_cmp_total key xs n rising) in
      let long : length (map view xs) ≡ length xs = length-map xs view in
      let within : k < length (map view xs) = slice_get_within (map view xs) k f at in
      go point (rest_of xs k (omega arith))
    where
      rest_of : (ys : List X) (j : ℕ) → j < length ys → X
      rest_of [] j inside = absurd (omega arith)
      rest_of (y ∷ ys) j inside = y

      go : IsPartitionPoint (λ x. text_cmp (key x) n ≡ Less) (λ x. text_cmp (key x) n ≡ Greater) xs i → X → ⊥
      go point d =
          let long : length (map view xs) ≡ length xs = length-map xs view in
          let within : k < length (map view xs) = slice_get_within (map view xs) k f at in
          let here : key (get_or xs k d) ≡ n = ap (λ (g : FeatureText). g.name) (sym (get_or-map view xs k d (view d) (omega arith)) ∙ get_or_from_slice_get (map view xs) k f (view d) at) ∙ is in
          let tied : text_cmp (key (get_or xs k d)) n ≡ Equal = ap (λ z. text_cmp z n) here ∙ tied_itself nat_list_cmp_total n in
          ⊎_elim (λ (l : k < i). (let less : text_cmp (key (get_or xs k d)) n ≡ Less = point.0 k d (omega arith) l in cc)) (λ (g : i ≤ k). (let greater : text_cmp (key (get_or xs k d)) n ≡ Greater = point.1 k d g (omega arith) in cc)) (cases_lt k i)
