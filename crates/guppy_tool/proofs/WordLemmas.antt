-- Words cut at a slash or at `--`, and iterators over words.
use Rattle.std.proofs.Common.{◌≡◌, ◌≢◌, ℕ, ◌+◌, ◌-◌, ◌<◌, List, [], ◌∷◌, Bool, true, false, not, Option, None, Some, Ok, Err, length, get_or, take, drop, map, sym, ap, ◌∙◌, subst, arith, cond, refl, nat_eq, nat_lt, lit<}
use Rattle.std.proofs.lemmas.Iterator.{YieldsList}
use Rattle.std.proofs.Math.ListN.{drop_of_length-le}
use Rattle.std.proofs.Math.Seq.{take-length}
use Rattle.std.proofs.lemmas.List.{drop-map, get_or-drop, get_or_default, length-drop, length-map, take-map}
use Rattle.std.proofs.lemmas.List.Folds.{list_any_none, list_any-from_Any}
use Rattle.std.proofs.lemmas.List.Sums.{prefix_len-le-length, suffix_len_is}
use Rattle.std.proofs.lemmas.Bool.{eq-eqb, ltb-false, ne_eqb}
use Rattle.std.proofs.lemmas.Str.Pattern.{NoCharPasses-char}
use Rattle.std.specs.List.{list_any, position, position_or_len, suffix_len, before_first, after_first, before_last, after_last}
use Rattle.std.specs.Option.{option_map, MatchOption}
use Rattle.std.specs.Borrow.{Bor}
use Rattle.std.specs.Str.{NoCharPasses}
use Rattle.std.specs.Str.Pattern.{RFindsChar, HasCharAt, SplitsAroundMatch}
use Rattle.guppy_packages.specs.Rows.{Text}
use Rattle.feature_labels.specs.Names.{LabelName}
use Rattle.guppy_tool.specs.Faults.{Refusal, bad_id, IfNotMemory}
use Rattle.guppy_tool.specs.Words.{cut_at_last_slash, is_slash, id_or_refusal, id_in, ids_in}
use Rattle.row_files.proofs.FirstFaultLemmas.{with_front, one_refused}
use Rattle.guppy_tool.proofs.RefusalLemmas.{if_not_memory}

some_pair : (a c b d : Text) → a ≡ c → b ≡ d → ◌≡◌ {A = Option (Text × Text)} (Some (a, b)) (Some (c, d))
some_pair a c b d e f = ap (λ y. Some (a, y)) f ∙ ap (λ x. Some (x, d)) e

-- the last slash of a word is at i
record LastSlash (word : Text) (i : ℕ) : Type 0 where
  within : i < length word
  here : get_or word i 0 ≡ 47
  past : (k : ℕ) → i < k → k < length word → get_or word k 0 ≢ 47

last_slash : (word : Text) (i j : ℕ) → NoCharPasses (λ d. nat_eq d 47) (drop j word) → HasCharAt 47 word i j → length (drop j word) + j ≡ length word → LastSlash word i
last_slash word i j none at long =
    let next : j ≡ i + 1 = at.ends in
    record {
      within = omega arith;
      here = at.byte (lit< tt);
      past = λ k more h. subst (λ m. get_or word m 0 ≢ 47) (let e : j + (k - j) ≡ k = omega arith in e) (subst (λ b. b ≢ 47) (get_or-drop j word (k - j) 0) (NoCharPasses-char 47 (drop j word) (k - j) none (lit< tt) (omega arith)));
    }

some_slash : (word : Text) (i : ℕ) → LastSlash word i → list_any is_slash word ≡ true
some_slash word i last = list_any-from_Any is_slash word (i, 47, last.within, get_or_default word i 47 0 last.within ∙ last.here, refl)

after_slash : (word : Text) (i : ℕ) → LastSlash word i → suffix_len (λ b. not (is_slash b)) word ≡ length word - (i + 1)
after_slash word i last =
    let within = last.within in
    suffix_len_is (λ b. not (is_slash b)) word (i + 1) 0 (omega arith)
    (λ k more h. ap not (ne_eqb _ 47 (last.past k (omega arith) h)))
    (λ h. let e : i + 1 - 1 ≡ i = omega arith in rw e (ap not (eq-eqb _ 47 last.here)))

parts_there : (word : Text) (n i : ℕ) → n ≡ length word - (i + 1) → i < length word → ◌≡◌ {A = Option (Text × Text)} (Some (take (length word - n - 1) word, drop (length word - n) word)) (Some (take i word, drop (i + 1) word))
parts_there word n i is within =
    let front : length word - n - 1 ≡ i = omega arith in
    let back : length word - n ≡ i + 1 = omega arith in
    some_pair _ _ _ _ (ap (λ m. take m word) front) (ap (λ m. drop m word) back)

cut_there : (word : Text) (i : ℕ) → LastSlash word i → cut_at_last_slash word ≡ Some (take i word, drop (i + 1) word)
cut_there word i last =
    let cut = λ (b : Bool). cond b (Some (before_last is_slash word, after_last is_slash word)) None in
    ap cut (some_slash word i last) ∙ parts_there word (suffix_len (λ b. not (is_slash b)) word) i (after_slash word i last) last.within

no_slash : (word : Text) → NoCharPasses (λ d. nat_eq d 47) word → cut_at_last_slash word ≡ None
no_slash word none =
    let without : list_any is_slash word ≡ false = list_any_none is_slash word (λ k d h. ne_eqb _ 47 (subst (λ b. b ≢ 47) (get_or_default word k 0 d h) (NoCharPasses-char 47 word k none (lit< tt) h))) in
    ap (λ b. cond b (Some (before_last is_slash word, after_last is_slash word)) None) without

pub cut_is : (word : Text) (r : Option (Bor Text × Bor Text)) → MatchOption r (RFindsChar 47 word None) (λ x. SplitsAroundMatch (RFindsChar 47) word x.0.now x.1.now)
    → option_map (λ parts. (parts.0.now, parts.1.now)) r ≡ cut_at_last_slash word
cut_is word None none = sym (no_slash word none)
cut_is word (Some x) (i, j, finds, front, back, order, long, rest) =
    let last = last_slash word i j finds.0 finds.1 (subst (λ t. length t + j ≡ length word) back rest) in
    some_pair _ _ _ _ front (back ∙ ap (λ n. drop n word) finds.1.ends) ∙ sym (cut_there word i last)

-- a refused word has no id
pub no_id : (word : Text) (id : Option (Text × LabelName)) (r : Refusal) → id_or_refusal word id ≡ Err r → (id ≡ None) × (bad_id word ≡ r)
no_id word None r e = (refl, cc)
no_id word (Some x) r e = absurd (cc)

-- a word that isn't refused has its id
pub an_id : (word : Text) (id : Option (Text × LabelName)) (given : Text × LabelName) → id_or_refusal word id ≡ Ok given → id ≡ Some given
an_id word None given e = absurd (cc)
an_id word (Some x) given e = cc

-- the first word that is no id decides the result
pub word_refused : (r : Refusal) (front : List (Text × LabelName)) (word : Text) (items rest all : List Text)
    → with_front front (ids_in items) ≡ ids_in all → items ≡ word ∷ rest → IfNotMemory r (id_or_refusal word (id_in word) ≡ Err r) → IfNotMemory r (ids_in all ≡ Err r)
word_refused r front word items rest all given at =
    if_not_memory r (id_or_refusal word (id_in word) ≡ Err r) (ids_in all ≡ Err r)
    (λ h. let no = no_id word (id_in word) r h in one_refused id_in bad_id front word items rest all given at no.0 ∙ ap Err no.1)

-- the next item of an iterator is the first of the items to come
pub next_yielded : {S A B : Type 0} (steps : S → Option A → S → Type 0) (v : A → B) (s j : S) (x : A) (ys : List B) → YieldsList steps v s ys → steps s (Some x) j → (rest : List B) × (ys ≡ v x ∷ rest) × YieldsList steps v j rest
next_yielded steps v s j x [] yields step = absurd (yields.runs x j step)
next_yielded steps v s j x (y ∷ ys) yields step =
    let first = yields.runs.1 x j step in
    (ys, ap (λ z. z ∷ ys) (sym first.0), record { runs = first.1 })

-- an iterator that ends has no items to come
pub none_yielded : {S A B : Type 0} (steps : S → Option A → S → Type 0) (v : A → B) (s j : S) (ys : List B) → YieldsList steps v s ys → steps s None j → ys ≡ []
none_yielded steps v s j [] yields step = refl
none_yielded steps v s j (y ∷ ys) yields step = absurd (yields.runs.0 j step)

position_mapped : {X Y : Type 0} (f : X → Y) (p : Y → Bool) (xs : List X) → position_or_len p (map f xs) ≡ position_or_len (λ x. p (f x)) xs
position_mapped f p [] = refl
position_mapped f p (x ∷ xs) = ap (λ n. cond (not (p (f x))) (1 + n) 0) (position_mapped f p xs)

-- the index of the first element that passes the test
place_found : {X : Type 0} (p : X → Bool) (xs : List X) (i : ℕ) → position p xs ≡ Some i → position_or_len p xs ≡ i
place_found p xs i e = of_test (nat_lt (position_or_len p xs) (length xs)) e
  where
    of_test : (b : Bool) → cond b (Some (position_or_len p xs)) None ≡ Some i → position_or_len p xs ≡ i
    of_test true e = cc
    of_test false e = cc

no_place : {X : Type 0} (p : X → Bool) (xs : List X) → position p xs ≡ None → position_or_len p xs ≡ length xs
no_place p xs e = of_test (nat_lt (position_or_len p xs) (length xs)) refl e
  where
    of_test : (b : Bool) → nat_lt (position_or_len p xs) (length xs) ≡ b → cond b (Some (position_or_len p xs)) None ≡ None → position_or_len p xs ≡ length xs
    of_test true is e = cc
    of_test false is e =
        let least = ltb-false (position_or_len p xs) (length xs) is in
        let most = prefix_len-le-length (λ x. not (p x)) xs in
        omega (arith, least, most)

-- the words before the first that passes the test
pub before_place : {X Y : Type 0} (f : X → Y) (p : Y → Bool) (xs : List X) (i : ℕ) → position (λ x. p (f x)) xs ≡ Some i → map f (take i xs) ≡ before_first p (map f xs)
before_place f p xs i e = sym (take-map f i xs) ∙ ap (λ n. take n (map f xs)) (sym (position_mapped f p xs ∙ place_found (λ x. p (f x)) xs i e))

pub after_place : {X Y : Type 0} (f : X → Y) (p : Y → Bool) (xs : List X) (i : ℕ) → position (λ x. p (f x)) xs ≡ Some i → map f (take (length xs - (i + 1)) (drop (i + 1) xs)) ≡ after_first p (map f xs)
after_place f p xs i e =
    ap (λ n. map f (take n (drop (i + 1) xs))) (sym (length-drop (i + 1) xs))
    ∙ ap (map f) (take-length (drop (i + 1) xs))
    ∙ sym (drop-map f (i + 1) xs)
    ∙ ap (λ n. drop (n + 1) (map f xs)) (sym (position_mapped f p xs ∙ place_found (λ x. p (f x)) xs i e))

-- if no word passes, all of them are before the cut
pub all_before : {X Y : Type 0} (f : X → Y) (p : Y → Bool) (xs : List X) → position (λ x. p (f x)) xs ≡ None → map f xs ≡ before_first p (map f xs)
all_before f p xs e =
    sym (take-length (map f xs))
    ∙ ap (λ n. take n (map f xs)) (length-map xs f ∙ sym (position_mapped f p xs ∙ no_place (λ x. p (f x)) xs e))

pub none_after : {X Y : Type 0} (f : X → Y) (p : Y → Bool) (xs : List X) → position (λ x. p (f x)) xs ≡ None → map f (take (length xs - length xs) (drop (length xs) xs)) ≡ after_first p (map f xs)
none_after f p xs e =
    ap (λ n. map f (take n (drop (length xs) xs))) (let none : length xs - length xs ≡ 0 = omega arith in none)
    ∙ sym (drop_of_length-le (map f xs) (let long = length-map xs f in let place = position_mapped f p xs ∙ no_place (λ x. p (f x)) xs e in omega (arith, long, place)))
