-- Words cut at their last slash.
use Rattle.std.proofs.Common.{◌≡◌, ◌≢◌, ℕ, zero, suc, ◌+◌, ◌-◌, ◌<◌, ◌≤◌, List, [], ◌∷◌, Bool, true, false, cond, not, Some, None, length, take, drop, get_or, refl, ap, sym, ◌∙◌, arith, eqb, lit<}
use Rattle.std.specs.List.{after_last, before_last, list_any, suffix_len}
use Rattle.std.specs.Str.{NoCharPasses}
use Rattle.std.specs.Str.Pattern.{HasCharAt}
use Rattle.std.proofs.lemmas.Bool.{eqb-true, eq-eqb}
use Rattle.std.proofs.lemmas.List.{length-drop}
use Rattle.std.proofs.lemmas.List.Folds.{list_any_at}
use Rattle.std.proofs.lemmas.List.Sums.{suffix_len_is}
use Rattle.std.proofs.lemmas.Str.Pattern.{NoCharPasses-char, drop_at_char}
use Rattle.cargo_workspaces.specs.Workspaces.{Text}
use Rattle.plan_words.specs.FeatureWords.{is_slash}
use Rattle.plan_names.specs.inner.Cuts.{CutText, cut_of}
use Rattle.plan_words.proofs.PatternFits.{false_of, never}

-- a test that fails at each place
pub any_never : {X : Type 0} (p : X → Bool) (xs : List X) → ((k : ℕ) (d : X) → k < length xs → p (get_or xs k d) ≡ false) → list_any p xs ≡ false
any_never p [] h = refl
any_never p (x ∷ xs) h =
    let first : p x ≡ false = h 0 x (omega arith) in
    let rest : list_any p xs ≡ false = any_never p xs (λ k d within. h (suc k) d (omega arith)) in
    rw (first, rest) refl

-- what is read within a list doesn't depend on the default
pub same_read : {X : Type 0} (xs : List X) (k : ℕ) (d e : X) → k < length xs → get_or xs k e ≡ get_or xs k d
same_read [] k d e within = absurd (omega arith)
same_read (x ∷ xs) zero d e within = refl
same_read (x ∷ xs) (suc k) d e within = same_read xs k d e (omega arith)

-- what `contains` says of a character
pub contains_is : (c : ℕ) (bs : Text) (r : Bool) → (r ≡ true → (k : ℕ) × (k < length bs) × (get_or bs k 0 ≡ c)) × ((k : ℕ) → k < length bs → get_or bs k 0 ≡ c → r ≡ true) → r ≡ list_any (λ b. eqb b c) bs
contains_is c bs true h = let found = h.0 refl in sym (list_any_at (λ b. eqb b c) bs found.0 0 found.1 (eq-eqb _ c found.2))
contains_is c bs false h = sym (any_never (λ b. eqb b c) bs (λ k d within. false_of _ (λ e. never (h.1 k within (same_read bs k d 0 within ∙ eqb-true _ c e)))))

get_dropped : (bs : Text) (i k d : ℕ) → get_or (drop i bs) k d ≡ get_or bs (i + k) d
get_dropped bs zero k d = let place : k ≡ 0 + k = omega arith in ap (λ n. get_or bs n d) place
get_dropped [] (suc i) k d = refl
get_dropped (b ∷ bs) (suc i) k d = let place : suc (i + k) ≡ suc i + k = omega arith in get_dropped bs i k d ∙ ap (λ n. get_or (b ∷ bs) n d) place

no_slash_at : (word : Text) (k : ℕ) → get_or word k 0 ≢ 47 → is_slash (get_or word k 0) ≡ false
no_slash_at word k h = false_of _ (λ e. h (eqb-true _ 47 e))

-- a word without a slash
pub no_slash : (word : Text) → NoCharPasses (λ d. eqb d 47) word → list_any is_slash word ≡ false
no_slash word h = any_never is_slash word (λ k d within. ap is_slash (same_read word k 0 d within) ∙ no_slash_at word k (NoCharPasses-char 47 word k h (lit< tt) within))

pub none_is : (word : Text) → NoCharPasses (λ d. eqb d 47) word → None ≡ cut_of word
none_is word h = rw (no_slash word h) refl

-- the name in a word without a slash is the word
any_place : (word : Text) (k : ℕ) → list_any is_slash word ≡ false → k < length word → is_slash (get_or word k 0) ≡ false
any_place word k h within = false_of _ (λ e. never (sym h ∙ list_any_at is_slash word k 0 within e))

pub whole_name : (word : Text) → list_any is_slash word ≡ false → after_last is_slash word ≡ word
whole_name word h =
    let long = suffix_len_is (λ x. not (is_slash x)) word 0 0 (omega arith) (λ k more within. ap not (any_place word k h within)) (λ l. absurd (omega (arith, l))) in
    let none : length word - suffix_len (λ x. not (is_slash x)) word ≡ 0 = omega (arith, long) in
    ap (λ n. drop n word) none

-- the parts before and after the last slash
last_slash : (word front name : Text) (i j : ℕ) → NoCharPasses (λ d. eqb d 47) (drop j word) → HasCharAt 47 word i j → j ≤ length word
    → (j ≡ i + 1) × (list_any is_slash word ≡ true) × (suffix_len (λ x. not (is_slash x)) word ≡ length word - j)
last_slash word front name i j after at within =
    let cut = drop_at_char 47 word i j at (lit< tt) in
    let long : length word - i ≡ suc (length word - j) = sym (length-drop i word) ∙ ap (λ (t : Text). length t) cut ∙ ap (λ n. suc n) (length-drop j word) in
    let place : j ≡ i + 1 = omega (arith, long, within) in
    let here : get_or word i 0 ≡ 47 = at.byte (lit< tt) in
    let slash : is_slash (get_or word i 0) ≡ true = eq-eqb _ 47 here in (
      place,
      list_any_at is_slash word i 0 (omega (arith, place, within)) slash,
      suffix_len_is (λ x. not (is_slash x)) word j 0 within
          (λ k more less. ap not (no_slash_at word k (λ e. NoCharPasses-char 47 (drop j word) (k - j) after (lit< tt) (omega (arith, length-drop j word, more, less)) (get_dropped word j (k - j) 0 ∙ ap (λ n. get_or word n 0) (back j k more) ∙ e))))
          (λ l. ap not (ap (λ n. is_slash (get_or word n 0)) (before i j place) ∙ slash)),
    )
  where
    back : (j k : ℕ) → j ≤ k → j + (k - j) ≡ k
    back j k more = omega (arith, more)

    before : (i j : ℕ) → j ≡ i + 1 → j - 1 ≡ i
    before i j place = omega (arith, place)

pub some_is : (word front name : Text) (i j : ℕ) → NoCharPasses (λ d. eqb d 47) (drop j word) → HasCharAt 47 word i j → front ≡ take i word → name ≡ drop j word → j ≤ length word
    → Some (record { front = front; name = name }) ≡ cut_of word
some_is word front name i j after at is_front is_name within =
    let facts = last_slash word front name i j after at within in
    let first : i ≡ length word - suffix_len (λ x. not (is_slash x)) word - 1 = omega (arith, facts.0, facts.2, within) in
    let second : j ≡ length word - suffix_len (λ x. not (is_slash x)) word = omega (arith, facts.2, within) in
    rw (facts.1, is_front ∙ ap (λ n. take n word) first, is_name ∙ ap (λ n. drop n word) second) refl

-- what a cut says of the word
IsCut : Text → CutText → Type 0
IsCut word x = (list_any is_slash word ≡ true) × (x.front ≡ before_last is_slash word) × (x.name ≡ after_last is_slash word)

the_cut : (word : Text) (x y : CutText) → list_any is_slash word ≡ true → y.front ≡ before_last is_slash word → y.name ≡ after_last is_slash word → Some x ≡ Some y → IsCut word x
unfolding IsCut
the_cut word x y h front name e = let same : x ≡ y = cc in (h, ap (λ (c : CutText). c.front) same ∙ front, ap (λ (c : CutText). c.name) same ∙ name)

pub cut_is : (word : Text) (x : CutText) → Some x ≡ cut_of word → (list_any is_slash word ≡ true) × (x.front ≡ before_last is_slash word) × (x.name ≡ after_last is_slash word)
unfolding IsCut
cut_is word x e = go (list_any is_slash word) refl e
  where
    go : (b : Bool) → list_any is_slash word ≡ b → Some x ≡ cond b (Some (record { front = before_last is_slash word; name = after_last is_slash word })) None → IsCut word x
    go true h e = the_cut word x (record { front = before_last is_slash word; name = after_last is_slash word }) h refl refl e
    go false h e = cc

none_apart : (word : Text) (y : CutText) → None ≡ Some y → ⊥
none_apart word y e = cc

pub no_cut : (word : Text) → None ≡ cut_of word → list_any is_slash word ≡ false
no_cut word e = false_of (list_any is_slash word) (λ h. none_apart word _ (rw h at e))
