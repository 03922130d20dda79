-- The next place of a tab or a line feed, and the text before it.
use Rattle.std.proofs.Common.{◌≡◌, ℕ, zero, suc, ◌+◌, ◌-◌, ◌<◌, ◌≤◌, ◌++◌, ◌==◌, ◌||◌, List, [], ◌∷◌, Bool, true, false, length, take, drop, drop-cons, drop-drop, add-one, slice_index, sym, ap, ◌∙◌, refl, subst, arith, ⊎_elim}
use Rattle.std.proofs.lemmas.Bool.{cases_Bool, cond-true, cond-false, eqb-true}
use Rattle.std.proofs.lemmas.List.{take-append-drop}
use Rattle.std.proofs.Math.ListN.{drop_of_length-le}
use Rattle.std.proofs.lemmas.List.Elements.{All-nil, All-cons}
use Rattle.std.specs.List.{All}
use Rattle.memchr.specs.Find.{is_byte2, places_from, places_between}
use Rattle.row_files.proofs.CutLemmas.{is_plain}

-- `x` is the first place from `i` on at which a field ends.
pub record Ends (text : List ℕ) (i x : ℕ) : Type 0 where
  pub low : i ≤ x
  pub high : x < length text
  pub plain : All is_plain (take (x - i) (drop i text))
  pub ends : is_byte2 9 10 (slice_index text x) ≡ true

plain_byte : (b : ℕ) → is_byte2 9 10 b ≡ false → is_plain b
plain_byte b e = by (b == 9) (b == 10) e
  where
    by : (t f : Bool) → (t || f) ≡ false → (t ≡ false) × (f ≡ false)
    by true f e = absurd (cc)
    by false f e = (refl, e)

one_later : (text : List ℕ) (i x : ℕ) → i < length text → is_plain (slice_index text i) → Ends text (i + 1) x → Ends text i x
one_later text i x h first e =
    let low = e.low in
    let count : x - i ≡ suc (x - (i + 1)) = omega arith in
    let at : drop i text ≡ slice_index text i ∷ drop (i + 1) text = rw add-one (drop-cons text i 0 h) in
    record {
      low = omega arith;
      high = e.high;
      plain = rw (count, at) (All-cons is_plain (slice_index text i) (take (x - (i + 1)) (drop (i + 1) text)) first e.plain);
      ends = e.ends;
    }

module _ (text : List ℕ) where
  next_end_from : (i n x : ℕ) (rest : List ℕ) → i + n ≡ length text → places_from (is_byte2 9 10) text i n ≡ x ∷ rest → Ends text i x × (rest ≡ places_between (is_byte2 9 10) text (x + 1) (length text))
  unfolding places_from
  next_end_from i zero x rest long e = absurd (cc)
  next_end_from i (suc n) x rest long e =
      let later = places_from (is_byte2 9 10) text (i + 1) n in
      ⊎_elim
      (λ yes_is.
      let both : i ∷ later ≡ x ∷ rest = sym (cond-true _ (i ∷ later) later yes_is) ∙ e in
      let same : i ≡ x = cc in
      let left : later ≡ rest = cc in
      let count : n ≡ length text - (i + 1) = omega arith in
      let none : i - i ≡ 0 = omega arith in
      let here : Ends text i i = record {
        low = omega arith;
        high = omega arith;
        plain = rw none (All-nil is_plain);
        ends = yes_is;
      } in
      (subst (Ends text i) same here, sym left ∙ ap (places_from (is_byte2 9 10) text (i + 1)) count ∙ ap (λ k. places_between (is_byte2 9 10) text (k + 1) (length text)) same))
      (λ no_is.
      let found = next_end_from (i + 1) n x rest (omega arith) (sym (cond-false _ (i ∷ later) later no_is) ∙ e) in
      (one_later text i x (omega arith) (plain_byte _ no_is) found.0, found.1))
      (cases_Bool (is_byte2 9 10 (slice_index text i)))

  no_end_from : (i n : ℕ) → i + n ≡ length text → places_from (is_byte2 9 10) text i n ≡ [] → All is_plain (drop i text)
  unfolding places_from
  no_end_from i zero long e = rw (past) (All-nil is_plain)
    where
      past : drop i text ≡ []
      past = drop_of_length-le text (omega arith)
  no_end_from i (suc n) long e =
      let later = places_from (is_byte2 9 10) text (i + 1) n in
      ⊎_elim
      (λ yes_is. absurd (cc))
      (λ no_is.
      let within : i < length text = omega arith in
      let at : drop i text ≡ slice_index text i ∷ drop (i + 1) text = rw add-one (drop-cons text i 0 within) in
      let count : i + 1 + n ≡ length text = omega arith in
      let others = no_end_from (i + 1) n count (sym (cond-false _ (i ∷ later) later no_is) ∙ e) in
      rw at (All-cons is_plain (slice_index text i) (drop (i + 1) text) (plain_byte _ no_is) others))
      (cases_Bool (is_byte2 9 10 (slice_index text i)))

  -- `x` is the first of the remaining places.
  pub next_end : (i x : ℕ) (rest : List ℕ) → i ≤ length text → places_between (is_byte2 9 10) text i (length text) ≡ x ∷ rest → Ends text i x × (rest ≡ places_between (is_byte2 9 10) text (x + 1) (length text))
  next_end i x rest le e = next_end_from i (length text - i) x rest (omega arith) e

  -- No place is left, so the rest of the text has no tab and no line feed.
  pub no_end : (i : ℕ) → i ≤ length text → places_between (is_byte2 9 10) text i (length text) ≡ [] → All is_plain (drop i text)
  no_end i le e = no_end_from i (length text - i) (omega arith) e

  -- The rest of the text is a field, the byte that ends it, and the rest after that.
  pub parted : (i x : ℕ) → Ends text i x → drop i text ≡ take (x - i) (drop i text) ++ slice_index text x ∷ drop (x + 1) text
  parted i x e =
      let there : i + (x - i) ≡ x = omega (arith, e.low) in
      sym (take-append-drop (x - i) (drop i text)) ∙ ap (λ l. take (x - i) (drop i text) ++ l) (drop-drop (x - i) i text ∙ ap (λ k. drop k text) there ∙ rw add-one (drop-cons text x 0 e.high))

-- A byte that ends a field is ASCII.
pub ended_by_ascii : (b : ℕ) → is_byte2 9 10 b ≡ true → b < 128
ended_by_ascii b e = by (b == 9) (b == 10) refl refl e
  where
    by : (t f : Bool) → (b == 9) ≡ t → (b == 10) ≡ f → (t || f) ≡ true → b < 128
    by true f tab feed e = omega (arith, eqb-true b 9 tab)
    by false true tab feed e = omega (arith, eqb-true b 10 feed)
    by false false tab feed e = absurd (cc)

-- A byte that ends a field is a tab if it is no line feed.
pub is_tab : (b : ℕ) → is_byte2 9 10 b ≡ true → (b ≡ 10 → ⊥) → b ≡ 9
is_tab b e other = by (b == 9) (b == 10) refl refl e
  where
    by : (t f : Bool) → (b == 9) ≡ t → (b == 10) ≡ f → (t || f) ≡ true → b ≡ 9
    by true f tab feed e = eqb-true b 9 tab
    by false true tab feed e = absurd (other (eqb-true b 10 feed))
    by false false tab feed e = absurd (cc)
