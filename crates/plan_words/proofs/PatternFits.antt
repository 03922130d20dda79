-- Texts that fit patterns.
use Rattle.std.proofs.Common.{◌≡◌, ◌≢◌, ℕ, zero, suc, ◌+◌, ◌-◌, ◌<◌, ◌≤◌, ⊎_elim, inl, inr, [], ◌∷◌, ◌++◌, ◌⊎◌, Bool, true, false, cond, ◌||◌, ◌&&◌, length, drop, get_or, refl, ap, sym, ◌∙◌, arith, eqb}
use Rattle.std.specs.Prelude.{nat_eq}
use Rattle.std.specs.List.{list_any, ends_with}
use Rattle.std.specs.Str.{bytes_eq}
use Rattle.std.specs.Cmp.Lexicographic.{bytes_decides}
use Rattle.std.proofs.lemmas.Bool.{eqb-true, eq-eqb, cases_lt}
use Rattle.std.proofs.lemmas.List.{length-drop}
use Rattle.std.proofs.Math.Seq.{drop-append_seam, drop-nil}
use Rattle.cargo_workspaces.specs.Workspaces.{Text}
use Rattle.plan_words.specs.Patterns.{begins_and, ends_of, fits, is_star}

pub never : false ≡ true → ⊥
never e = cc

pub false_of : (b : Bool) → (b ≡ true → ⊥) → b ≡ false
false_of true h = absurd (h refl)
false_of false h = refl

pub same_tests : (a b : Bool) → (a ≡ true → b ≡ true) → (b ≡ true → a ≡ true) → a ≡ b
same_tests true b h k = sym (h refl)
same_tests false true h k = k refl
same_tests false false h k = refl

pub or_right : (a b : Bool) → b ≡ true → (a || b) ≡ true
or_right true b h = refl
or_right false b h = h

pub or_left : (a b : Bool) → a ≡ true → (a || b) ≡ true
or_left true b h = refl
or_left false b h = absurd (never h)

abbrev pub NoStar : Text → Type 0
NoStar front = (i : ℕ) → i < length front → get_or front i 0 ≢ 42

no_star_tail : (c : ℕ) (cs : Text) → NoStar (c ∷ cs) → NoStar cs
no_star_tail c cs h i within = h (suc i) (omega arith)

no_star_head : (c : ℕ) (cs : Text) → NoStar (c ∷ cs) → is_star c ≡ false
no_star_head c cs h = false_of (is_star c) (λ e. h 0 (omega arith) (eqb-true c 42 e))

end_at : (test : Text → Bool) (text : Text) (k : ℕ) → k ≤ length text → test (drop k text) ≡ true → list_any test (ends_of text) ≡ true
end_at test [] zero h e = or_left (test []) false e
end_at test [] (suc k) h e = absurd (omega (arith, h))
end_at test (c ∷ text) zero h e = or_left (test (c ∷ text)) _ e
end_at test (c ∷ text) (suc k) h e = or_right (test (c ∷ text)) _ (end_at test text k (omega (arith, h)) e)

abbrev IsEnd : (Text → Bool) → Text → Type 0
IsEnd test text = (k : ℕ) × (k ≤ length text) × (test (drop k text) ≡ true)

the_end : (test : Text → Bool) (text : Text) → list_any test (ends_of text) ≡ true → IsEnd test text
the_end test [] e = go (test []) refl e
  where
    go : (b : Bool) → test [] ≡ b → (b || false) ≡ true → IsEnd test []
    go true is h = (0, omega arith, is)
    go false is h = absurd (never h)
the_end test (c ∷ text) e = go (test (c ∷ text)) refl e (λ h. the_end test text h)
  where
    go : (b : Bool) → test (c ∷ text) ≡ b → (b || list_any test (ends_of text)) ≡ true → (list_any test (ends_of text) ≡ true → IsEnd test text) → IsEnd test (c ∷ text)
    go true is h k = (0, omega arith, is)
    go false is h k = let more = k h in (suc more.0, omega (arith, more.1), more.2)

-- an end of an end is an end
end_of_end : (test : Text → Bool) (text : Text) (m : ℕ) → list_any test (ends_of (drop m text)) ≡ true → list_any test (ends_of text) ≡ true
end_of_end test text zero e = e
end_of_end test [] (suc m) e = e
end_of_end test (c ∷ text) (suc m) e = or_right (test (c ∷ text)) _ (end_of_end test text m e)

eqb_same : (c : ℕ) → eqb c c ≡ true
eqb_same c = eq-eqb c c refl

eqb_flip : (a b : ℕ) → eqb a b ≡ eqb b a
eqb_flip a b = same_tests (eqb a b) (eqb b a) (λ e. eq-eqb b a (sym (eqb-true a b e))) (λ e. eq-eqb a b (sym (eqb-true b a e)))

-- a pattern without a star fits itself alone
pub fits_plain : (pattern text : Text) → NoStar pattern → fits pattern text ≡ bytes_eq pattern text
fits_plain [] [] h = refl
fits_plain [] (b ∷ text) h = refl
fits_plain (c ∷ pattern) [] h = rw (no_star_head c pattern h) refl
fits_plain (c ∷ pattern) (b ∷ text) h =
    let plain : fits (c ∷ pattern) (b ∷ text) ≡ (eqb b c && fits pattern text) = ap (λ t. cond t (list_any (fits pattern) (ends_of (b ∷ text))) (begins_and c (fits pattern) (b ∷ text))) (no_star_head c pattern h) in
    plain ∙ ap (λ t. t && fits pattern text) (eqb_flip b c) ∙ ap (λ t. eqb c b && t) (fits_plain pattern text (no_star_tail c pattern h))

one_step : (c b : ℕ) (pattern text : Text) → is_star c ≡ false → fits (c ∷ pattern) (b ∷ text) ≡ (eqb b c && fits pattern text)
one_step c b pattern text h = ap (λ t. cond t (list_any (fits pattern) (ends_of (b ∷ text))) (begins_and c (fits pattern) (b ∷ text))) h

-- what is before the first star is the beginning of the text
pub fits_front : (front rest tail : Text) → NoStar front → fits (front ++ 42 ∷ rest) (front ++ tail) ≡ list_any (fits rest) (ends_of tail)
fits_front [] rest tail h = refl
fits_front (c ∷ front) rest tail h =
    one_step c c (front ++ 42 ∷ rest) (front ++ tail) (no_star_head c front h)
    ∙ ap (λ t. t && fits (front ++ 42 ∷ rest) (front ++ tail)) (eqb_same c)
    ∙ fits_front front rest tail (no_star_tail c front h)

pub fits_apart : (front rest text : Text) → NoStar front → ((tail : Text) → text ≢ front ++ tail) → fits (front ++ 42 ∷ rest) text ≡ false
fits_apart [] rest text h k = absurd (k text refl)
fits_apart (c ∷ front) rest [] h k = rw (no_star_head c front h) refl
fits_apart (c ∷ front) rest (b ∷ text) h k = one_step c b (front ++ 42 ∷ rest) text (no_star_head c front h) ∙ go (eqb b c) refl (λ more. fits_apart front rest text (no_star_tail c front h) more)
  where
    go : (t : Bool) → eqb b c ≡ t → (((tail : Text) → text ≢ front ++ tail) → fits (front ++ 42 ∷ rest) text ≡ false) → (t && fits (front ++ 42 ∷ rest) text) ≡ false
    go true e inner = inner (λ tail is. k tail (ap (λ x. x ∷ text) (eqb-true b c e) ∙ ap (λ t. c ∷ t) is))
    go false e inner = refl

-- a text begins with another or doesn't
begins : (front text : Text) → ((tail : Text) × (text ≡ front ++ tail)) ⊎ ((tail : Text) → text ≢ front ++ tail)
begins [] text = inl (text, refl)
begins (c ∷ front) [] = inr (λ tail e. cc)
begins (c ∷ front) (b ∷ text) = go (eqb b c) refl (begins front text)
  where
    go : (t : Bool) → eqb b c ≡ t → ((tail : Text) × (text ≡ front ++ tail)) ⊎ ((tail : Text) → text ≢ front ++ tail) → ((tail : Text) × (b ∷ text ≡ c ∷ front ++ tail)) ⊎ ((tail : Text) → b ∷ text ≢ c ∷ front ++ tail)
    go true e (inl found) = inl (found.0, ap (λ x. x ∷ text) (eqb-true b c e) ∙ ap (λ t. c ∷ t) found.1)
    go true e (inr none) = inr (λ tail is. none tail cc)
    go false e other = inr (λ tail is. never (sym e ∙ eq-eqb b c cc))

drop_twice : (i m : ℕ) (text : Text) → drop m (drop i text) ≡ drop (i + m) text
drop_twice zero m text = let place : m ≡ 0 + m = omega arith in ap (λ k. drop k text) place
drop_twice (suc i) m [] = drop-nil m ∙ sym (drop-nil (suc i + m))
drop_twice (suc i) m (c ∷ text) = let place : suc (i + m) ≡ suc i + m = omega arith in drop_twice i m text ∙ ap (λ k. drop k (c ∷ text)) place

-- where a text fits what comes before a star, one of the ends that follow fits the rest
fit_with : (front rest text : Text) → NoStar front → fits (front ++ 42 ∷ rest) text ≡ true → (tail : Text) × (text ≡ front ++ tail) × (list_any (fits rest) (ends_of tail) ≡ true)
fit_with front rest text h e = go (begins front text)
  where
    go : ((tail : Text) × (text ≡ front ++ tail)) ⊎ ((tail : Text) → text ≢ front ++ tail) → (tail : Text) × (text ≡ front ++ tail) × (list_any (fits rest) (ends_of tail) ≡ true)
    go (inl found) = (found.0, found.1, sym (fits_front front rest found.0 h) ∙ ap (fits (front ++ 42 ∷ rest)) (sym found.1) ∙ e)
    go (inr none) = absurd (never (sym (fits_apart front rest text h none) ∙ e))

-- what is after the first place of a part contains what is after any of its places
pub after_first_place : (front rest text : Text) (i j : ℕ) → NoStar front → ((k : ℕ) → k < i → (tail : Text) → drop k text ≢ front ++ tail) → drop i text ≡ front ++ drop j text → j ≡ i + length front → i ≤ length text
    → list_any (fits (front ++ 42 ∷ rest)) (ends_of text) ≡ list_any (fits rest) (ends_of (drop j text))
after_first_place front rest text i j h first at ends within = same_tests _ _ ahead back
  where
    back : list_any (fits rest) (ends_of (drop j text)) ≡ true → list_any (fits (front ++ 42 ∷ rest)) (ends_of text) ≡ true
    back e = end_at (fits (front ++ 42 ∷ rest)) text i within (ap (fits (front ++ 42 ∷ rest)) at ∙ fits_front front rest (drop j text) h ∙ e)

    later : (k : ℕ) (tail : Text) → drop k text ≡ front ++ tail → i ≤ k → tail ≡ drop (k - i) (drop j text)
    later k tail is more =
        let place : k + length front ≡ j + (k - i) = omega (arith, ends, more) in
        sym (drop-append_seam front tail) ∙ ap (drop (length front)) (sym is) ∙ drop_twice k (length front) text ∙ ap (λ n. drop n text) place ∙ sym (drop_twice j (k - i) text)

    ahead : list_any (fits (front ++ 42 ∷ rest)) (ends_of text) ≡ true → list_any (fits rest) (ends_of (drop j text)) ≡ true
    ahead e =
        let found = the_end (fits (front ++ 42 ∷ rest)) text e in
        let fit = fit_with front rest (drop found.0 text) h found.2 in
        ⊎_elim (λ (l : found.0 < i). absurd (first found.0 l fit.0 fit.1))
        (λ (m : i ≤ found.0). end_of_end (fits rest) (drop j text) (found.0 - i) (ap (λ t. list_any (fits rest) (ends_of t)) (sym (later found.0 fit.0 fit.1 m)) ∙ fit.2))
        (cases_lt found.0 i)

-- a part that has no place
pub without_place : (front rest text : Text) → NoStar front → ((k : ℕ) → k ≤ length text → (tail : Text) → drop k text ≢ front ++ tail) → list_any (fits (front ++ 42 ∷ rest)) (ends_of text) ≡ false
without_place front rest text h none = false_of _ (λ e. let found = the_end (fits (front ++ 42 ∷ rest)) text e in let fit = fit_with front rest (drop found.0 text) h found.2 in none found.0 found.1 fit.0 fit.1)

-- a last part is the end of the text
pub last_part : (pattern text : Text) → NoStar pattern → list_any (fits pattern) (ends_of text) ≡ ends_with nat_eq text pattern
last_part pattern text h = same_tests _ _ ahead back
  where
    back : ends_with nat_eq text pattern ≡ true → list_any (fits pattern) (ends_of text) ≡ true
    back e = end_at (fits pattern) text (length text - length pattern) (omega arith) (fits_plain pattern (drop (length text - length pattern) text) h ∙ e)

    ahead : list_any (fits pattern) (ends_of text) ≡ true → ends_with nat_eq text pattern ≡ true
    ahead e =
        let found = the_end (fits pattern) text e in
        let same : bytes_eq pattern (drop found.0 text) ≡ true = sym (fits_plain pattern (drop found.0 text) h) ∙ found.2 in
        let is : pattern ≡ drop found.0 text = (bytes_decides pattern (drop found.0 text)).0 same in
        let long : length pattern ≡ length text - found.0 = ap (λ (t : Text). length t) is ∙ length-drop found.0 text in
        let place : found.0 ≡ length text - length pattern = omega (arith, long, found.1) in
        ap (λ n. bytes_eq pattern (drop n text)) (sym place) ∙ same
