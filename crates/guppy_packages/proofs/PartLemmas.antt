-- Texts that were appended to one another, and the parts of a text.
use Rattle.std.proofs.Common.{◌≡◌, ℕ, zero, suc, ◌+◌, ◌-◌, ◌<◌, ◌≤◌, List, [], ◌∷◌, ◌++◌, Some, length, take, drop, get_or, refl, ap, ap₂, sym, ◌∙◌, subst, append_assoc, arith}
use Rattle.std.specs.Prelude.{slice_get, slice_range}
use Rattle.std.specs.List.{AllByRecursion}
use Rattle.std.specs.Str.{IsCharBoundary, IsUtf8}
use Rattle.std.proofs.Math.Seq.{take-append_seam, drop-append_seam}
use Rattle.std.proofs.lemmas.List.{append-nil, length-append}
use Rattle.std.proofs.lemmas.Str.{IsCharBoundary-at_seam, IsCharBoundary-from_take, IsUtf8-append, IsUtf8-drop, IsUtf8-nil}
use Rattle.guppy_packages.specs.Parts.{AreEnds, parts}
use Rattle.guppy_packages.specs.Rows.{Text}
use Rattle.guppy_packages.specs.inner.Pushed.{IsPushed, ends_from, joined}

joined-push : (xs : List Text) (x : Text) → joined (xs ++ x ∷ []) ≡ joined xs ++ x
joined-push [] x = append-nil x
joined-push (y ∷ ys) x = ap (λ t. y ++ t) (joined-push ys x) ∙ sym (append_assoc y (joined ys) x)

ends_from-push : (from : ℕ) (xs : List Text) (x : Text) → ends_from from (xs ++ x ∷ []) ≡ ends_from from xs ++ (from + length (joined xs ++ x)) ∷ []
ends_from-push from [] x = refl
ends_from-push from (y ∷ ys) x =
    let long : from + length y + length (joined ys ++ x) ≡ from + length ((y ++ joined ys) ++ x) = omega (arith, length-append y (joined ys ++ x), ap length (append_assoc y (joined ys) x)) in
    ap (λ es. (from + length y) ∷ es) (ends_from-push (from + length y) ys x ∙ ap (λ n. ends_from (from + length y) ys ++ n ∷ []) long)

all-push : (P : Text → Type 0) (xs : List Text) (x : Text) → AllByRecursion P xs → P x → AllByRecursion P (xs ++ x ∷ [])
all-push P [] x all h = (h, tt)
all-push P (y ∷ ys) x all h = (all.0, all-push P ys x all.1 h)

-- a text appended to UTF-8 is UTF-8 if the result is
added_utf8 : (old x new : Text) → new ≡ old ++ x → IsUtf8 old → IsUtf8 new → IsUtf8 x
added_utf8 old x new e u v =
    let cut : take (length old) new ≡ old = ap (take (length old)) e ∙ take-append_seam old x in
    let rest : drop (length old) new ≡ x = ap (drop (length old)) e ∙ drop-append_seam old x in
    let within : length old ≤ length new = omega (arith, ap length e, length-append old x) in
    subst IsUtf8 rest (IsUtf8-drop new (length old) v (IsCharBoundary-from_take new (length old) v within (subst IsUtf8 (sym cut) u)))

pub pushed_none : IsPushed [] [] []
pushed_none = record { text = refl; places = refl; utf8 = tt }

pub pushed_more : (texts : List Text) (text : Text) (ends : List ℕ) (x new : Text) → IsPushed texts text ends → new ≡ text ++ x → IsUtf8 text → IsUtf8 new
    → IsPushed (texts ++ x ∷ []) new (ends ++ length new ∷ [])
pushed_more texts text ends x new p e u v =
    let whole : new ≡ joined texts ++ x = e ∙ ap (λ t. t ++ x) p.text in
    let last : length new ≡ 0 + length (joined texts ++ x) = omega (arith, ap length whole) in
    record {
      text = whole ∙ sym (joined-push texts x);
      places = ap₂ (λ es n. es ++ n ∷ []) p.places last ∙ sym (ends_from-push 0 texts x);
      utf8 = all-push IsUtf8 texts x p.utf8 (added_utf8 text x new e u v);
    }

joined_utf8 : (xs : List Text) → AllByRecursion IsUtf8 xs → IsUtf8 (joined xs)
joined_utf8 [] all = IsUtf8-nil
joined_utf8 (x ∷ xs) all = IsUtf8-append x (joined xs) all.0 (joined_utf8 xs all.1)

-- the joined texts are the parts that end at their ends
joined_parts : (old : Text) (xs : List Text) (new : Text) → new ≡ old ++ joined xs → AllByRecursion IsUtf8 xs
    → AreEnds (length old) (ends_from (length old) xs) new × (parts (length old) (ends_from (length old) xs) new ≡ xs)
joined_parts old [] new e all = (tt, refl)
joined_parts old (x ∷ xs) new e all =
    let longer : new ≡ (old ++ x) ++ joined xs = e ∙ sym (append_assoc old x (joined xs)) in
    let end : length (old ++ x) ≡ length old + length x = length-append old x in
    let more = joined_parts (old ++ x) xs new longer all.1 in
    let cut : IsCharBoundary new (length (old ++ x)) = IsCharBoundary-at_seam new (old ++ x) (joined xs) longer (joined_utf8 xs all.1) in
    let rest : drop (length old) new ≡ x ++ joined xs = ap (drop (length old)) e ∙ drop-append_seam old (x ++ joined xs) in
    let room : length old + length x - length old ≡ length x = omega arith in
    let part : slice_range new (length old) (length old + length x) ≡ x = ap₂ take room rest ∙ take-append_seam x (joined xs) in
    let ascend : length old ≤ length old + length x = omega arith in (
      (ascend, subst (IsCharBoundary new) end cut, subst (λ n. AreEnds n (ends_from n xs) new) end more.0),
      ap₂ (λ t ts. t ∷ ts) part (subst (λ n. parts n (ends_from n xs) new ≡ xs) end more.1),
    )

-- the part at an index, and the boundaries at its ends
pub record IsPart (all : List Text) (text : Text) (ix start end : ℕ) : Type 0 where
  pub part : slice_get all ix ≡ Some (slice_range text start end)
  pub ascends : start ≤ end
  pub start_cut : IsCharBoundary text start
  pub end_cut : IsCharBoundary text end

pub part_at : (from : ℕ) (ends : List ℕ) (text : Text) (ix : ℕ) → ix < length ends → IsCharBoundary text from → AreEnds from ends text
    → IsPart (parts from ends text) text ix (get_or (from ∷ ends) ix 0) (get_or ends ix 0)
part_at from [] text ix h first cut = absurd (omega arith)
part_at from (e ∷ ends) text zero h first cut = record { part = refl; ascends = cut.0; start_cut = first; end_cut = cut.1 }
part_at from (e ∷ ends) text (suc ix) h first cut = let more = part_at e ends text ix (omega arith) cut.1 cut.2 in record { part = more.part; ascends = more.ascends; start_cut = more.start_cut; end_cut = more.end_cut }

pub length-parts : (from : ℕ) (ends : List ℕ) (text : Text) → length (parts from ends text) ≡ length ends
length-parts from [] text = refl
length-parts from (end ∷ ends) text = ap suc (length-parts end ends text)

-- texts that were appended to one another are the parts of the resulting text
pub pushed_parts : (texts : List Text) (text : Text) (ends : List ℕ) → IsPushed texts text ends → AreEnds 0 ends text × (parts 0 ends text ≡ texts)
pushed_parts texts text ends p =
    let all = joined_parts [] texts text p.text p.utf8 in
    rw p.places all
