-- Entries and parts that are appended.
use Rattle.std.proofs.Common.{◌≡◌, ℕ, ◌<◌, List, ◌++◌, length, map, get_or, Some, Result, Ok, Err, OnOk, arith, refl, ap, ◌∙◌, append_assoc}
use Rattle.std.specs.Prelude.{slice_get}
use Rattle.std.specs.Option.{option_map}
use Rattle.std.proofs.lemmas.List.{length-map}
use Rattle.std.proofs.lemmas.Option.{slice_get-map, slice_get_read}
use Rattle.feature_graph_c.proofs.EntryLemmas.{entry_of}

-- An element of a list, seen by two functions, is an entry.
pub two_maps : {X Y : Type 0} (f : Y → List ℕ) (g : X → Y) (xs : List X) (i : ℕ) (x : X) → i < length (map f (map g xs)) → x ≡ get_or xs i x → slice_get (map f (map g xs)) i ≡ Some (f (g x))
two_maps f g xs i x h is =
    let within : i < length xs = omega (arith, h, length-map (map g xs) f, length-map xs g) in
    entry_of f (map g xs) i (g x) (slice_get-map g xs i ∙ ap (option_map g) (slice_get_read xs (length xs) i x refl within is))

-- An entry is appended.
pub entry_pushed : {A E : Type 0} (r : Result A E) (es : List (List ℕ)) (i : ℕ) (d e before after : List ℕ) → slice_get es i ≡ Some e → d ≡ e → OnOk r (after ≡ before ++ d)
    → OnOk r ((x : List ℕ) × (slice_get es i ≡ Some x) × (after ≡ before ++ x))
entry_pushed (Ok a) es i d e before after is same h = (e, is, h ∙ ap (λ z. before ++ z) same)
entry_pushed (Err a) es i d e before after is same h = tt

-- Two parts are appended.
pub pushed_two : {A E : Type 0} (r : Result A E) (old m after a b all : List ℕ) → m ≡ old ++ a → OnOk r (after ≡ m ++ b) → a ++ b ≡ all → OnOk r (after ≡ old ++ all)
pushed_two (Ok x) old m after a b all first second whole = second ∙ ap (λ z. z ++ b) first ∙ append_assoc old a b ∙ ap (λ z. old ++ z) whole
pushed_two (Err x) old m after a b all first second whole = tt

-- Four parts are appended.
pub pushed_four : {A E : Type 0} (r : Result A E) (old m1 m2 m3 after a b c d all : List ℕ) → m1 ≡ old ++ a → m2 ≡ m1 ++ b → m3 ≡ m2 ++ c → OnOk r (after ≡ m3 ++ d) → a ++ b ++ c ++ d ≡ all → OnOk r (after ≡ old ++ all)
pushed_four (Ok x) old m1 m2 m3 after a b c d all e1 e2 e3 e4 whole =
    e4 ∙ ap (λ z. z ++ d) e3 ∙ ap (λ z. z ++ c ++ d) e2 ∙ ap (λ z. z ++ b ++ c ++ d) e1
    ∙ ap (λ z. z ++ c ++ d) (append_assoc old a b) ∙ ap (λ z. z ++ d) (append_assoc old (a ++ b) c) ∙ append_assoc old (a ++ b ++ c) d ∙ ap (λ z. old ++ z) whole
pushed_four (Err x) old m1 m2 m3 after a b c d all e1 e2 e3 e4 whole = tt

-- Five parts are appended, and all of them are as is said.
pub pushed_five : {A E : Type 0} (Is : List ℕ → Type 0) (r : Result A E) (old m1 m2 m3 m4 after a b c d e : List ℕ) → m1 ≡ old ++ a → m2 ≡ m1 ++ b → m3 ≡ m2 ++ c → m4 ≡ m3 ++ d → OnOk r (after ≡ m4 ++ e) → Is (a ++ b ++ c ++ d ++ e)
    → OnOk r ((all : List ℕ) × Is all × (after ≡ old ++ all))
pushed_five Is (Ok x) old m1 m2 m3 m4 after a b c d e e1 e2 e3 e4 e5 is = (
  a ++ b ++ c ++ d ++ e,
  is,
  e5 ∙ ap (λ z. z ++ e) e4 ∙ ap (λ z. z ++ d ++ e) e3 ∙ ap (λ z. z ++ c ++ d ++ e) e2 ∙ ap (λ z. z ++ b ++ c ++ d ++ e) e1
      ∙ ap (λ z. z ++ c ++ d ++ e) (append_assoc old a b) ∙ ap (λ z. z ++ d ++ e) (append_assoc old (a ++ b) c) ∙ ap (λ z. z ++ e) (append_assoc old (a ++ b ++ c) d) ∙ append_assoc old (a ++ b ++ c ++ d) e,
)
pushed_five Is (Err x) old m1 m2 m3 m4 after a b c d e e1 e2 e3 e4 e5 is = tt
