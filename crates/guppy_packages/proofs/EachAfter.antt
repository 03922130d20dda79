-- The results of a function for each row and the rows before it.
use Rattle.std.proofs.Common.{◌≡◌, ◌+◌, List, [], ◌∷◌, ◌++◌, Option, None, Some, length, take, refl, ap, sym, ◌∙◌, append_assoc, length-append}
use Rattle.std.proofs.lemmas.List.{append-nil}
use Rattle.std.specs.List.{cons_option, filter_map, enumerate_from}
use Rattle.std.proofs.Math.Seq.{take-append_seam}
use Rattle.guppy_packages.specs.Rows.{RowText}
use Rattle.guppy_packages.specs.Graph.{each_after}

module _ {X : Type 0} (f : List RowText → RowText → Option X) where
  -- the same, row by row
  abbrev pub after : List RowText → List RowText → List X
  after before [] = []
  after before (row ∷ rows) = cons_option (f before row) (after (before ++ row ∷ []) rows)

  pub each_after-from : (before rows : List RowText) → filter_map (λ p. f (take p.0 (before ++ rows)) p.1) (enumerate_from (length before) rows) ≡ after before rows
  each_after-from before [] = refl
  each_after-from before (row ∷ rows) =
      let here : f (take (length before) (before ++ row ∷ rows)) row ≡ f before row = ap (λ b. f b row) (take-append_seam before (row ∷ rows)) in
      let more : filter_map (λ p. f (take p.0 (before ++ row ∷ rows)) p.1) (enumerate_from (length before + 1) rows) ≡ after (before ++ row ∷ []) rows =
      rw (← append_assoc before (row ∷ []) rows, ← length-append before (row ∷ [])) (each_after-from (before ++ row ∷ []) rows) in
      rw (here, more)

  pub each_after-is : (rows : List RowText) → each_after f rows ≡ after [] rows
  each_after-is rows = each_after-from [] rows

  pub cons_option-append : (o : Option X) (xs ys : List X) → cons_option o xs ++ ys ≡ cons_option o (xs ++ ys)
  cons_option-append None xs ys = refl
  cons_option-append (Some x) xs ys = refl

  pub after-append : (before xs ys : List RowText) → after before (xs ++ ys) ≡ after before xs ++ after (before ++ xs) ys
  after-append before [] ys = ap (λ b. after b ys) (sym (append-nil before))
  after-append before (x ∷ xs) ys =
      rw (after-append (before ++ x ∷ []) xs ys, append_assoc before (x ∷ []) xs) (sym (cons_option-append (f before x) (after (before ++ x ∷ []) xs) (after (before ++ x ∷ xs) ys)))

  -- further rows add results at the end
  pub each_after-append : (xs ys : List RowText) → each_after f (xs ++ ys) ≡ each_after f xs ++ after xs ys
  each_after-append xs ys = each_after-is (xs ++ ys) ∙ after-append [] xs ys ∙ ap (λ l. l ++ after xs ys) (sym (each_after-is xs))

  -- one more row
  pub each_after-push : (xs : List RowText) (row : RowText) → each_after f (xs ++ row ∷ []) ≡ each_after f xs ++ cons_option (f xs row) []
  each_after-push xs row = each_after-append xs (row ∷ [])
