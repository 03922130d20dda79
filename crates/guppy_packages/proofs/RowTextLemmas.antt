-- Texts of rows, in one list. `f` gives those of a row.
use Rattle.std.proofs.Common.{◌≡◌, ℕ, ◌+◌, ◌<◌, List, [], ◌∷◌, ◌++◌, length, take, drop, ap, sym, ◌∙◌, arith}
use Rattle.std.proofs.Math.Seq.{take-append_seam, drop-append_seam}
use Rattle.std.specs.List.{flat_map}
use Rattle.std.proofs.lemmas.Grind.{flat_map-append}
use Rattle.std.proofs.lemmas.List.{append-nil, length-append, take-append-drop}
use Rattle.guppy_packages.specs.Rows.{RowText, Text}
use Rattle.guppy_packages.specs.inner.RowTexts.{AreAt}
use Rattle.guppy_packages.proofs.Passes.{take-next}

-- the texts of one row more
pub stored-push : (f : RowText → List Text) (rows : List RowText) (row : RowText) → flat_map f (rows ++ row ∷ []) ≡ flat_map f rows ++ f row
stored-push f rows row = flat_map-append f rows (row ∷ []) ∙ ap (λ ts. flat_map f rows ++ ts) (append-nil (f row))

-- a row of all rows, at index i
module _ (f : RowText → List Text) (all : List RowText) (i : ℕ) (row : RowText) (at : drop i all ≡ row ∷ drop (i + 1) all) where
  parted : flat_map f all ≡ flat_map f (take i all) ++ (f row ++ flat_map f (drop (i + 1) all))
  parted = ap (flat_map f) (sym (take-append-drop i all) ∙ ap (λ l. take i all ++ l) at) ∙ flat_map-append f (take i all) (row ∷ drop (i + 1) all)

  pub stored-next : i < length all → flat_map f (take (i + 1) all) ≡ flat_map f (take i all) ++ f row
  stored-next within = ap (flat_map f) (take-next all i row within at) ∙ stored-push f (take i all) row

  -- the texts of the next row follow
  pub next_at : i < length all → (first next : ℕ) → first ≡ length (flat_map f (take i all)) → next ≡ first + length (f row) → next ≡ length (flat_map f (take (i + 1) all))
  next_at within first next p q = omega (arith, p, q, ap length (stored-next within), length-append (flat_map f (take i all)) (f row))

  pub row_at : (texts : List Text) → texts ≡ flat_map f all → AreAt texts (length (flat_map f (take i all))) (f row)
  row_at texts e =
      let before = flat_map f (take i all) in
      let rest = f row ++ flat_map f (drop (i + 1) all) in
      let long : length (flat_map f all) ≡ length before + (length (f row) + length (flat_map f (drop (i + 1) all))) = ap length parted ∙ length-append before rest ∙ ap (λ n. length before + n) (length-append (f row) (flat_map f (drop (i + 1) all))) in
      let left : drop (length before) texts ≡ rest = ap (drop (length before)) (e ∙ parted) ∙ drop-append_seam before rest in
      record {
        within = omega (arith, long, ap length e);
        are = ap (take (length (f row))) left ∙ take-append_seam (f row) (flat_map f (drop (i + 1) all));
      }
