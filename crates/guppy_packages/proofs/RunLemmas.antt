-- Consecutive texts of a list.
use Rattle.std.proofs.Common.{◌≡◌, ℕ, zero, suc, ◌+◌, ◌<◌, ◌≤◌, List, Some, length, take, drop, get_or, ap, sym, ◌∙◌, arith}
use Rattle.std.specs.Prelude.{slice_get}
use Rattle.std.proofs.lemmas.List.{get_or-drop, get_or-take, length-drop, length-take-le}
use Rattle.std.proofs.lemmas.Option.{get_or_from_slice_get, slice_get-get_or}
use Rattle.guppy_packages.specs.Parts.{first_text}
use Rattle.guppy_packages.specs.Rows.{Text}
use Rattle.guppy_packages.proofs.Lists.{drop_at}

module _ (texts : List Text) (first count : ℕ) (within : first + count ≤ length texts) where
  pub run_long : length (take count (drop first texts)) ≡ count
  run_long = length-take-le count (drop first texts) (omega (arith, length-drop first texts, within))

  pub run_first : (x : Text) → 0 < length (take count (drop first texts)) → slice_get texts first ≡ Some x → x ≡ first_text (take count (drop first texts))
  run_first x some at = go count some
    where
      go : (n : ℕ) → 0 < length (take n (drop first texts)) → x ≡ first_text (take n (drop first texts))
      go zero h = absurd (omega arith)
      go (suc n) h = sym (ap (λ ts. first_text (take (suc n) ts)) (drop_at texts first x at))

  module _ (ix : ℕ) (some : ix < length (drop 1 (take count (drop first texts)))) where
    pub later_within : ix + 1 < count
    later_within = omega (arith, length-drop 1 (take count (drop first texts)), run_long, some)

    pub run_later : (x : Text) → slice_get texts (first + 1 + ix) ≡ Some x → slice_get (drop 1 (take count (drop first texts))) ix ≡ Some x
    run_later x at =
        let next : 1 + ix < count = omega (arith, later_within) in
        let place : first + (1 + ix) ≡ first + 1 + ix = omega arith in
        slice_get-get_or (drop 1 (take count (drop first texts))) ix x some
        ∙ ap Some (get_or-drop 1 (take count (drop first texts)) ix x ∙ get_or-take count (drop first texts) (1 + ix) x next ∙ get_or-drop first texts (1 + ix) x ∙ ap (λ n. get_or texts n x) place ∙ get_or_from_slice_get texts (first + 1 + ix) x x at)
