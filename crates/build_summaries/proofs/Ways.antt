-- Ways from one folder to another.
use Rattle.std.proofs.Common.{ℕ, zero, suc, ◌≡◌, ◌∙◌, ◌+◌, ◌<◌, add-one, ap, arith, cond, length, refl, sym, List, [], ◌∷◌, ◌++◌, Bool, Bor, true, false, drop}
use Rattle.std.specs.Prelude.{codes}
use Rattle.std.proofs.lemmas.List.{append-nil}
use Rattle.build_summaries.specs.Paths.{up, way}
use Rattle.build_summaries.specs.Strings.{Text}
use Rattle.build_summaries.specs.Views.{texts}
use Rattle.build_summaries.specs.inner.Ways.{begin_alike}

alike : (from to : List Text) → begin_alike from to ≡ true → way from to ≡ way (drop 1 from) (drop 1 to)
alike [] to h = absurd (let bad : false ≡ true = h in cc)
alike (a ∷ more) [] h = absurd (let bad : false ≡ true = h in cc)
alike (a ∷ more) (b ∷ rest) h = ap (λ t. cond t (way more rest) (up (a ∷ more) ++ b ∷ rest)) h

apart : (from to : List Text) → begin_alike from to ≡ false → way from to ≡ up from ++ to
apart [] to h = refl
apart (a ∷ more) [] h = sym (append-nil (up (a ∷ more)))
apart (a ∷ more) (b ∷ rest) h = ap (λ t. cond t (way more rest) (up (a ∷ more) ++ b ∷ rest)) h

filled : (from : List (Bor Text)) (to : List Text) → begin_alike (texts from) to ≡ true → 0 < length from
filled [] to h = absurd (let bad : false ≡ true = h in cc)
filled (a ∷ more) to h = omega arith

-- the same of the result of a call
pub way_alike : (from to : List Text) (b : Bool) → b ≡ begin_alike from to → b ≡ true → way from to ≡ way (drop 1 from) (drop 1 to)
way_alike from to b same found = alike from to (sym same ∙ found)

pub way_apart : (from to : List Text) (b : Bool) → b ≡ begin_alike from to → b ≡ false → way from to ≡ up from ++ to
way_apart from to b same found = apart from to (sym same ∙ found)

pub alike_filled : (from : List (Bor Text)) (to : List Text) (b : Bool) → b ≡ begin_alike (texts from) to → b ≡ true → 0 < length from
alike_filled from to b same found = filled from to (sym same ∙ found)

up_suc : (names : List (Bor Text)) (i : ℕ) → i < length names → up (texts (drop i names)) ≡ codes ".." ∷ up (texts (drop (suc i) names))
up_suc [] i below = absurd (omega (arith, below))
up_suc (a ∷ names) zero below = refl
up_suc (a ∷ names) (suc i) below = up_suc names i (omega (arith, below))

-- a way up for the names from a place on
pub up_from : (names : List (Bor Text)) (i : ℕ) → i < length names → up (texts (drop i names)) ≡ codes ".." ∷ up (texts (drop (i + 1) names))
up_from names i below = rw add-one (up_suc names i below)

-- a name that is pushed
pub pushed : (names : List (Bor Text)) (x : Bor Text) (more : List Text) → texts names ++ (x.now ∷ more) ≡ texts (names ++ x ∷ []) ++ more
pushed [] x more = refl
pushed (a ∷ names) x more = ap (λ ts. a.now ∷ ts) (pushed names x more)
