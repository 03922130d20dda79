-- The ways that lead to a node are those that start there in reverse.
use Rattle.std.proofs.Common.{◌≡◌, ◌∙◌, ℕ, zero, suc, ◌+◌, ◌≤◌, Bool, true, false, ◌&&◌, List, [], ◌∷◌, ◌++◌, Option, Some, None, length, drop, append_assoc, refl, ap, sym, subst, arith}
use Rattle.std.specs.Prelude.{slice_get, ◌==◌, if◌then◌else◌}
use Rattle.std.proofs.lemmas.List.{append-nil, drop_all}
use Rattle.std.proofs.lemmas.Option.{none-some}
use Rattle.guppy_packages.proofs.Lists.{drop_at}
use Rattle.cargo_plans.specs.plan_starts.Lists.{joined_from}
use Rattle.walk_checks.proofs.Exactness.{starts_at}
use Rattle.walk_engine.specs.Laws.{AreReverse}
use Rattle.walk_engine.specs.Walks.{Content, IsWay, Way, numbers_where, starting}
use Rattle.walk_engine.specs.declared.walks.StepReason.{StepReason}
use Rattle.plan_whys.specs.Reasons.{all_reasons, reasons_by, reasons_of}

-- The list by way `e`, if there is one.
abbrev pub by_way : {Y : Type 0} → (ℕ → Way → List Y) → ℕ → Option Way → List Y
by_way f e None = []
by_way f e (Some w) = f e w

-- The list by the ways with these numbers.
abbrev pub joined_at : {Y : Type 0} → (ℕ → Way → List Y) → List Way → List ℕ → List Y
joined_at f ws [] = []
joined_at f ws (e ∷ es) = by_way f e (slice_get ws e) ++ joined_at f ws es

-- the list by all ways, if it's that by the ways that pass
module _ {Y : Type 0} (f : ℕ → Way → List Y) (p : Way → Bool) (none : (e : ℕ) (w : Way) → p w ≡ false → f e w ≡ []) (all : List Way) where
  one_more : (k : ℕ) (w : Way) (ws : List Way) → slice_get all k ≡ Some w → joined_at f all (numbers_where p (suc k) ws) ≡ joined_from f (k + 1) ws
      → (b : Bool) → p w ≡ b → joined_at f all (if b then k ∷ numbers_where p (suc k) ws else numbers_where p (suc k) ws) ≡ f k w ++ joined_from f (k + 1) ws
  one_more k w ws here later true is = ap (λ o. by_way f k o ++ joined_at f all (numbers_where p (suc k) ws)) here ∙ ap (λ l. f k w ++ l) later
  one_more k w ws here later false is = later ∙ ap (λ l. l ++ joined_from f (k + 1) ws) (sym (none k w is))

  pub joined_where : (k : ℕ) (ws : List Way) → ((i : ℕ) (w : Way) → slice_get ws i ≡ Some w → slice_get all (k + i) ≡ Some w) → joined_at f all (numbers_where p k ws) ≡ joined_from f k ws
  joined_where k [] are = refl
  joined_where k (w ∷ ws) are =
      let next : suc k ≡ k + 1 = omega arith in
      let here : slice_get all k ≡ Some w = subst (λ e. slice_get all e ≡ Some w) (omega arith) (are 0 w refl) in
      let later : joined_at f all (numbers_where p (suc k) ws) ≡ joined_from f (k + 1) ws =
      joined_where (suc k) ws (λ i v at. subst (λ e. slice_get all e ≡ Some v) (omega arith) (are (suc i) v at)) ∙ ap (λ m. joined_from f m ws) next in
      one_more k w ws here later (p w) refl

-- the same numbers in both directions
abbrev AreTurned : List Way → List Way → Type 0
AreTurned ws vs = (e : ℕ) (w : Way) → slice_get ws e ≡ Some w → (v : Way) × (slice_get vs e ≡ Some v) × (v.start ≡ w.far) × (v.far ≡ w.start)

start_is : (v u : Way) (n : ℕ) → Some v ≡ Some u → u.start ≡ n → v.start ≡ n
start_is v u n same is = let one : v ≡ u = cc in ap (λ (x : Way). x.start) one ∙ is

leading : (n k : ℕ) (ws vs : List Way) → AreTurned ws vs → AreTurned vs ws → numbers_where (λ v. v.start == n) k vs ≡ numbers_where (λ w. w.far == n) k ws
leading n k [] [] forth back = refl
leading n k [] (v ∷ vs) forth back = let u = back 0 v refl in absurd (none-some u.0 u.1)
leading n k (w ∷ ws) [] forth back = let u = forth 0 w refl in absurd (none-some u.0 u.1)
leading n k (w ∷ ws) (v ∷ vs) forth back =
    let u = forth 0 w refl in
    let rest : List ℕ = numbers_where (λ x. x.start == n) (suc k) vs in
    ap (λ (m : ℕ). if m == n then k ∷ rest else rest) (start_is v u.0 w.far u.1 u.2)
    ∙ ap (λ (l : List ℕ). if w.far == n then k ∷ l else l) (leading n (suc k) ws vs (λ e x at. forth (suc e) x at) (λ e x at. back (suc e) x at))

-- the reasons by the edges that start at the node in reverse are those by all ways
pub reasons_back : (c d : Content) (M : ℕ → Bool) (n : ℕ) → AreReverse c d → joined_at (reasons_by M n) c.ways (starting d n) ≡ all_reasons c M n
reasons_back c d M n reverse =
    ap (joined_at (reasons_by M n) c.ways) (leading n 0 c.ways d.ways reverse.forth reverse.back)
    ∙ joined_where (reasons_by M n) (λ w. w.far == n) (λ e w off. ap (λ (t : Bool). if t && M w.start then reasons_of e w.ask (M w.gate) else []) off) c.ways
    0 c.ways (λ i w at. subst (λ e. slice_get c.ways e ≡ Some w) (omega arith) at)

-- the list by the numbers before `place`, and that by the others
pub number_step : (c d : Content) (f : ℕ → Way → List StepReason) (n place number : ℕ) (old new : List StepReason) → AreReverse c d → slice_get (starting d n) place ≡ Some number
    → ((w : Way) → IsWay c number w → new ≡ old ++ f number w) → new ++ joined_at f c.ways (drop (place + 1) (starting d n)) ≡ old ++ joined_at f c.ways (drop place (starting d n))
number_step c d f n place number old new reverse at more =
    let v = starts_at d n place number at in
    let w = reverse.back number v.0 v.1 in
    let rest = joined_at f c.ways (drop (place + 1) (starting d n)) in
    ap (λ l. l ++ rest) (more w.0 w.1)
    ∙ append_assoc old (f number w.0) rest
    ∙ ap (λ o. old ++ (by_way f number o ++ rest)) (sym w.1)
    ∙ ap (λ l. old ++ joined_at f c.ways l) (sym (drop_at (starting d n) place number at))

-- nothing is left past the last number
none_left : {X : Type 0} (xs : List X) (i : ℕ) → slice_get xs i ≡ None → drop i xs ≡ []
none_left [] i past = drop_all i [] (omega arith)
none_left (x ∷ xs) zero past = absurd (none-some x (sym past))
none_left (x ∷ xs) (suc i) past = none_left xs i past

fewer : (p : Way → Bool) (k : ℕ) (ws : List Way) → length (numbers_where p k ws) ≤ length ws
fewer p k [] = omega arith
fewer p k (w ∷ ws) = go (p w) (fewer p (suc k) ws)
  where
    go : (b : Bool) → length (numbers_where p (suc k) ws) ≤ length ws → length (if b then k ∷ numbers_where p (suc k) ws else numbers_where p (suc k) ws) ≤ length (w ∷ ws)
    go true h = omega (arith, h)
    go false h = omega (arith, h)

whole : (f : ℕ → Way → List StepReason) (ws : List Way) (left : List ℕ) (found all : List StepReason) → left ≡ [] → found ++ joined_at f ws left ≡ all → found ≡ all
whole f ws left found all none is = sym (append-nil found) ∙ ap (λ l. found ++ joined_at f ws l) (sym none) ∙ is

pub whole_past : (c d : Content) (f : ℕ → Way → List StepReason) (n place : ℕ) (found all : List StepReason) → slice_get (starting d n) place ≡ None → found ++ joined_at f c.ways (drop place (starting d n)) ≡ all → found ≡ all
whole_past c d f n place found all past is = whole f c.ways (drop place (starting d n)) found all (none_left (starting d n) place past) is

pub whole_at : (c d : Content) (f : ℕ → Way → List StepReason) (n place : ℕ) (found all : List StepReason) → length d.ways ≤ place → found ++ joined_at f c.ways (drop place (starting d n)) ≡ all → found ≡ all
whole_at c d f n place found all past is =
    let few : length (starting d n) ≤ length d.ways = fewer (λ v. v.start == n) 0 d.ways in
    whole f c.ways (drop place (starting d n)) found all (drop_all place (starting d n) (omega (arith, past, few))) is
