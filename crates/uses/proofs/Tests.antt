-- Visitors whose answer is a test of the link.
use Rattle.std.proofs.Common.{◌≡◌, ◌∙◌, ◌+◌, ◌-◌, ◌^◌, ◌≤◌, ℕ, Bool, ◌||◌, List, [], ◌∷◌, length, map, refl, sym, ap, subst, arith}
use Rattle.std.specs.Prelude.{min, IfOk, OnErr, Result, Ok, Err}
use Rattle.std.proofs.Math.Nat.{min-eq_left}
use Rattle.std.specs.List.{list_any}
use Rattle.guppy_features.specs.digraphs.Bits.{has}
use Rattle.guppy_features.specs.walk_engine.Laws.{AnswersBy}
use Rattle.guppy_features.specs.walk_engine.Walks.{Agrees, Call, GoesAlong, IsComplete, IsLegal}
use Rattle.guppy_features.specs.feature_graph.LinkValues.{Link}
use Rattle.guppy_features.specs.feature_graph.Values.{Query}
use Rattle.guppy_features.specs.feature_graph.Visits.{offered, query_content, shown}
use Rattle.uses.specs.Answers.{CountsOn, CountsRun, by_links}

-- while P holds, each step answers as the test of links does, and P goes on
module _ {V : Type 0} (gives : V → Query → Link → Bool → V → Type 0) (P : V → Type 0) (test : Link → Bool) (step : (s : V) (q : Query) (l : Link) (answer : Bool) (t : V) → P s → gives s q l answer t → P t × (answer ≡ test l)) where
  keeps : (q : Query) (s : V) (run : List Call) (t : V) → P s → GoesAlong (shown gives q) s run t → P t
  keeps q s [] t holds same = subst P same holds
  keeps q s (call ∷ before) t holds (m, along, given) = (step m q (offered q.graph call.edge call.half) call.answer t (keeps q s before m holds along) given).0

  pub answers_by : (q : Query) (s : V) → P s → AnswersBy (shown gives q) (by_links test q.graph) s
  answers_by q s holds run t u e h answer along given = (step t q (offered q.graph e h) answer u (keeps q s run t holds along) given).1

pub any_of_made : {X Y : Type 0} (f : X → Y) (test : Y → Bool) (xs : List X) → list_any test (map f xs) ≡ list_any (λ x. test (f x)) xs
any_of_made f test [] = refl
any_of_made f test (x ∷ xs) = ap (λ b. test (f x) || b) (any_of_made f test xs)

-- one more, where the count can hold it
pub counts_more : (old count more next : ℕ) → CountsOn old more count → next ≡ min (count + 1) (2 ^ 64 - 1) → CountsOn old (more + 1) next
counts_more old count more next before is small =
    let same : count ≡ old + more = before (omega (arith, small)) in
    let fits : count + 1 ≤ 2 ^ 64 - 1 = omega (arith, small, same) in
    let next_is : next ≡ count + 1 = is ∙ min-eq_left fits in
    omega (arith, same, next_is)

-- where each answer is the test of the link, and one more is counted, all offers of a run are counted
module _ {V : Type 0} (gives : V → Query → Link → Bool → V → Type 0) (calls : V → ℕ) (test : Link → Bool) (step : (s : V) (q : Query) (l : Link) (answer : Bool) (t : V) → gives s q l answer t → (answer ≡ test l) × (calls t ≡ min (calls s + 1) (2 ^ 64 - 1))) where
  counts_along : (q : Query) (s : V) (run : List Call) (t : V) → GoesAlong (shown gives q) s run t → Agrees (by_links test q.graph) run × CountsOn (calls s) (length run) (calls t)
  counts_along q s [] t same = (tt, λ small. let e : calls t ≡ calls s = ap calls (sym same) in omega (arith, e))
  counts_along q s (call ∷ before) t (m, along, given) =
      let rest = counts_along q s before m along in
      let one = step m q (offered q.graph call.edge call.half) call.answer t given in
      ((sym one.0, rest.0), λ small. let e = counts_more (calls s) (calls m) (length before) (calls t) rest.1 one.1 (omega (arith, small)) in omega (arith, e))

  pub counts_run : (q : Query) (s t : V) (run : List Call) → GoesAlong (shown gives q) s run t → IsLegal (query_content q) (has q.initials) run → IsComplete (query_content q) (has q.initials) run → CountsRun test q (calls s) (calls t)
  counts_run q s t run along legal complete =
      let counted = counts_along q s run t along in
      record { run = run; legal = legal; complete = complete; answers = counted.0; count = counted.1 }

-- a fact that holds at both outcomes
pub at_both_ends : {A E X : Type 0} (P : A → Type 0) (Q : Type 0) (r : Result A E) → IfOk r P → OnErr r Q → ((a : A) → P a → X) → (Q → X) → X
at_both_ends P Q (Ok a) ok err f g = f a ok
at_both_ends P Q (Err e) ok err f g = g err
