-- The steps of an explanation are those of nodes.
use Rattle.std.proofs.Common.{◌≡◌, ℕ, ◌<◌, Bool, true, false, ◌||◌, List, [], ◌∷◌, ◌++◌, take, refl, subst, sym}
use Rattle.std.specs.Prelude.{IsTrue, filter, ◌==◌, if◌then◌else◌}
use Rattle.std.proofs.lemmas.Bool.{eq-eqb}
use Rattle.std.proofs.lemmas.Option.{slice_get-get_or}
use Rattle.walk_engine.specs.Explanations.{IsExplanation, nodes_of, IsReason}
use Rattle.walk_engine.specs.Walks.{Content, EndsAreNodes, has_gate, is_gated, is_in}
use Rattle.walk_engine.specs.declared.walks.Ask.{Ask}
use Rattle.walk_engine.specs.declared.walks.Ask.TheVariants as asks
use Rattle.walk_engine.specs.declared.walks.Half.{Half}
use Rattle.walk_engine.specs.declared.walks.Half.TheVariants.{Full, Required, Optional}
use Rattle.walk_engine.specs.declared.walks.Step.{Step}
use Rattle.walk_engine.specs.declared.walks.StepReason.{StepReason}
use Rattle.walk_engine.specs.declared.walks.StepReason.TheVariants.{Initial, Edge, Offer}
use Rattle.walk_checks.specs.Whys.{IsWhy}
use Rattle.plan_whys.specs.inner.Nodes.{IsReasonInside, AreInside}

-- a half that waits for a gate is one of a gated edge
pub gate_is : (ask : Ask) (h : Half) → IsTrue (has_gate ask h) → IsTrue (is_gated ask)
gate_is asks.Nobody h t = cc
gate_is asks.Full h t = cc
gate_is (asks.Weak required gated) Full t = cc
gate_is (asks.Weak required gated) Required t = cc
gate_is (asks.Weak required gated) Optional t = t

inside_by : (c : Content) (I : ℕ → Bool) (A : ℕ → Half → Bool) (before : List ℕ) (n : ℕ) (reason : StepReason) → EndsAreNodes c → ((k : ℕ) → IsTrue (I k) → k < c.nodes) → IsReason c I A before n reason → (n < c.nodes) × IsReasonInside c.nodes c reason
inside_by c I A before n Initial ends initials r = (initials n r, tt)
inside_by c I A before n (Edge e) ends initials (w, is, asked, far, listed) =
    let here = ends e w is in
    (subst (λ k. k < c.nodes) far here.1, (w, is, here.0))
inside_by c I A before n (Offer e h) ends initials (w, is, half, accepted, far, listed, gate) =
    let here = ends e w is in
    (subst (λ k. k < c.nodes) far here.1, (w, is, here.0, λ t. here.2 (gate_is w.ask h t)))

pub explained_inside : (c : Content) (I : ℕ → Bool) (A : ℕ → Half → Bool) (steps : List Step) → EndsAreNodes c → ((k : ℕ) → IsTrue (I k) → k < c.nodes) → IsExplanation c I A steps → AreInside c.nodes c steps
explained_inside c I A steps ends initials is k d within =
    let at = slice_get-get_or steps k d within in
    inside_by c I A (take k (nodes_of steps)) _ _ ends initials (is.reasons k _ at)

or_right : (a b : Bool) → IsTrue b → IsTrue (a || b)
or_right true b h = refl
or_right false b h = h

or_left : (a b : Bool) → IsTrue a → IsTrue (a || b)
or_left true b h = refl
or_left false b h = cc

last_listed : (before : List Step) (step : Step) → IsTrue (is_in (nodes_of (before ++ step ∷ [])) step.node)
last_listed [] step = or_left (step.node == step.node) false (eq-eqb step.node step.node refl)
last_listed (x ∷ before) step = or_right (x.node == step.node) _ (last_listed before step)

-- what is listed after the first step
listed_after : (p : Step → Bool) (x : Step) (steps : List Step) (n : ℕ) → (IsTrue (is_in (nodes_of (filter p steps)) n) → IsTrue (is_in (nodes_of steps) n)) → (t : Bool) → p x ≡ t
    → IsTrue (is_in (nodes_of (filter p (x ∷ steps))) n) → IsTrue (is_in (nodes_of (x ∷ steps)) n)
listed_after p x steps n rest true is e = cases (x.node == n) refl (subst (λ b. IsTrue (is_in (nodes_of (if b then x ∷ filter p steps else filter p steps)) n)) is e)
  where
    cases : (b : Bool) → (x.node == n) ≡ b → IsTrue (is_in (nodes_of (x ∷ filter p steps)) n) → IsTrue (is_in (nodes_of (x ∷ steps)) n)
    cases true same g = or_left (x.node == n) (is_in (nodes_of steps) n) same
    cases false other g = or_right (x.node == n) (is_in (nodes_of steps) n) (rest (subst (λ b. IsTrue (b || is_in (nodes_of (filter p steps)) n)) other g))
listed_after p x steps n rest false is e = or_right (x.node == n) (is_in (nodes_of steps) n) (rest (subst (λ b. IsTrue (is_in (nodes_of (if b then x ∷ filter p steps else filter p steps)) n)) is e))

filter_listed : (p : Step → Bool) (steps : List Step) (n : ℕ) → IsTrue (is_in (nodes_of (filter p steps)) n) → IsTrue (is_in (nodes_of steps) n)
filter_listed p [] n h = h
filter_listed p (x ∷ steps) n h = listed_after p x steps n (filter_listed p steps n) (p x) refl h

-- the node of a why is listed
pub why_listed : (c : Content) (I : ℕ → Bool) (A : ℕ → Half → Bool) (steps : List Step) (n : ℕ) (kept : List Step) → IsWhy c I A steps n kept → IsTrue (is_in (nodes_of steps) n)
why_listed c I A steps n kept why =
    let last = why.last in
    let here : IsTrue (is_in (nodes_of kept) n) = subst (λ k. IsTrue (is_in (nodes_of kept) k)) last.3 (subst (λ l. IsTrue (is_in (nodes_of l) last.1.node)) (sym last.2) (last_listed last.0 last.1)) in
    filter_listed (λ step. why.rests step.node) steps n (subst (λ l. IsTrue (is_in (nodes_of l) n)) why.part here)
