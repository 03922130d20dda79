use Rattle.std.proofs.Common.{◌≡◌, ◌≢◌, ℕ, zero, suc, ◌+◌, ◌*◌, ◌<◌, ◌≤◌, Bool, true, false, not, ◌&&◌, ◌||◌, ◌⊎◌, List, [], ◌∷◌, ◌++◌, Some, length, take, refl, sym, ◌∙◌, ap, subst, inl, inr, arith, length-append, length-take, cond}
use Rattle.std.specs.Prelude.{IsTrue, IsFalse, slice_get, ◌==◌, count_by, ◌↔◌}
use Rattle.std.proofs.lemmas.Bool.{eqb-true, eq-eqb}
use Rattle.std.proofs.lemmas.List.{take-append-le}
use Rattle.std.proofs.lemmas.List.Sums.{count_by-le-length, sum_by-cons}
use Rattle.std.proofs.lemmas.Option.{slice_get_within}
use Rattle.walk_engine.specs.declared.walks.Half.{Half}
use Rattle.walk_engine.specs.declared.walks.Half.TheVariants.{Full, Required, Optional}
use Rattle.walk_engine.specs.declared.walks.Ask.{Ask}
use Rattle.walk_engine.specs.declared.walks.Ask.TheVariants as asks
use Rattle.digraphs.specs.Bits.{has, members}
use Rattle.std.specs.List.{range_with_len}
use Rattle.walk_engine.specs.Walks.{edges_from, edges_gated_by, Content, Way, IsWay, Reach, IsDue, IsWalk, LegalRun, was_accepted, has_gate, is_gated, is_in, numbers_where, starting, releasing}
use Rattle.walk_engine.specs.declared.walks.progress.Condition.TheVariants.{Start, Gate}
use Rattle.walk_engine.specs.declared.walks.Step.{Step}
use Rattle.walk_engine.specs.declared.walks.StepReason.{StepReason}
use Rattle.walk_engine.specs.declared.walks.StepReason.TheVariants.{Initial}
use Rattle.std.specs.Prelude.{filter}
use Rattle.walk_engine.specs.Explanations.{IsReason, HasReasons, Distinct, nodes_of, IsExplainedWalk}
use Rattle.walk_engine.specs.inner.WalkProgress.{Findings, noted, Extends, FollowsAll, FollowsStopped, of_way, passes, reads_of, IsDone, Begun}
use Rattle.walk_engine.proofs.Answered.{decide, clash, or_left, or_right, or_cases, and_both, and_intro}
use Rattle.walk_engine.proofs.Reaches.{reach_in, open_cases}
use Rattle.walk_engine.proofs.Runs.{members_least}
use Rattle.walk_engine.proofs.WayNumbers.{number_way, number_in, not_before, is_in_at, take_is_in, length-numbers, count_by_same, count_by_either}
use Rattle.walk_engine.proofs.WalkLoops.{at_same, eqb_swap}
use Rattle.walk_engine.proofs.WalkMoves.{noted_ordered, noted_distinct, noted_named}
use Rattle.walk_engine.proofs.WayNumbers.{marked_set, marked_grows, marked_cases, snoc_cases}
use Rattle.std.proofs.lemmas.Bool.Decides.{eqb_tells}

in_at : (xs : List ℕ) (e : ℕ) → IsTrue (is_in xs e) → (k : ℕ) × (slice_get xs k ≡ Some e)
in_at [] e t = absurd (clash t refl)
in_at (x ∷ xs) e t = elim (or_cases (x == e) (is_in xs e) t) [
  | inl p ↦ (0, ap (λ (n : ℕ). Some n) (eqb-true x e p))
  | inr p ↦ let r = in_at xs e p in (suc r.0, r.1)
]

-- Each number in the list has a way that passes.
way_of : (c : Content) (p : Way → Bool) (e : ℕ) → IsTrue (is_in (numbers_where p 0 c.ways) e) → (w : Way) × IsWay c e w × IsTrue (p w)
way_of c p e t =
    let at' = in_at (numbers_where p 0 c.ways) e t in
    let way = number_way p 0 c.ways at'.0 e at'.1 in
    let same : way.0 ≡ e = omega arith in
    (way.2.0, subst (λ (i : ℕ). slice_get c.ways i ≡ Some way.2.0) same way.2.1, way.2.2)

passes_way : (c : Content) (p : Way → Bool) (e : ℕ) (w : Way) → IsWay c e w → passes c p e ≡ p w
passes_way c p e w is = ap (of_way p) is

or_comm : (a b : Bool) → (a || b) ≡ (b || a)
or_comm true true = refl
or_comm true false = refl
or_comm false true = refl
or_comm false false = refl

and_none : (a b : Bool) → IsFalse b → IsFalse (a && b)
and_none true b f = f
and_none false b f = refl

and_or : (a b d : Bool) → ((a && d) || (a && b)) ≡ (a && (b || d))
and_or true b d = or_comm d b
and_or false b d = refl

and_or' : (a b d : Bool) → ((a && b) || (a && d)) ≡ (a && (b || d))
and_or' true b d = refl
and_or' false b d = refl

gate_met : (gated g : Bool) → (IsTrue gated → IsTrue g) → IsTrue (not gated || g)
gate_met true g f = f refl
gate_met false g f = refl

gate_gated : (ask : Ask) (h : Half) → IsTrue (has_gate ask h) → IsTrue (is_gated ask)
gate_gated asks.Nobody h q = q
gate_gated asks.Full h q = q
gate_gated (asks.Weak required gated) Full q = absurd (clash q refl)
gate_gated (asks.Weak required gated) Required q = absurd (clash q refl)
gate_gated (asks.Weak required gated) Optional q = q

listed : (order order' : List ℕ) (next node k : ℕ) → ((more : List ℕ) × (order' ≡ order ++ more)) → slice_get order next ≡ Some node → is_in (take (suc next) order') k ≡ (is_in (take next order) k || (k == node))
listed order order' next node k (more, q) here =
    let h : next < length order = slice_get_within order next node here in
    let h' : suc next ≤ length order = omega arith in
    ap (λ (xs : List ℕ). is_in (take (suc next) xs) k) q ∙ (ap (λ (xs : List ℕ). is_in xs k) (take-append-le (suc next) order more h') ∙ (take_is_in order next node k here ∙ ap (λ (b : Bool). is_in (take next order) k || b) (eqb_swap node k)))

module _ {O : Type 0} (c : Content) (I : ℕ → Bool) (gives : O → ℕ → Half → Bool → O → Type 0) (s0 : O) where
  -- The edges of the next member aren't taken or released yet.
  untaken : (xs : List ℕ) (node : ℕ) → IsFalse (is_in xs node) → (e : ℕ) → IsTrue (is_in (starting c node) e) → IsFalse (passes c (λ w. is_in xs w.start) e)
  untaken xs node out e q =
      let way = way_of c (λ (w : Way). w.start == node) e q in
      passes_way c (λ (w : Way). is_in xs w.start) e way.0 way.1 ∙ (ap (is_in xs) (eqb-true way.0.start node way.2) ∙ out)

  unfreed : (xs : List ℕ) (node : ℕ) → IsFalse (is_in xs node) → (e : ℕ) → IsTrue (is_in (releasing c node) e) → IsFalse (passes c (λ w. is_gated w.ask && is_in xs w.gate) e)
  unfreed xs node out e q =
      let way = way_of c (λ (w : Way). is_gated w.ask && (w.gate == node)) e q in
      let both = and_both (is_gated way.0.ask) (way.0.gate == node) way.2 in
      passes_way c (λ (w : Way). is_gated w.ask && is_in xs w.gate) e way.0 way.1 ∙ and_none (is_gated way.0.ask) (is_in xs way.0.gate) (ap (is_in xs) (eqb-true way.0.gate node both.1) ∙ out)

  -- The next node in the order is a member.
  is_member : (s : O) (f : Findings) (met : List Bool) (next node : ℕ) → slice_get f.order next ≡ Some node → IsDone c I gives s0 (take next f.order) s f met → IsTrue (has f.members node)
  is_member s f met next node here done = done.core.ordered node ∙ is_in_at f.order next node here

  is_new : (s : O) (f : Findings) (met : List Bool) (next node : ℕ) → slice_get f.order next ≡ Some node → IsDone c I gives s0 (take next f.order) s f met → IsFalse (is_in (take next f.order) node)
  is_new s f met next node here done = not_before f.order next node done.core.distinct here

  -- One more member is done.
  pub done_more : (s t u : O) (f g h : Findings) (met met' met'' : List Bool) (next node : ℕ) → slice_get f.order next ≡ Some node → IsDone c I gives s0 (take next f.order) s f met → FollowsAll Start (starting c node) c gives node s f met t g met' → FollowsAll Gate (releasing c node) c gives node t g met' u h met'' → Extends f h → IsDone c I gives s0 (take (suc next) h.order) u h met''
  done_more s t u f g h met met' met'' next node here done takes frees grown =
      let xs = take next f.order in
      let out = is_new s f met next node here done in
      let T = passes c (λ (w : Way). is_in xs w.start) in
      let G = passes c (λ (w : Way). is_gated w.ask && is_in xs w.gate) in
      let one = takes I s0 T G (untaken xs node out) (is_member s f met next node here done) done in
      let two = frees I s0 (λ (e : ℕ). is_in (starting c node) e || T e) G (unfreed xs node out) one.0 one.1 in
      at_same c gives I s0 (λ (e : ℕ). is_in (starting c node) e || T e) (λ (e : ℕ). is_in (releasing c node) e || G e) (passes c (λ w. is_in (take (suc next) h.order) w.start)) (passes c (λ w. is_gated w.ask && is_in (take (suc next) h.order) w.gate)) u h met''
      (λ e w is. passes_way c (λ (v : Way). is_in (take (suc next) h.order) v.start) e w is
      ∙ (listed f.order h.order next node w.start (grown.more, grown.order) here
      ∙ (or_comm (is_in xs w.start) (w.start == node)
      ∙ sym (ap (λ (b : Bool). b || T e) (number_in (λ (v : Way). v.start == node) 0 c.ways e e w (omega arith) is) ∙ ap (λ (b : Bool). (w.start == node) || b) (passes_way c (λ (v : Way). is_in xs v.start) e w is)))))
      (λ e w is. passes_way c (λ (v : Way). is_gated v.ask && is_in (take (suc next) h.order) v.gate) e w is
      ∙ (ap (λ (b : Bool). is_gated w.ask && b) (listed f.order h.order next node w.gate (grown.more, grown.order) here)
      ∙ (sym (and_or (is_gated w.ask) (is_in xs w.gate) (w.gate == node))
      ∙ sym (ap (λ (b : Bool). b || G e) (number_in (λ (v : Way). is_gated v.ask && (v.gate == node)) 0 c.ways e e w (omega arith) is) ∙ ap (λ (b : Bool). (is_gated w.ask && (w.gate == node)) || b) (passes_way c (λ (v : Way). is_gated v.ask && is_in xs v.gate) e w is)))))
      two.1

  -- If the walk stops at a member's edges, the calls made are a legal run.
  pub stopped_taking : (s t : O) (f : Findings) (met : List Bool) (next node : ℕ) → slice_get f.order next ≡ Some node → IsDone c I gives s0 (take next f.order) s f met → FollowsStopped Start c gives node s f met t → LegalRun c I gives s0 t
  stopped_taking s t f met next node here done stopped =
      let xs = take next f.order in
      stopped I s0 (passes c (λ w. is_in xs w.start)) (passes c (λ w. is_gated w.ask && is_in xs w.gate)) (untaken xs node (is_new s f met next node here done)) (is_member s f met next node here done) done

  pub stopped_freeing : (s t u : O) (f g : Findings) (met met' : List Bool) (next node : ℕ) → slice_get f.order next ≡ Some node → IsDone c I gives s0 (take next f.order) s f met → FollowsAll Start (starting c node) c gives node s f met t g met' → FollowsStopped Gate c gives node t g met' u → LegalRun c I gives s0 u
  stopped_freeing s t u f g met met' next node here done takes stopped =
      let xs = take next f.order in
      let out = is_new s f met next node here done in
      let T = passes c (λ (w : Way). is_in xs w.start) in
      let G = passes c (λ (w : Way). is_gated w.ask && is_in xs w.gate) in
      let one = takes I s0 T G (untaken xs node out) (is_member s f met next node here done) done in
      stopped I s0 (λ e. is_in (starting c node) e || T e) G (unfreed xs node out) one.0 one.1

  -- When all members are done, the walk is complete.
  pub finished : (s : O) (f : Findings) (met : List Bool) → IsDone c I gives s0 f.order s f met → IsWalk c I gives s0 s (has f.members)
  finished s f met done =
      let run = done.run in
      let T = passes c (λ (w : Way). is_in f.order w.start) in
      let G = passes c (λ (w : Way). is_gated w.ask && is_in f.order w.gate) in
      let started = λ (e : ℕ) (w : Way) (is : IsWay c e w) (m : IsTrue (has f.members w.start)).
      let r : IsTrue (T e) = passes_way c (λ (v : Way). is_in f.order v.start) e w is ∙ (sym (done.core.ordered w.start) ∙ m) in r in
      let reached = reach_in c I (was_accepted run) (λ n. IsTrue (has f.members n)) done.core.initial (λ e w is op m. elim (open_cases (was_accepted run) e w.ask op) [
        | inl p ↦ done.unasked e w is p (started e w is m)
        | inr p ↦ done.accepted e p.0 w is p.2
      ]) in
      let complete = λ (e : ℕ) (h : Half) (due : IsDue c I run e h).
      let r : ⊥ = clash (done.made e h due.way due.is_way due.half ∙ and_intro (T e) (not (has_gate due.way.ask h) || G e) (started e due.way due.is_way (reached due.way.start due.start)) (gate_met (has_gate due.way.ask h) (G e) (λ q.
      passes_way c (λ (v : Way). is_gated v.ask && is_in f.order v.gate) e due.way due.is_way ∙ and_intro (is_gated due.way.ask) (is_in f.order due.way.gate) (gate_gated due.way.ask h q) (sym (done.core.ordered due.way.gate) ∙ reached due.way.gate (due.gate q))))) due.fresh in r in
      let members = λ (n : ℕ). let r : IsTrue (has f.members n) ↔ Reach c I (was_accepted run) n = (done.core.sound n, reached n) in r in
      record {
        run = run;
        calls = done.core.calls;
        legal = done.core.legal;
        complete = complete;
        members = members;
        least = members_least c I (has f.members) run done.core.legal complete members;
      }

  pub finished_explained : (s : O) (f : Findings) (met : List Bool) → IsTrue f.explains → IsDone c I gives s0 f.order s f met → IsExplainedWalk c I gives s0 s (has f.members) f.steps f.refused
  unfolding finished
  finished_explained s f met x done =
      record {
        walk = finished s f met done;
        explanation = record {
          once = subst Distinct (done.core.named x) done.core.distinct;
          reasons = subst (λ (xs : List ℕ). HasReasons c I (was_accepted done.run) xs f.steps) (done.core.named x) (done.core.explained x);
        };
        listed = λ n. done.core.ordered n ∙ ap (λ (xs : List ℕ). is_in xs n) (done.core.named x);
        refused_in_order = done.core.told x;
      }

  pub started_none : (s : O) (f : Findings) (met : List Bool) → s0 ≡ s → Begun I f → ((e : ℕ) → IsFalse (has met e)) → IsDone c I gives s0 [] s f met
  started_none s f met same begun unmet =
      record {
        run = [];
        core = record {
          calls = same;
          legal = tt;
          sound = λ n m. (n, [], begun.only n m, refl);
          initial = begun.initial;
          ordered = begun.ordered;
          distinct = begun.distinct;
          named = begun.named;
          explained = λ x k step q. let r = begun.reasons x k step q in subst (λ (why : StepReason). IsReason c I (was_accepted []) (take k f.order) step.node why) (sym r.0) r.1;
          told = begun.silent;
        };
        accepted = λ e h w is a. absurd (clash a refl);
        started = λ e w is t. absurd (clash t (passes_way c (λ v. false) e w is));
        freed = λ e w is t. absurd (clash t (passes_way c (λ v. is_gated v.ask && false) e w is ∙ and_none (is_gated w.ask) false refl));
        unasked = λ e w is p t. absurd (clash t (passes_way c (λ v. false) e w is));
        made = λ e h w is given. let f : passes c (λ v. false) e ≡ false = passes_way c (λ v. false) e w is in rw f refl;
        came = λ e w is q.
            let f : passes c (λ v. false) e ≡ false = passes_way c (λ v. false) e w is in
            let g : passes c (λ v. is_gated v.ask && false) e ≡ false = passes_way c (λ v. is_gated v.ask && false) e w is ∙ and_none (is_gated w.ask) false refl in
            rw (f, g) (unmet e);
      }

length_more : (order : List ℕ) (next node : ℕ) → slice_get order next ≡ Some node → length (take (suc next) order) ≡ length (take next order) + 1
length_more [] next node h = absurd (cc)
length_more (x ∷ xs) zero node h = refl
length_more (x ∷ xs) (suc next) node h = let r : length (take (suc next) xs) ≡ length (take next xs) + 1 = length_more xs next node h in omega arith

-- One more member costs its edges and the two reads that return `None`.
pub reads_more : (c : Content) (order : List ℕ) (next node : ℕ) → Distinct order → slice_get order next ≡ Some node → reads_of c (take (suc next) order) ≡ reads_of c (take next order) + (length (starting c node) + 1) + (length (releasing c node) + 1)
reads_more c order next node d here =
    let xs = take next order in
    let ys = take (suc next) order in
    let out : IsFalse (is_in xs node) = not_before order next node d here in
    let l : length ys ≡ length xs + 1 = length_more order next node here in
    let a : count_by (λ (w : Way). is_in ys w.start) c.ways ≡ count_by (λ (w : Way). is_in xs w.start) c.ways + count_by (λ (w : Way). w.start == node) c.ways =
    count_by_same (λ (w : Way). is_in ys w.start) (λ (w : Way). is_in xs w.start || (w.start == node)) (λ w. take_is_in order next node w.start here ∙ ap (λ (b : Bool). is_in xs w.start || b) (eqb_swap node w.start)) c.ways
    ∙ count_by_either (λ (w : Way). is_in xs w.start) (λ (w : Way). w.start == node) (λ w q. ap (is_in xs) (eqb-true w.start node q) ∙ out) c.ways in
    let b : count_by (λ (w : Way). is_gated w.ask && is_in ys w.gate) c.ways ≡ count_by (λ (w : Way). is_gated w.ask && is_in xs w.gate) c.ways + count_by (λ (w : Way). is_gated w.ask && (w.gate == node)) c.ways =
    count_by_same (λ (w : Way). is_gated w.ask && is_in ys w.gate) (λ (w : Way). (is_gated w.ask && is_in xs w.gate) || (is_gated w.ask && (w.gate == node))) (λ w. ap (λ (b : Bool). is_gated w.ask && b) (take_is_in order next node w.gate here ∙ ap (λ (b : Bool). is_in xs w.gate || b) (eqb_swap node w.gate)) ∙ sym (and_or' (is_gated w.ask) (is_in xs w.gate) (w.gate == node))) c.ways
    ∙ count_by_either (λ (w : Way). is_gated w.ask && is_in xs w.gate) (λ (w : Way). is_gated w.ask && (w.gate == node)) (λ w q. and_none (is_gated w.ask) (is_in xs w.gate) (ap (is_in xs) (eqb-true w.gate node (and_both (is_gated w.ask) (w.gate == node) q).1) ∙ out)) c.ways in
    let s : length (starting c node) ≡ count_by (λ (w : Way). w.start == node) c.ways = length-numbers (λ (w : Way). w.start == node) 0 c.ways in
    let r : length (releasing c node) ≡ count_by (λ (w : Way). is_gated w.ask && (w.gate == node)) c.ways = length-numbers (λ (w : Way). is_gated w.ask && (w.gate == node)) 0 c.ways in
    omega arith

-- A marked number is below the length of the list.
pub marked_within : (marks : List Bool) (n : ℕ) → IsTrue (has marks n) → n < length marks
marked_within [] n t = absurd (clash t refl)
marked_within (b ∷ marks) zero t = omega arith
marked_within (b ∷ marks) (suc n) t = let r : n < length marks = marked_within marks n t in omega arith

in_filter : (p : ℕ → Bool) (xs : List ℕ) (n : ℕ) → is_in (filter p xs) n ≡ (p n && is_in xs n)
in_filter p [] n = sym (and_none (p n) false refl)
in_filter p (x ∷ xs) n = elim (decide (x == n)) [
  | inl q ↦ let same : x ≡ n = eqb-true x n q in elim (decide (p x)) [
    | inl t ↦ rw (t, q) (sym (and_intro (p n) true (subst (λ (k : ℕ). IsTrue (p k)) same t) refl))
    | inr f ↦ rw (f, q) (in_filter p xs n ∙ let no : IsFalse (p n) = subst (λ (k : ℕ). IsFalse (p k)) same f in rw no refl)
  ]
  | inr q ↦ elim (decide (p x)) [ inl t ↦ rw (t, q) (in_filter p xs n) | inr f ↦ rw (f, q) (in_filter p xs n) ]
]

in_range : (from count n : ℕ) → from ≤ n → n < from + count → IsTrue (is_in (range_with_len from count) n)
in_range from zero n h k = absurd (omega arith)
in_range from (suc count) n h k = elim (eqb_tells from n) [
  | inl p ↦ or_left (from == n) (is_in (range_with_len (from + 1) count) n) p.0
  | inr p ↦ let ne : from ≢ n = p.1 in or_right (from == n) (is_in (range_with_len (from + 1) count) n) (in_range (from + 1) count n (omega arith) (omega arith))
]

pub member_in : (set : List Bool) (n : ℕ) → IsTrue (has set n) → IsTrue (is_in (members set) n)
member_in set n t = in_filter (λ (k : ℕ). has set k) (range_with_len 0 (length set)) n ∙ and_intro (has set n) (is_in (range_with_len 0 (length set)) n) t (in_range 0 (length set) n (omega arith) (omega (arith, marked_within set n t)))

pub in_member : (set : List Bool) (n : ℕ) → IsTrue (is_in (members set) n) → IsTrue (has set n)
in_member set n t = (and_both (has set n) (is_in (range_with_len 0 (length set)) n) (sym (in_filter (λ (k : ℕ). has set k) (range_with_len 0 (length set)) n) ∙ t)).0

-- The initial nodes that aren't left are members, and no others.
pub record BegunBut (I : List Bool) (rest : List ℕ) (f : Findings) : Type 0 where
  pub named : IsTrue f.explains → f.order ≡ nodes_of f.steps
  pub reasons : IsTrue f.explains → (k : ℕ) (step : Step) → slice_get f.steps k ≡ Some step → (step.reason ≡ Initial) × IsTrue (has I step.node)
  pub initial : (n : ℕ) → IsTrue (has I n) → IsTrue (has f.members n) ⊎ IsTrue (is_in rest n)
  pub left : (n : ℕ) → IsTrue (is_in rest n) → IsTrue (has I n)
  pub only : (n : ℕ) → IsTrue (has f.members n) → IsTrue (has I n)
  pub ordered : (n : ℕ) → has f.members n ≡ is_in f.order n
  pub distinct : Distinct f.order
  pub silent : IsTrue f.explains → f.refused ≡ []

noted_reasons : (I : List Bool) (f : Findings) (i : ℕ) → IsTrue f.explains → IsTrue (has I i) → ((k : ℕ) (step : Step) → slice_get f.steps k ≡ Some step → (step.reason ≡ Initial) × IsTrue (has I step.node)) → (k : ℕ) (step : Step) → slice_get (noted f i Initial).steps k ≡ Some step → (step.reason ≡ Initial) × IsTrue (has I step.node)
noted_reasons I f i x t b =
    elim (decide (has f.members i)) [
      | inl m ↦ rw m b
      | inr m ↦ rw (m, x) (λ k step h. elim (snoc_cases f.steps (record { node = i; reason = Initial }) k step h) [
        | inl p ↦ b k step p
        | inr p ↦ subst (λ (x : Step). (x.reason ≡ Initial) × IsTrue (has I x.node)) p.1 (refl, t)
      ])
    ]

-- Before the first initial node.
pub begun_none : (I : List Bool) (f : Findings) → Begun (λ _. false) f → BegunBut I (members I) f
begun_none I f b =
    record {
      named = b.named;
      reasons = λ x k step h. absurd (clash (b.reasons x k step h).1 refl);
      initial = λ n t. inr (member_in I n t);
      left = in_member I;
      only = λ n m. absurd (clash (b.only n m) refl);
      ordered = b.ordered;
      distinct = b.distinct;
      silent = b.silent;
    }

-- The next one that is left is an initial node.
pub next_initial : (I : List Bool) (i : ℕ) (rest : List ℕ) (f : Findings) → BegunBut I (i ∷ rest) f → IsTrue (has I i)
next_initial I i rest f b = b.left i (or_left (i == i) (is_in rest i) (eq-eqb i i refl))

pub begun_note : (I : List Bool) (i : ℕ) (rest : List ℕ) (f : Findings) → i < length f.members → BegunBut I (i ∷ rest) f → BegunBut I rest (noted f i Initial)
begun_note I i rest f h b =
    let t = next_initial I i rest f b in
    record {
      named = λ x. noted_named f i Initial x (b.named x);
      reasons = λ x. noted_reasons I f i x t (b.reasons x);
      initial = λ n m. elim (b.initial n m) [
        | inl p ↦ inl (marked_grows f.members i n h p)
        | inr p ↦ elim (or_cases (i == n) (is_in rest n) p) [
          | inl q ↦ inl (subst (λ (k : ℕ). IsTrue (has (noted f i Initial).members k)) (eqb-true i n q) (marked_set f.members i h))
          | inr q ↦ inr q
        ]
      ];
      left = λ n m. b.left n (or_right (i == n) (is_in rest n) m);
      only = λ n m. elim (marked_cases f.members i n m) [ inl p ↦ subst (λ (k : ℕ). IsTrue (has I k)) (sym p) t | inr p ↦ b.only n p ];
      ordered = noted_ordered f i Initial h b.ordered;
      distinct = noted_distinct f i Initial b.ordered b.distinct;
      silent = b.silent;
    }

-- After the last initial node.
pub begun_all : (I : List Bool) (f : Findings) → BegunBut I [] f → Begun (has I) f
begun_all I f b =
    record { named = b.named; reasons = b.reasons; initial = λ n m. elim (b.initial n m) [ inl p ↦ p | inr p ↦ absurd (clash p refl) ]; only = b.only; ordered = b.ordered; distinct = b.distinct; silent = b.silent }

pub take_extends : (f g : Findings) (k : ℕ) → k ≤ length f.order → Extends f g → take k g.order ≡ take k f.order
take_extends f g k h x = ap (take k) x.order ∙ take-append-le k f.order x.more h

pub longer : (f g : Findings) → Extends f g → length f.order ≤ length g.order
longer f g x = omega (arith, length-append f.order x.more, ap length x.order)

-- A bound on the reads.
pub reads_bound : (c : Content) (order : List ℕ) (next : ℕ) → reads_of c (take next order) ≤ 2 * next + 2 * length c.ways
reads_bound c order next =
    omega (arith, length-take next order, count_by-le-length (λ (w : Way). is_in (take next order) w.start) c.ways, count_by-le-length (λ (w : Way). is_gated w.ask && is_in (take next order) w.gate) c.ways)

no_count : (p : Way → Bool) → ((w : Way) → IsFalse (p w)) → (ws : List Way) → count_by p ws ≡ 0
no_count p f [] = refl
no_count p f (w ∷ ws) =
    let a : count_by p (w ∷ ws) ≡ cond {A = ℕ} (p w) 1 0 + count_by p ws = sum_by-cons (λ (v : Way). cond (p v) 1 0) w ws in
    let r : count_by p ws ≡ 0 = no_count p f ws in
    let d : cond {A = ℕ} (p w) 1 0 ≡ 0 = ap (λ (x : Bool). cond {A = ℕ} x 1 0) (f w) in
    omega arith

pub reads_none : (c : Content) → reads_of c [] ≡ 0
reads_none c = omega (arith, no_count (λ (w : Way). false) (λ w. refl) c.ways, no_count (λ (w : Way). is_gated w.ask && false) (λ w. and_none (is_gated w.ask) false refl) c.ways)

-- The number of reads, from the set of members in place of their list.
pub reads_members : (c : Content) (M : ℕ → Bool) (order : List ℕ) → ((n : ℕ) → M n ≡ is_in order n) → reads_of c order ≡ 2 * length order + edges_from c M + edges_gated_by c M
reads_members c M order same =
    omega (
      arith,
      count_by_same (λ (w : Way). is_in order w.start) (λ (w : Way). M w.start) (λ w. sym (same w.start)) c.ways,
      count_by_same (λ (w : Way). is_gated w.ask && is_in order w.gate) (λ (w : Way). is_gated w.ask && M w.gate) (λ w. ap (λ (b : Bool). is_gated w.ask && b) (sym (same w.gate))) c.ways,
    )
