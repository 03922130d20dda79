use Rattle.std.proofs.Common.{◌≡◌, ◌≢◌, ℕ, ◌<◌, ◌≤◌, Bool, true, false, not, ◌&&◌, ◌||◌, ◌⊎◌, List, [], ◌∷◌, ◌++◌, length, take, refl, sym, ◌∙◌, ap, subst, inl, inr, arith, get_or-set_other}
use Rattle.std.specs.Prelude.{IsTrue, IsFalse, slice_set, ◌==◌}
use Rattle.std.proofs.lemmas.Bool.{eqb-true, eq-eqb}
use Rattle.std.proofs.lemmas.Bool.Decides.{eqb_tells}
use Rattle.walk_engine.specs.declared.walks.Half.{Half}
use Rattle.walk_engine.specs.declared.walks.Half.TheVariants.{Full, Required, Optional}
use Rattle.walk_engine.specs.declared.walks.Ask.{Ask}
use Rattle.walk_engine.specs.declared.walks.Ask.TheVariants as asks
use Rattle.digraphs.specs.Bits.{has}
use Rattle.walk_engine.specs.Walks.{Content, Way, Call, IsWay, has_half, has_gate, has_turn, is_gated, Reach, was_made, was_accepted, is_of, is_half, IsDue, is_in}
use Rattle.walk_engine.specs.declared.walks.Step.{Step}
use Rattle.walk_engine.specs.declared.walks.StepReason.{StepReason}
use Rattle.walk_engine.specs.declared.walks.StepReason.TheVariants.{Initial, Edge, Offer}
use Rattle.std.proofs.lemmas.Option.{slice_get_within}
use Rattle.std.proofs.lemmas.List.{take-append-le, map-append, length-map}
use Rattle.std.proofs.Math.Seq.{take-append_seam}
use Rattle.walk_engine.specs.Explanations.{IsReason, HasReasons, Distinct, nodes_of, refused_of}
use Rattle.walk_engine.specs.inner.WalkProgress.{Findings, kept, noted, answered, Core, IsAt, Asks, Comes, with_edge}
use Rattle.walk_engine.proofs.Answered.{decide, or_cases, or_left, or_right, and_both, and_intro, clash, is_of_same, is_of_refl}
use Rattle.walk_engine.proofs.Reaches.{same_way, reach_more, reach_grows, open_by, open_nobody}
use Rattle.walk_engine.proofs.WayNumbers.{snoc_cases, marked_set, marked_grows, marked_cases, marked_set_is, is_in-append, distinct_more}

abbrev pub call_of : ℕ → Half → Bool → Call
call_of e h b = record { edge = e; half = h; answer = b }

abbrev pub Grows : Findings → Findings → Type 0
Grows f g = (k : ℕ) → IsTrue (has f.members k) → IsTrue (has g.members k)

abbrev pub Follows : Content → List Call → Findings → Type 0
Follows c run f = (e : ℕ) (h : Half) (w : Way) → IsWay c e w → IsTrue (was_accepted run e h) → IsTrue (has f.members w.far)

same_or : (b d : Bool) → (IsTrue d → IsTrue b) → (b || d) ≡ b
same_or true d h = refl
same_or false true h = sym (h refl)
same_or false false h = refl

pub noted_ordered : (f : Findings) (n : ℕ) (r : StepReason) → n < length f.members → ((k : ℕ) → has f.members k ≡ is_in f.order k) → (k : ℕ) → has (noted f n r).members k ≡ is_in (noted f n r).order k
noted_ordered f n r h ordered k =
    elim (decide (has f.members n)) [
      | inl t ↦ rw t (marked_set_is f.members n k h ∙ (same_or (has f.members k) (n == k) (λ q. subst (λ (j : ℕ). IsTrue (has f.members j)) (eqb-true n k q) t) ∙ ordered k))
      | inr u ↦ rw u (marked_set_is f.members n k h ∙ (ap (λ (b : Bool). b || (n == k)) (ordered k) ∙ sym (is_in-append f.order n k)))
    ]

pub noted_distinct : (f : Findings) (n : ℕ) (r : StepReason) → ((k : ℕ) → has f.members k ≡ is_in f.order k) → Distinct f.order → Distinct (noted f n r).order
noted_distinct f n r ordered d =
    elim (decide (has f.members n)) [
      | inl t ↦ rw t d
      | inr u ↦ rw u (distinct_more f.order n d (sym (ordered n) ∙ u))
    ]

pub noted_named : (f : Findings) (n : ℕ) (r : StepReason) → IsTrue f.explains → f.order ≡ nodes_of f.steps → (noted f n r).order ≡ nodes_of (noted f n r).steps
noted_named f n r x q =
    elim (decide (has f.members n)) [
      | inl t ↦ rw t q
      | inr u ↦ rw (u, x) (ap (λ (xs : List ℕ). xs ++ n ∷ []) q ∙ sym (map-append (λ (s : Step). s.node) f.steps (record { node = n; reason = r } ∷ [])))
    ]

same_length : (f : Findings) → f.order ≡ nodes_of f.steps → length f.order ≡ length f.steps
same_length f q = ap length q ∙ length-map f.steps (λ (s : Step). s.node)

pub noted_explained : (c : Content) (I : ℕ → Bool) (A : ℕ → Half → Bool) (f : Findings) (n : ℕ) (r : StepReason) → IsTrue f.explains → f.order ≡ nodes_of f.steps → IsReason c I A f.order n r → HasReasons c I A f.order f.steps → HasReasons c I A (noted f n r).order (noted f n r).steps
noted_explained c I A f n r x named reason ex =
    elim (decide (has f.members n)) [
      | inl t ↦ rw t ex
      | inr u ↦ rw (u, x) (λ k step h. elim (snoc_cases f.steps (record { node = n; reason = r }) k step h) [
        | inl p ↦
            let inside : k ≤ length f.order = omega (arith, slice_get_within f.steps k step p, same_length f named) in
            subst (λ (xs : List ℕ). IsReason c I A xs step.node step.reason) (sym (take-append-le k f.order (n ∷ []) inside)) (ex k step p)
        | inr p ↦
            let whole : k ≡ length f.order = p.0 ∙ sym (same_length f named) in
            let before : take k (f.order ++ n ∷ []) ≡ f.order = ap (λ (j : ℕ). take j (f.order ++ n ∷ [])) whole ∙ take-append_seam f.order (n ∷ []) in
            subst (λ (xs : List ℕ). IsReason c I A xs step.node step.reason) (sym before) (subst (λ (x : Step). IsReason c I A f.order x.node x.reason) p.1 reason)
      ])
    ]

-- Reasons stay valid when more offers are accepted.
reason_grows : (c : Content) (I : ℕ → Bool) (A B : ℕ → Half → Bool) → ((e : ℕ) (h : Half) → IsTrue (A e h) → IsTrue (B e h)) → (before : List ℕ) (n : ℕ) (r : StepReason) → IsReason c I A before n r → IsReason c I B before n r
reason_grows c I A B f before n Initial q = q
reason_grows c I A B f before n (Edge e) q = q
reason_grows c I A B f before n (Offer e h) (w, is, given, a, far, st, gt) = (w, is, given, f e h a, far, st, gt)

module _ {O : Type 0} (c : Content) (I : ℕ → Bool) (gives : O → ℕ → Half → Bool → O → Type 0) (s0 : O) where
  pub core_note : (run : List Call) (s : O) (f : Findings) (n : ℕ) (why : StepReason) → Core c I gives s0 run s f → Reach c I (was_accepted run) n → n < length f.members → IsReason c I (was_accepted run) f.order n why → Core c I gives s0 run s (noted f n why)
  core_note run s f n why core r h reason =
      record {
        calls = core.calls;
        legal = core.legal;
        sound = λ k t. elim (marked_cases f.members n k t) [ inl p ↦ subst (Reach c I (was_accepted run)) (sym p) r | inr p ↦ core.sound k p ];
        initial = λ k i. marked_grows f.members n k h (core.initial k i);
        ordered = noted_ordered f n why h core.ordered;
        distinct = noted_distinct f n why core.ordered core.distinct;
        named = λ x. noted_named f n why x (core.named x);
        explained = λ x. noted_explained c I (was_accepted run) f n why x (core.named x) reason (core.explained x);
        told = core.told;
      }

  pub core_call : (run : List Call) (s t : O) (f : Findings) (e : ℕ) (h : Half) (b : Bool) (refused : List (ℕ × Half)) → Core c I gives s0 run s f → IsDue c I run e h → gives s e h b t → (IsTrue f.explains → refused ≡ refused_of (call_of e h b ∷ run)) → Core c I gives s0 (call_of e h b ∷ run) t (record { members = f.members; order = f.order; explains = f.explains; steps = f.steps; refused = refused })
  core_call run s t f e h b refused core due g told =
      record {
        calls = (s, core.calls, g);
        legal = (due, core.legal);
        sound = λ k m. reach_grows c I (was_accepted run) (was_accepted (call_of e h b ∷ run)) (λ i j a. or_right (is_of (call_of e h b) i j && b) (was_accepted run i j) a) k (core.sound k m);
        initial = core.initial;
        ordered = core.ordered;
        distinct = core.distinct;
        named = core.named;
        explained = λ x k step q. reason_grows c I (was_accepted run) (was_accepted (call_of e h b ∷ run)) (λ i j a. or_right (is_of (call_of e h b) i j && b) (was_accepted run i j) a) (take k f.order) step.node step.reason (core.explained x k step q);
        told = told;
      }

  -- Making an offer that is due keeps the invariant. If it is accepted, its far end becomes a member.
  pub core_ask : (run : List Call) (s t : O) (f : Findings) (e : ℕ) (h : Half) (b : Bool) (w : Way) → Core c I gives s0 run s f → Follows c run f → IsWay c e w → IsDue c I run e h → IsTrue (has_half w.ask h) → IsTrue (has f.members w.start) → (IsTrue (has_gate w.ask h) → IsTrue (has f.members w.gate)) → w.far < length f.members → gives s e h b t → Core c I gives s0 (call_of e h b ∷ run) t (answered f w.far e h b) × Follows c (call_of e h b ∷ run) (answered f w.far e h b) × Grows f (answered f w.far e h b)
  core_ask run s t f e h true w core follows is due half st gt fits g =
      let core' : Core c I gives s0 (call_of e h true ∷ run) t f = core_call run s t f e h true f.refused core due g core.told in
      let made : IsTrue (was_accepted (call_of e h true ∷ run) e h) = or_left (is_of (call_of e h true) e h && true) (was_accepted run e h) (and_intro (is_of (call_of e h true) e h) true (is_of_refl e h true) refl) in
      let far = reach_more c I (was_accepted (call_of e h true ∷ run)) e w is (open_by (was_accepted (call_of e h true ∷ run)) e w.ask h half made) (core'.sound w.start st) in (
        core_note (call_of e h true ∷ run) t f w.far (Offer e h) core' far fits (w, is, half, made, refl, sym (core.ordered w.start) ∙ st, λ q. sym (core.ordered w.gate) ∙ gt q),
        (λ i j v isv a. elim (or_cases (is_of (call_of e h true) i j && true) (was_accepted run i j) a) [
          | inl p ↦
              let same = is_of_same (call_of e h true) i j (and_both (is_of (call_of e h true) i j) true p).0 in
              let isv' : IsWay c e v = subst (λ (k : ℕ). IsWay c k v) (sym same.0) isv in
              subst (λ (x : Way). IsTrue (has (slice_set f.members w.far true) x.far)) (same_way c e w v is isv') (marked_set f.members w.far fits)
          | inr p ↦ marked_grows f.members w.far v.far fits (follows i j v isv p)
        ]),
        (λ k m. marked_grows f.members w.far k fits m),
      )
  core_ask run s t f e h false w core follows is due half st gt fits g = (
    core_call run s t f e h false (kept f.explains f.refused (e, h)) core due g (λ x. rw x (ap (λ (xs : List (ℕ × Half)). xs ++ (e, h) ∷ []) (core.told x))),
    (λ i j v isv a. elim (or_cases (is_of (call_of e h false) i j && false) (was_accepted run i j) a) [
      | inl p ↦ absurd (clash (and_both (is_of (call_of e h false) i j) false p).1 refl)
      | inr p ↦ follows i j v isv p
    ]),
    (λ k m. m),
  )

  -- Taking or releasing one edge keeps the invariant for all others.
  pub moved : (T G T' G' : ℕ → Bool) (s t : O) (f g : Findings) (met met' : List Bool) (e : ℕ) (w : Way) (run' : List Call) (at' : IsAt c I gives s0 T G s f met) → IsWay c e w → Core c I gives s0 run' t g → Follows c run' g → Grows f g
      → ((k : ℕ) → k ≢ e → (T' k ≡ T k) × (G' k ≡ G k))
      → ((k : ℕ) (h : Half) → k ≢ e → was_made run' k h ≡ was_made at'.run k h)
      → ((k : ℕ) → k ≢ e → has met' k ≡ has met k)
      → (IsTrue (T' e) → IsTrue (has g.members w.start))
      → (IsTrue (G' e) → IsTrue (has g.members w.gate))
      → (w.ask ≡ asks.Nobody → IsTrue (T' e) → IsTrue (has g.members w.far))
      → ((h : Half) → IsTrue (has_half w.ask h) → was_made run' e h ≡ (T' e && (not (has_gate w.ask h) || G' e)))
      → (IsTrue (is_gated w.ask) → has met' e ≡ (T' e || G' e))
      → IsAt c I gives s0 T' G' t g met'
  moved T G T' G' s t f g met met' e w run' at' is core follows grows same others rest st fr un made cnt =
      record {
        run = run';
        core = core;
        accepted = follows;
        started = λ k v isv m. elim (eqb_tells k e) [
          | inl p ↦ let is' : IsWay c e v = subst (λ (j : ℕ). IsWay c j v) p.1 isv in
              subst (λ (x : Way). IsTrue (has g.members x.start)) (same_way c e w v is is') (st (subst (λ (j : ℕ). IsTrue (T' j)) p.1 m))
          | inr p ↦ grows v.start (at'.started k v isv (sym (same k p.1).0 ∙ m))
        ];
        freed = λ k v isv m. elim (eqb_tells k e) [
          | inl p ↦ let is' : IsWay c e v = subst (λ (j : ℕ). IsWay c j v) p.1 isv in
              subst (λ (x : Way). IsTrue (has g.members x.gate)) (same_way c e w v is is') (fr (subst (λ (j : ℕ). IsTrue (G' j)) p.1 m))
          | inr p ↦ grows v.gate (at'.freed k v isv (sym (same k p.1).1 ∙ m))
        ];
        unasked = λ k v isv q m. elim (eqb_tells k e) [
          | inl p ↦ let is' : IsWay c e v = subst (λ (j : ℕ). IsWay c j v) p.1 isv in
              let same_v = same_way c e w v is is' in
              subst (λ (x : Way). IsTrue (has g.members x.far)) same_v (un (ap (λ (x : Way). x.ask) same_v ∙ q) (subst (λ (j : ℕ). IsTrue (T' j)) p.1 m))
          | inr p ↦ grows v.far (at'.unasked k v isv q (sym (same k p.1).0 ∙ m))
        ];
        made = λ k h v isv given. elim (eqb_tells k e) [
          | inl p ↦ let is' : IsWay c e v = subst (λ (j : ℕ). IsWay c j v) p.1 isv in
              let same_v = same_way c e w v is is' in
              let given' : IsTrue (has_half w.ask h) = subst (λ (x : Way). IsTrue (has_half x.ask h)) (sym same_v) given in
              subst (λ (j : ℕ). was_made run' j h ≡ (T' j && (not (has_gate v.ask h) || G' j))) (sym p.1)
              (subst (λ (x : Way). was_made run' e h ≡ (T' e && (not (has_gate x.ask h) || G' e))) same_v (made h given'))
          | inr p ↦ rw ((same k p.1).0, (same k p.1).1) (others k h p.1 ∙ at'.made k h v isv given)
        ];
        came = λ k v isv q. elim (eqb_tells k e) [
          | inl p ↦ let is' : IsWay c e v = subst (λ (j : ℕ). IsWay c j v) p.1 isv in
              let same_v = same_way c e w v is is' in
              let q' : IsTrue (is_gated w.ask) = subst (λ (x : Way). IsTrue (is_gated x.ask)) (sym same_v) q in
              subst (λ (j : ℕ). has met' j ≡ (T' j || G' j)) (sym p.1) (cnt q')
          | inr p ↦ rw ((same k p.1).0, (same k p.1).1) (rest k p.1 ∙ at'.came k v isv q)
        ];
      }

  pub with_here : (T : ℕ → Bool) (e : ℕ) → IsTrue (with_edge T e e)
  with_here T e = or_left (e == e) (T e) (eq-eqb e e refl)

  pub with_other : (T : ℕ → Bool) (e k : ℕ) → k ≢ e → with_edge T e k ≡ T k
  with_other T e k ne = elim (eqb_tells k e) [ inl p ↦ absurd (ne p.1) | inr p ↦ rw p.0 refl ]

  -- The effect of one offer, made if it is wanted.
  pub record Stage (want : Bool) (run : List Call) (f : Findings) (e : ℕ) (h : Half) (t : O) (g : Findings) : Type 0 where
    pub after : List Call
    pub core : Core c I gives s0 after t g
    pub follows : Follows c after g
    pub grows : Grows f g
    pub made : (k : ℕ) (j : Half) → was_made after k j ≡ ((want && ((e == k) && is_half h j)) || was_made run k j)

  pub stage : (want : Bool) (run : List Call) (s : O) (f : Findings) (e : ℕ) (h : Half) (t : O) (g : Findings) (w : Way) → Core c I gives s0 run s f → Follows c run f → IsWay c e w → (IsTrue want → IsDue c I run e h) → IsTrue (has_half w.ask h) ⊎ IsFalse want → (IsTrue want → IsTrue (has f.members w.start)) → (IsTrue want → IsTrue (has_gate w.ask h) → IsTrue (has f.members w.gate)) → w.far < length f.members → Asks gives want e h w.far s f t g → Stage want run f e h t g
  stage false run s f e h t g w core follows is due half st gt fits (p, q) =
      record {
        after = run;
        core = subst (λ (x : O). Core c I gives s0 run x g) (sym p) (subst (Core c I gives s0 run s) (sym q) core);
        follows = subst (Follows c run) (sym q) follows;
        grows = subst (Grows f) (sym q) (λ k m. m);
        made = λ k j. refl;
      }
  stage true run s f e h t g w core follows is due half st gt fits (b, step, q) =
      let half' : IsTrue (has_half w.ask h) = elim half [ inl x ↦ x | inr x ↦ absurd (clash refl x) ] in
      let done = core_ask run s t f e h b w core follows is (due refl) half' (st refl) (gt refl) fits step in
      record {
        after = call_of e h b ∷ run;
        core = subst (Core c I gives s0 (call_of e h b ∷ run) t) (sym q) done.0;
        follows = subst (Follows c (call_of e h b ∷ run)) (sym q) done.1;
        grows = subst (Grows f) (sym q) done.2;
        made = λ k j. refl;
      }

  made_other : (want : Bool) (e k : ℕ) (h j : Half) (m : Bool) → k ≢ e → ((want && ((e == k) && is_half h j)) || m) ≡ m
  made_other false e k h j m ne = refl
  made_other true e k h j m ne = elim (eqb_tells e k) [ inl p ↦ absurd (ne (sym p.1)) | inr p ↦ rw p.0 refl ]

  made_here : (want : Bool) (e : ℕ) (h j : Half) (m : Bool) → ((want && ((e == e) && is_half h j)) || m) ≡ ((want && is_half h j) || m)
  made_here want e h j m = let t : (e == e) ≡ true = eq-eqb e e refl in rw t refl

  pub take_nobody : (T G : ℕ → Bool) (s : O) (f : Findings) (met : List Bool) (e : ℕ) (w : Way) → IsWay c e w → w.ask ≡ asks.Nobody → w.far < length f.members → IsFalse (T e) → IsTrue (has f.members w.start) → IsAt c I gives s0 T G s f met → IsAt c I gives s0 (with_edge T e) G s (noted f w.far (Edge e)) met
  take_nobody T G s f met e w is ask fits new st at' =
      let grows : Grows f (noted f w.far (Edge e)) = λ k m. marked_grows f.members w.far k fits m in
      let far = reach_more c I (was_accepted at'.run) e w is (open_nobody (was_accepted at'.run) e w.ask ask) (at'.core.sound w.start st) in
      moved T G (with_edge T e) G s s f (noted f w.far (Edge e)) met met e w at'.run at' is
      (core_note at'.run s f w.far (Edge e) at'.core far fits (w, is, ask, refl, sym (at'.core.ordered w.start) ∙ st))
      (λ i j v isv a. grows v.far (at'.accepted i j v isv a))
      grows
      (λ k ne. (with_other T e k ne, refl))
      (λ k h ne. refl)
      (λ k ne. refl)
      (λ _. grows w.start st)
      (λ q. grows w.gate (at'.freed e w is q))
      (λ _ _. marked_set f.members w.far fits)
      (λ h given. absurd (clash (subst (λ (a : Ask). IsTrue (has_half a h)) ask given) refl))
      (λ q. absurd (clash (subst (λ (a : Ask). IsTrue (is_gated a)) ask q) refl))

  full_made : (T G : ℕ → Bool) (e : ℕ) (m : Bool) (h : Half) → IsTrue (has_half asks.Full h) → ((true && ((e == e) && is_half Full h)) || m) ≡ (with_edge T e e && (not (has_gate asks.Full h) || G e))
  full_made T G e m Full given = let t : (e == e) ≡ true = eq-eqb e e refl in rw t refl
  full_made T G e m Required given = absurd (clash given refl)
  full_made T G e m Optional given = absurd (clash given refl)

  pub take_full : (T G : ℕ → Bool) (s t : O) (f g : Findings) (met : List Bool) (e : ℕ) (w : Way) → IsWay c e w → w.ask ≡ asks.Full → w.far < length f.members → IsFalse (T e) → IsTrue (has f.members w.start) → Asks gives true e Full w.far s f t g → IsAt c I gives s0 T G s f met → IsAt c I gives s0 (with_edge T e) G t g met
  take_full T G s t f g met e w is ask fits new st asked at' =
      let half : IsTrue (has_half w.ask Full) = subst (λ (a : Ask). IsTrue (has_half a Full)) (sym ask) refl in
      let due : IsDue c I at'.run e Full = record {
        way = w;
        is_way = is;
        half = half;
        start = at'.core.sound w.start st;
        gate = λ q. absurd (clash (subst (λ (a : Ask). IsTrue (has_gate a Full)) ask q) refl);
        fresh = at'.made e Full w is half ∙ ap (λ (b : Bool). b && (not (has_gate w.ask Full) || G e)) new;
        turn = λ q. absurd (clash q refl);
      } in
      let sg = stage true at'.run s f e Full t g w at'.core at'.accepted is (λ _. due) (inl half) (λ _. st) (λ _ q. absurd (clash (subst (λ (a : Ask). IsTrue (has_gate a Full)) ask q) refl)) fits asked in
      moved T G (with_edge T e) G s t f g met met e w sg.after at' is sg.core sg.follows sg.grows
      (λ k ne. (with_other T e k ne, refl))
      (λ k h ne. sg.made k h ∙ made_other true e k Full h (was_made at'.run k h) ne)
      (λ k ne. refl)
      (λ _. sg.grows w.start st)
      (λ q. sg.grows w.gate (at'.freed e w is q))
      (λ q _. absurd (let r : asks.Full ≡ asks.Nobody = sym ask ∙ q in cc))
      (λ h given. sg.made e h ∙ subst (λ (a : Ask). ((true && ((e == e) && is_half Full h)) || was_made at'.run e h) ≡ (with_edge T e e && (not (has_gate a h) || G e))) (sym ask) (full_made T G e (was_made at'.run e h) h (subst (λ (a : Ask). IsTrue (has_half a h)) ask given)))
      (λ q. absurd (clash (subst (λ (a : Ask). IsTrue (is_gated a)) ask q) refl))

  -- At its start the half is free exactly if it has no gate or its gate was met.
  start_open : (gated : Bool) (e : ℕ) (met met' : List Bool) (ready : Bool) (g : Bool) → Comes gated e met ready met' → (IsTrue gated → has met e ≡ (false || g)) → ready ≡ (not gated || g)
  start_open false e met met' ready g (t, q) m = t
  start_open true e met met' ready g (t, q) m = t ∙ m refl

  came_other : (gated : Bool) (e : ℕ) (met met' : List Bool) (ready : Bool) → Comes gated e met ready met' → (k : ℕ) → k ≢ e → has met' k ≡ has met k
  came_other false e met met' ready (t, q) k ne = ap (λ (xs : List Bool). has xs k) q
  came_other true e met met' ready (t, q) k ne = ap (λ (xs : List Bool). has xs k) q ∙ rw get_or-set_other refl

  came_here : (gated : Bool) (e : ℕ) (met met' : List Bool) (ready : Bool) → e < length met → Comes gated e met ready met' → IsTrue gated → IsTrue (has met' e)
  came_here false e met met' ready h l g = absurd (clash g refl)
  came_here true e met met' ready h (t, q) g = ap (λ (xs : List Bool). has xs e) q ∙ marked_set met e h

  weak_unmade : (required m : Bool) → IsFalse m → ((required && false) || m) ≡ false
  weak_unmade true m f = f
  weak_unmade false m f = f

  open_gate : (gated g : Bool) → IsTrue gated → IsTrue (not gated || g) → IsTrue g
  open_gate true g q o = o
  open_gate false g q o = absurd (clash q refl)

  weak_made_optional : (required ready m : Bool) → IsFalse m → ((ready && true) || ((required && false) || m)) ≡ ready
  weak_made_optional required true m f = refl
  weak_made_optional true false m f = f
  weak_made_optional false false m f = f

  weak_made : (T G : ℕ → Bool) (e : ℕ) (required gated ready : Bool) (m : Half → Bool) → ready ≡ (not gated || G e) → IsFalse (m Optional) → (h : Half) → IsTrue (has_half (asks.Weak required gated) h) → ((ready && is_half Optional h) || ((required && is_half Required h) || m h)) ≡ (with_edge T e e && (not (has_gate (asks.Weak required gated) h) || G e))
  weak_made T G e required gated ready m q f Full given = absurd (clash given refl)
  weak_made T G e required gated ready m q f Required given = rw (with_here T e) (or_right (ready && false) ((required && true) || m Required) (or_left (required && true) (m Required) (and_intro required true given refl)))
  weak_made T G e required gated ready m q f Optional given = rw (with_here T e) (weak_made_optional required ready (m Optional) f ∙ q)

  pub take_weak : (T G : ℕ → Bool) (s t u : O) (f g h : Findings) (met met' : List Bool) (e : ℕ) (w : Way) (required gated ready : Bool) → IsWay c e w → w.ask ≡ asks.Weak required gated → w.far < length f.members → length g.members ≡ length f.members → e < length met → IsFalse (T e) → IsTrue (has f.members w.start) → Asks gives required e Required w.far s f t g → Comes gated e met ready met' → Asks gives ready e Optional w.far t g u h → IsAt c I gives s0 T G s f met → IsAt c I gives s0 (with_edge T e) G u h met'
  take_weak T G s t u f g h met met' e w required gated ready is ask fits size inside new st asked comes asked' at' =
      let on : (P : Ask → Type 0) → P (asks.Weak required gated) → P w.ask = λ P x. subst P (sym ask) x in
      let off : (P : Ask → Type 0) → P w.ask → P (asks.Weak required gated) = λ P x. subst P ask x in
      let unmade : (j : Half) → IsTrue (has_half w.ask j) → IsFalse (was_made at'.run e j) = λ j given. at'.made e j w is given ∙ ap (λ (b : Bool). b && (not (has_gate w.ask j) || G e)) new in
      let has_optional : IsTrue (has_half w.ask Optional) = on (λ a. IsTrue (has_half a Optional)) refl in
      let due = λ (r : IsTrue required).
      let half : IsTrue (has_half w.ask Required) = on (λ a. IsTrue (has_half a Required)) r in
      let it : IsDue c I at'.run e Required = record {
        way = w;
        is_way = is;
        half = half;
        start = at'.core.sound w.start st;
        gate = λ q. absurd (clash (off (λ a. IsTrue (has_gate a Required)) q) refl);
        fresh = unmade Required half;
        turn = λ q. absurd (clash q refl);
      } in it in
      let half : IsTrue (has_half w.ask Required) ⊎ IsFalse required = elim (decide required) [ inl r ↦ inl (on (λ a. IsTrue (has_half a Required)) r) | inr r ↦ inr r ] in
      let sg = stage required at'.run s f e Required t g w at'.core at'.accepted is due half (λ _. st) (λ _ q. absurd (clash (off (λ a. IsTrue (has_gate a Required)) q) refl)) fits asked in
      let count : IsTrue gated → has met e ≡ (false || G e) = λ q. at'.came e w is (on (λ a. IsTrue (is_gated a)) q) ∙ ap (λ (b : Bool). b || G e) new in
      let is_open : ready ≡ (not gated || G e) = start_open gated e met met' ready (G e) comes count in
      let unmade' : IsFalse (was_made sg.after e Optional) = sg.made e Optional ∙ (made_here required e Required Optional (was_made at'.run e Optional) ∙ weak_unmade required (was_made at'.run e Optional) (unmade Optional has_optional)) in
      let due' = λ (o : IsTrue ready).
      let it : IsDue c I sg.after e Optional = record {
        way = w;
        is_way = is;
        half = has_optional;
        start = sg.core.sound w.start (sg.grows w.start st);
        gate = λ q. sg.core.sound w.gate (sg.grows w.gate (at'.freed e w is (open_gate gated (G e) (off (λ a. IsTrue (has_gate a Optional)) q) (sym is_open ∙ o))));
        fresh = unmade';
        turn = λ q. sg.made e Required ∙ (made_here required e Required Required (was_made at'.run e Required) ∙ or_left (required && true) (was_made at'.run e Required) (and_intro required true (off (λ a. IsTrue (has_turn a Optional)) q) refl));
      } in it in
      let sh = stage ready sg.after t g e Optional u h w sg.core sg.follows is due' (inl has_optional) (λ _. sg.grows w.start st) (λ o q. sg.grows w.gate (at'.freed e w is (open_gate gated (G e) (off (λ a. IsTrue (has_gate a Optional)) q) (sym is_open ∙ o)))) (rw size fits) asked' in
      moved T G (with_edge T e) G s u f h met met' e w sh.after at' is sh.core sh.follows (λ k m. sh.grows k (sg.grows k m))
      (λ k ne. (with_other T e k ne, refl))
      (λ k j ne. sh.made k j ∙ (made_other ready e k Optional j (was_made sg.after k j) ne ∙ (sg.made k j ∙ made_other required e k Required j (was_made at'.run k j) ne)))
      (came_other gated e met met' ready comes)
      (λ _. sh.grows w.start (sg.grows w.start st))
      (λ q. sh.grows w.gate (sg.grows w.gate (at'.freed e w is q)))
      (λ q _. absurd (let r : asks.Weak required gated ≡ asks.Nobody = sym ask ∙ q in cc))
      (λ j given. sh.made e j ∙ (made_here ready e Optional j (was_made sg.after e j) ∙ (ap (λ (b : Bool). (ready && is_half Optional j) || b) (sg.made e j ∙ made_here required e Required j (was_made at'.run e j))
      ∙ on (λ a. ((ready && is_half Optional j) || ((required && is_half Required j) || was_made at'.run e j)) ≡ (with_edge T e e && (not (has_gate a j) || G e)))
      (weak_made T G e required gated ready (was_made at'.run e) is_open (unmade Optional has_optional) j (off (λ a. IsTrue (has_half a j)) given)))))
      (λ q. let q' : IsTrue gated = off (λ a. IsTrue (is_gated a)) q in
      came_here gated e met met' ready inside comes q' ∙ sym (or_left (with_edge T e e) (G e) (with_here T e)))

  -- At its gate the half is free exactly if its start was met.
  gate_open : (e : ℕ) (met met' : List Bool) (ready : Bool) (t : Bool) → Comes true e met ready met' → has met e ≡ (t || false) → ready ≡ t
  gate_open e met met' ready true (q, r) m = q ∙ m
  gate_open e met met' ready false (q, r) m = q ∙ m

  and_true : (t g : Bool) → IsTrue g → (t && g) ≡ t
  and_true true g q = q
  and_true false g q = refl

  and_false : (t g : Bool) → IsFalse g → (t && (false || g)) ≡ false
  and_false true g q = q
  and_false false g q = refl

  freed_required : (ready m : Bool) → ((ready && false) || m) ≡ m
  freed_required true m = refl
  freed_required false m = refl

  freed_optional : (ready m : Bool) → IsFalse m → ((ready && true) || m) ≡ ready
  freed_optional true m f = refl
  freed_optional false m f = f

  freed_made : (T G : ℕ → Bool) (e : ℕ) (required ready : Bool) (m : Half → Bool) → ready ≡ T e → IsFalse (m Optional) → (IsTrue required → m Required ≡ (T e && true)) → (h : Half) → IsTrue (has_half (asks.Weak required true) h) → ((ready && is_half Optional h) || m h) ≡ (T e && (not (has_gate (asks.Weak required true) h) || with_edge G e e))
  freed_made T G e required ready m q f r Full given = absurd (clash given refl)
  freed_made T G e required ready m q f r Required given = freed_required ready (m Required) ∙ r given
  freed_made T G e required ready m q f r Optional given = freed_optional ready (m Optional) f ∙ (q ∙ sym (and_true (T e) (with_edge G e e) (with_here G e)))

  pub free_weak : (T G : ℕ → Bool) (s u : O) (f h : Findings) (met met' : List Bool) (e : ℕ) (w : Way) (required ready : Bool) → IsWay c e w → w.ask ≡ asks.Weak required true → w.far < length f.members → e < length met → IsFalse (G e) → IsTrue (has f.members w.gate) → Comes true e met ready met' → Asks gives ready e Optional w.far s f u h → IsAt c I gives s0 T G s f met → IsAt c I gives s0 T (with_edge G e) u h met'
  free_weak T G s u f h met met' e w required ready is ask fits inside new gate comes asked at' =
      let on : (P : Ask → Type 0) → P (asks.Weak required true) → P w.ask = λ P x. subst P (sym ask) x in
      let off : (P : Ask → Type 0) → P w.ask → P (asks.Weak required true) = λ P x. subst P ask x in
      let has_optional : IsTrue (has_half w.ask Optional) = on (λ a. IsTrue (has_half a Optional)) refl in
      let count : has met e ≡ (T e || false) = at'.came e w is (on (λ a. IsTrue (is_gated a)) refl) ∙ ap (λ (b : Bool). T e || b) new in
      let is_ready : ready ≡ T e = gate_open e met met' ready (T e) comes count in
      let unmade : IsFalse (was_made at'.run e Optional) = at'.made e Optional w is has_optional ∙ on (λ a. (T e && (not (has_gate a Optional) || G e)) ≡ false) (and_false (T e) (G e) new) in
      let made_required : IsTrue required → was_made at'.run e Required ≡ (T e && true) = λ r. at'.made e Required w is (on (λ a. IsTrue (has_half a Required)) r) ∙ on (λ a. (T e && (not (has_gate a Required) || G e)) ≡ (T e && true)) refl in
      let due' = λ (o : IsTrue ready).
      let t : IsTrue (T e) = sym is_ready ∙ o in
      let it : IsDue c I at'.run e Optional = record {
        way = w;
        is_way = is;
        half = has_optional;
        start = at'.core.sound w.start (at'.started e w is t);
        gate = λ q. at'.core.sound w.gate gate;
        fresh = unmade;
        turn = λ q. made_required (off (λ a. IsTrue (has_turn a Optional)) q) ∙ and_intro (T e) true t refl;
      } in it in
      let sh = stage ready at'.run s f e Optional u h w at'.core at'.accepted is due' (inl has_optional) (λ o. at'.started e w is (sym is_ready ∙ o)) (λ _ _. gate) fits asked in
      moved T G T (with_edge G e) s u f h met met' e w sh.after at' is sh.core sh.follows sh.grows
      (λ k ne. (refl, with_other G e k ne))
      (λ k j ne. sh.made k j ∙ made_other ready e k Optional j (was_made at'.run k j) ne)
      (came_other true e met met' ready comes)
      (λ t. sh.grows w.start (at'.started e w is t))
      (λ _. sh.grows w.gate gate)
      (λ q _. absurd (let r : asks.Weak required true ≡ asks.Nobody = sym ask ∙ q in cc))
      (λ j given. sh.made e j ∙ (made_here ready e Optional j (was_made at'.run e j)
      ∙ on (λ a. ((ready && is_half Optional j) || was_made at'.run e j) ≡ (T e && (not (has_gate a j) || with_edge G e e)))
      (freed_made T G e required ready (was_made at'.run e) is_ready unmade made_required j (off (λ a. IsTrue (has_half a j)) given))))
      (λ q. came_here true e met met' ready inside comes refl ∙ sym (or_right (T e) (with_edge G e e) (with_here G e)))
