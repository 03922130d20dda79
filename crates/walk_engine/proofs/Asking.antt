use Rattle.std.proofs.Common.{◌≡◌, ℕ, ◌<◌, Bool, true, false, List, [], ◌∷◌, ◌++◌, Option, Some, None, refl, sym, ◌∙◌, ap, subst, arith}
use Rattle.std.specs.Prelude.{IsTrue, slice_get}
use Rattle.walk_engine.specs.declared.walks.Half.{Half}
use Rattle.walk_engine.specs.declared.walks.Taken.{Taken}
use Rattle.walk_engine.specs.Walks.{Content, Way, Call, IsWay, EndsAreNodes, has_half, GoesAlong, AreOffers, MayAsk, numbers_where, told, taken_of}
use Rattle.walk_engine.specs.inner.WalkProgress.{Findings, Asks}
use Rattle.walk_engine.proofs.WayNumbers.{number_way}
use Rattle.walk_engine.proofs.WalkMoves.{call_of}

steps_before : {O : Type 0} (gives : O → ℕ → Half → Bool → O → Type 0) (s : O) (e : ℕ) (h : Half) (b : Bool) (t : O) (run : List Call) (u : O) → gives s e h b t → GoesAlong gives t run u → GoesAlong gives s (run ++ call_of e h b ∷ []) u
steps_before gives s e h b t [] u g p = (s, refl, subst (λ x. gives s e h b x) p g)
steps_before gives s e h b t (call ∷ before) u g (m, st, g') = (m, steps_before gives s e h b t before m g st, g')

offers_before : (c : Content) (run : List Call) (e : ℕ) (h : Half) (b : Bool) (w : Way) → IsWay c e w → IsTrue (has_half w.ask h) → AreOffers c run → AreOffers c (run ++ call_of e h b ∷ [])
offers_before c [] e h b w is half a = ((w, is, half), tt)
offers_before c (call ∷ before) e h b w is half (one, a) = (one, offers_before c before e h b w is half a)

-- After an offer each offer may still be made.
pub may_after : {O : Type 0} (can : O → ℕ → Half → Type 0) (gives : O → ℕ → Half → Bool → O → Type 0) (c : Content) (want : Bool) (e : ℕ) (h : Half) (far : ℕ) (s : O) (f : Findings) (t : O) (g : Findings) (w : Way) → IsWay c e w → (IsTrue want → IsTrue (has_half w.ask h)) → Asks gives want e h far s f t g → MayAsk can gives c s → MayAsk can gives c t
may_after can gives c false e h far s f t g w is half (p, q) may = subst (λ x. MayAsk can gives c x) (sym p) may
may_after can gives c true e h far s f t g w is half (b, step, q) may =
    λ run u offers steps. may (run ++ call_of e h b ∷ []) u (offers_before c run e h b w is (half refl) offers) (steps_before gives s e h b t run u step steps)

-- The parts of an edge that was looked up at a place.
abbrev pub Seen : Content → (Way → Bool) → ℕ → Taken → Type 0
Seen c p place taken = (start : ℕ) × (gate : ℕ) × (slice_get (numbers_where p 0 c.ways) place ≡ Some taken.edge) × IsWay c taken.edge (record { start = start; far = taken.far; ask = taken.ask; gate = gate }) × IsTrue (p (record { start = start; far = taken.far; ask = taken.ask; gate = gate }))

seen_same : (c : Content) (p : Way → Bool) (place e : ℕ) (w : Way) (taken : Taken) → slice_get (numbers_where p 0 c.ways) place ≡ Some e → IsWay c e w → IsTrue (p w) → ◌≡◌ {A = Taken} (record { edge = e; far = w.far; ask = w.ask }) taken → Seen c p place taken
seen_same c p place e w taken q is pass same =
    let P : Taken → Type 0 = λ t. Seen c p place t in
    subst P same (w.start, w.gate, q, is, pass)

seen_at : (c : Content) (p : Way → Bool) (place : ℕ) (taken : Taken) (o : Option ℕ) → slice_get (numbers_where p 0 c.ways) place ≡ o → told c o ≡ Some taken → Seen c p place taken
seen_at c p place taken None q h = absurd (cc)
seen_at c p place taken (Some e) q h =
    let n = number_way p 0 c.ways place e q in
    let w = n.2.0 in
    let same : n.0 ≡ e = omega arith in
    let is : IsWay c e w = subst (λ (i : ℕ). slice_get c.ways i ≡ Some w) same n.2.1 in
    let told' : Some (record { edge = e; far = w.far; ask = w.ask }) ≡ Some taken = sym (ap (taken_of e) is) ∙ h in
    seen_same c p place e w taken q is n.2.2 cc

pub seen : (c : Content) (p : Way → Bool) (place : ℕ) (taken : Taken) → told c (slice_get (numbers_where p 0 c.ways) place) ≡ Some taken → Seen c p place taken
seen c p place taken h = seen_at c p place taken (slice_get (numbers_where p 0 c.ways) place) refl h

none_at : (c : Content) (p : Way → Bool) (place : ℕ) (o : Option ℕ) → slice_get (numbers_where p 0 c.ways) place ≡ o → told c o ≡ None → slice_get (numbers_where p 0 c.ways) place ≡ None
none_at c p place None q h = q
none_at c p place (Some e) q h =
    let n = number_way p 0 c.ways place e q in
    let same : n.0 ≡ e = omega arith in
    let is : IsWay c e n.2.0 = subst (λ (i : ℕ). slice_get c.ways i ≡ Some n.2.0) same n.2.1 in
    let told' = sym (ap (taken_of e) is) ∙ h in
    absurd (cc)

pub unseen : (c : Content) (p : Way → Bool) (place : ℕ) → told c (slice_get (numbers_where p 0 c.ways) place) ≡ None → slice_get (numbers_where p 0 c.ways) place ≡ None
unseen c p place h = none_at c p place (slice_get (numbers_where p 0 c.ways) place) refl h

-- The far end of an edge that was looked up is a node.
pub far_within : (c : Content) (p : Way → Bool) (place : ℕ) (taken : Taken) → EndsAreNodes c → told c (slice_get (numbers_where p 0 c.ways) place) ≡ Some taken → taken.far < c.nodes
far_within c p place taken ends h = let k = seen c p place taken h in (ends taken.edge _ k.3).1
