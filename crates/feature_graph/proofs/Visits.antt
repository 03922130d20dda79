-- Walks with an adapter around a visitor: the properties of the adapter's run are those of the visitor's.
use Rattle.std.proofs.Common.{◌≡◌, ℕ, Bool, List, [], ◌∷◌, refl, ap, sym, ◌∙◌, subst}
use Rattle.std.specs.Prelude.{IsTrue, IfOk, OnErr, Result, Ok, Err}
use Rattle.digraphs.specs.Bits.{has}
use Rattle.feature_core.specs.Built.{IsBuilt}
use Rattle.walk_engine.specs.declared.walks.Half.{Half}
use Rattle.walk_engine.specs.declared.walks.Step.{Step}
use Rattle.walk_engine.specs.Explanations.{IsExplainedWalk}
use Rattle.walk_engine.specs.Walks.{Content, Way, Call, IsWay, has_half, GoesAlong, IsWalk, LegalRun, Agrees, MayAsk}
use Rattle.walk_engine.specs.Laws.{AnswersBy as AnswersAs}
use Rattle.feature_graph.specs.LinkValues.{Link, has_facts}
use Rattle.feature_graph.specs.Values.{Query}
use Rattle.feature_graph.specs.Visits.{query_content, offered, showable, shown}
use Rattle.feature_graph.specs.declared.resolve.with.Shown.{Shown}
use Rattle.feature_graph.proofs.Offered.{OffersAreLinks, offer_stands}

-- `S` contains a visitor `T`: while `P` holds, each step of `S` is a step of its `T`, and `P` still holds after it
module _ {S T : Type 0} (P : S → Type 0) (v : S → T) (outer : S → ℕ → Half → Bool → S → Type 0) (inner : T → ℕ → Half → Bool → T → Type 0) where
  abbrev pub AnswersBy : Type 0
  AnswersBy = (p : S) (e : ℕ) (h : Half) (answer : Bool) (r : S) → P p → outer p e h answer r → P r × inner (v p) e h answer (v r)

  pub goes_along : AnswersBy → (s : S) (run : List Call) (t : S) → P s → GoesAlong outer s run t → P t × GoesAlong inner (v s) run (v t)
  goes_along by s [] t holds same = (subst P same holds, ap v same)
  goes_along by s (call ∷ before) t holds (m, along, step) =
      let more = goes_along by s before m holds along in
      let one = by m call.edge call.half call.answer t more.0 step in
      (one.0, (v m, more.1, one.1))

  pub legal_run : AnswersBy → (c : Content) (I : ℕ → Bool) (s t : S) → P s → LegalRun c I outer s t → P t × LegalRun c I inner (v s) (v t)
  legal_run by c I s t holds (run, calls, legal) =
      let moved = goes_along by s run t holds calls in
      (moved.0, (run, moved.1, legal))

  pub is_walk : AnswersBy → (c : Content) (I : ℕ → Bool) (s t : S) (M : ℕ → Bool) → P s → IsWalk c I outer s t M → P t × IsWalk c I inner (v s) (v t) M
  is_walk by c I s t M holds walk =
      let moved = goes_along by s walk.run t holds walk.calls in
      (moved.0, record { run = walk.run; calls = moved.1; legal = walk.legal; complete = walk.complete; members = walk.members; least = walk.least })

  pub is_explained_walk : AnswersBy → (c : Content) (I : ℕ → Bool) (s t : S) (M : ℕ → Bool) (steps : List Step) (refused : List (ℕ × Half)) → P s
      → IsExplainedWalk c I outer s t M steps refused → P t × IsExplainedWalk c I inner (v s) (v t) M steps refused
  unfolding is_walk
  is_explained_walk by c I s t M steps refused holds told =
      let moved = is_walk by c I s t M holds told.walk in
      (moved.0, record { walk = moved.1; explanation = told.explanation; listed = told.listed; refused_in_order = told.refused_in_order })

  -- conversely: if `T` may be called in every state, so may `S`
  pub may_ask : AnswersBy → (may : S → ℕ → Half → Type 0) (can : T → ℕ → Half → Type 0) (c : Content) (s : S) → P s
      → ((p : S) (e : ℕ) (h : Half) (w : Way) → P p → IsWay c e w → IsTrue (has_half w.ask h) → can (v p) e h → may p e h)
      → MayAsk can inner c (v s) → MayAsk may outer c s
  may_ask by may can c s holds asked all run t offers calls e h w is half =
      let moved = goes_along by s run t holds calls in
      asked t e h w moved.0 is half (all run (v t) offers moved.1 e h w is half)

-- the adapter that shows offers to a visitor keeps its context and the reference to the visitor
module _ {V : Type 0} (may : V → Query → Link → Type 0) (gives : V → Query → Link → Bool → V → Type 0) where
  abbrev AdapterMay : Shown V → ℕ → Half → Type 0
  AdapterMay s e h = IsTrue (has_facts (offered s.cx.now.graph e h)) × showable may s.cx.now s.visitor.now e h

  abbrev AdapterGives : Shown V → ℕ → Half → Bool → Shown V → Type 0
  AdapterGives s e h answer t = (t.cx ≡ s.cx) × (t.visitor.ghost_name ≡ s.visitor.ghost_name) × shown gives s.cx.now s.visitor.now e h answer t.visitor.now

  abbrev Stays : Shown V → Shown V → Type 0
  Stays s p = (p.cx ≡ s.cx) × (p.visitor.ghost_name ≡ s.visitor.ghost_name)

  answers_by : (s : Shown V) → AnswersBy (Stays s) (λ p. p.visitor.now) AdapterGives (shown gives s.cx.now)
  answers_by s p e h answer r stays step =
      ((step.0 ∙ stays.0, step.1 ∙ stays.1), subst (λ cx. gives p.visitor.now cx.now (offered cx.now.graph e h) answer r.visitor.now) stays.0 step.2)

  pub shown_walk : (s t : Shown V) (c : Content) (marks : List Bool) (M : ℕ → Bool) → c ≡ query_content s.cx.now → marks ≡ s.cx.now.initials → IsWalk c (has marks) AdapterGives s t M
      → (t.visitor.ghost_name ≡ s.visitor.ghost_name) × IsWalk (query_content s.cx.now) (has s.cx.now.initials) (shown gives s.cx.now) s.visitor.now t.visitor.now M
  shown_walk s t c marks M same initials walk =
      let moved = is_walk (Stays s) (λ p. p.visitor.now) AdapterGives (shown gives s.cx.now) (answers_by s) c (has marks) s t M (refl, refl) walk in
      let at : IsWalk c (has s.cx.now.initials) (shown gives s.cx.now) s.visitor.now t.visitor.now M = subst (λ z. IsWalk c (has z) (shown gives s.cx.now) s.visitor.now t.visitor.now M) initials moved.1 in
      (moved.0.1, subst (λ z. IsWalk z (has s.cx.now.initials) (shown gives s.cx.now) s.visitor.now t.visitor.now M) same at)

  pub shown_explained : (s t : Shown V) (c : Content) (marks : List Bool) (M : ℕ → Bool) (steps : List Step) (refused : List (ℕ × Half)) → c ≡ query_content s.cx.now → marks ≡ s.cx.now.initials → IsExplainedWalk c (has marks) AdapterGives s t M steps refused
      → (t.visitor.ghost_name ≡ s.visitor.ghost_name) × IsExplainedWalk (query_content s.cx.now) (has s.cx.now.initials) (shown gives s.cx.now) s.visitor.now t.visitor.now M steps refused
  shown_explained s t c marks M steps refused same initials walk =
      let moved = is_explained_walk (Stays s) (λ p. p.visitor.now) AdapterGives (shown gives s.cx.now) (answers_by s) c (has marks) s t M steps refused (refl, refl) walk in
      let at : IsExplainedWalk c (has s.cx.now.initials) (shown gives s.cx.now) s.visitor.now t.visitor.now M steps refused = subst (λ z. IsExplainedWalk c (has z) (shown gives s.cx.now) s.visitor.now t.visitor.now M steps refused) initials moved.1 in
      (moved.0.1, subst (λ z. IsExplainedWalk z (has s.cx.now.initials) (shown gives s.cx.now) s.visitor.now t.visitor.now M steps refused) same at)

  pub shown_run : (s t : Shown V) (c : Content) (marks : List Bool) → c ≡ query_content s.cx.now → marks ≡ s.cx.now.initials → LegalRun c (has marks) AdapterGives s t
      → (t.visitor.ghost_name ≡ s.visitor.ghost_name) × LegalRun (query_content s.cx.now) (has s.cx.now.initials) (shown gives s.cx.now) s.visitor.now t.visitor.now
  shown_run s t c marks same initials run =
      let moved = legal_run (Stays s) (λ p. p.visitor.now) AdapterGives (shown gives s.cx.now) (answers_by s) c (has marks) s t (refl, refl) run in
      let at : LegalRun c (has s.cx.now.initials) (shown gives s.cx.now) s.visitor.now t.visitor.now = subst (λ z. LegalRun c (has z) (shown gives s.cx.now) s.visitor.now t.visitor.now) initials moved.1 in
      (moved.0.1, subst (λ z. LegalRun z (has s.cx.now.initials) (shown gives s.cx.now) s.visitor.now t.visitor.now) same at)

  pub shown_may : (s : Shown V) (c : Content) → c ≡ query_content s.cx.now → OffersAreLinks s.cx.now.graph.tables → IsBuilt s.cx.now.graph.tables s.cx.now.graph.built
      → MayAsk (showable may s.cx.now) (shown gives s.cx.now) (query_content s.cx.now) s.visitor.now → MayAsk AdapterMay AdapterGives c s
  shown_may s c same law built all =
      subst (λ z. MayAsk AdapterMay AdapterGives z s) (sym same)
      (may_ask
      (Stays s) (λ p. p.visitor.now) AdapterGives (shown gives s.cx.now) (answers_by s) AdapterMay (showable may s.cx.now) (query_content s.cx.now) s (refl, refl)
      (λ p e h w stays is half can.
      subst (λ cx. IsTrue (has_facts (offered cx.now.graph e h)) × may p.visitor.now cx.now (offered cx.now.graph e h)) (sym stays.0) (offer_stands s.cx.now law built e h w is half, can))
      all)

-- a property of both outcomes of a walk
pub at_both_ends : {A E X : Type 0} (P : A → Type 0) (Q : Type 0) (r : Result A E) → IfOk r P → OnErr r Q → ((a : A) → P a → X) → (Q → X) → X
at_both_ends P Q (Ok a) ok err f g = f a ok
at_both_ends P Q (Err e) ok err f g = g err

pub on_err : {A E P : Type 0} (r : Result A E) → P → OnErr r P
on_err (Ok a) p = tt
on_err (Err e) p = p

-- a test that decides each offer agrees with the run
pub agrees_along : {V : Type 0} (gives : V → ℕ → Half → Bool → V → Type 0) (A : ℕ → Half → Bool) (s : V) → AnswersAs gives A s → (run : List Call) (t : V) → GoesAlong gives s run t → Agrees A run
agrees_along gives A s answers [] t along = tt
agrees_along gives A s answers (call ∷ before) t (m, along, step) =
    (sym (answers before m t call.edge call.half call.answer along step), agrees_along gives A s answers before m along)

-- a run of one query is a run of every equal query
pub run_moved : {V : Type 0} (gives : V → Query → Link → Bool → V → Type 0) (p q : Query) (s t : V) → p ≡ q → LegalRun (query_content p) (has p.initials) (shown gives p) s t → LegalRun (query_content q) (has q.initials) (shown gives q) s t
run_moved gives p q s t is run = subst (λ z. LegalRun (query_content z) (has z.initials) (shown gives z) s t) is run

pub walk_moved : {V : Type 0} (gives : V → Query → Link → Bool → V → Type 0) (p q : Query) (s t : V) (M : ℕ → Bool) (steps : List Step) (refused : List (ℕ × Half)) → p ≡ q
    → IsExplainedWalk (query_content p) (has p.initials) (shown gives p) s t M steps refused → IsExplainedWalk (query_content q) (has q.initials) (shown gives q) s t M steps refused
walk_moved gives p q s t M steps refused is walk = subst (λ z. IsExplainedWalk (query_content z) (has z.initials) (shown gives z) s t M steps refused) is walk
