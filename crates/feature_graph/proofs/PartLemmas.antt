-- The parts of a set, call by call.
use Rattle.std.proofs.Common.{◌≡◌, ℕ, zero, suc, ◌++◌, inl, inr, ⊎_elim, Bool, false, List, [], ◌∷◌, length, map, refl, ap, sym, ◌∙◌, subst, arith, append_assoc, append-nil, replicate}
use Rattle.std.specs.Prelude.{IsTrue, Contains}
use Rattle.std.proofs.lemmas.Fn.{FoldsTo-push}
use Rattle.std.proofs.lemmas.List.{map-append, length-replicate}
use Rattle.std.proofs.lemmas.List.Elements.{Contains-append_left, Contains-append_cases, Contains-push}
use Rattle.digraphs.specs.Bits.{has}
use Rattle.guppy_packages.specs.Tables.{Tables}
use Rattle.guppy_packages.specs.declared.direction.DependencyDirection.{DependencyDirection}
use Rattle.feature_core.specs.Built.{NodeNamed}
use Rattle.feature_core.specs.Nodes.{nodes}
use Rattle.feature_graph.proofs.ListLemmas.{element_cases}
use Rattle.feature_graph.specs.Ordered.{AtOrder, ordered_nodes}
use Rattle.feature_graph.specs.Parts.{CallsAt, Calls, IsPart, MayCallEach}
use Rattle.feature_graph.specs.Values.{Set}
use Rattle.feature_graph.specs.Views.{feature_name_of, feature_tables_of}
use Rattle.feature_graph.specs.declared.graph.metadata.FeatureMetadata.{FeatureMetadata}
use Rattle.feature_graph.specs.inner.Sorting.{HasCalled, IsFilled, IsPut}

none_has : (size n : ℕ) → IsTrue (has (replicate size false) n) → ⊥
none_has zero n h = cc
none_has (suc size) zero h = cc
none_has (suc size) (suc n) h = none_has size n h

no_call : {X : Type 0} (x : X) → Contains [] x → ⊥
no_call x h = omega (arith, h.1)

last_call : {X : Type 0} (x y : X) → Contains (x ∷ []) y → x ≡ y
last_call x y h = ⊎_elim (λ e. e) (λ i. absurd (no_call y i)) (element_cases x [] y h)

module _ {A : Type 0} (test : A → Bool) where
  filled_none : (size : ℕ) (members : List Bool) → members ≡ replicate size false → IsFilled test [] size members
  filled_none size members empty = record {
    long = ap length empty ∙ length-replicate size false;
    exact = λ n. (
      (λ h. absurd (none_has size n (subst (λ m. IsTrue (has m n)) empty h))),
      (λ h. absurd (no_call (n, h.0) h.1)),
    );
  }

  filled_more : (calls : List (ℕ × A)) (size node : ℕ) (answer : A) (old new : List Bool) → IsFilled test calls size old → IsPut (test answer) node old new → IsFilled test (calls ++ (node, answer) ∷ []) size new
  filled_more calls size node answer old new filled put = record {
    long = put.size ∙ filled.long;
    exact = λ n. (
      (λ h. ⊎_elim
          (λ before. let b = (filled.exact n).0 before in (b.0, Contains-append_left calls ((node, answer) ∷ []) (n, b.0) b.1, b.2))
          (λ now. (answer, subst (λ k. Contains (calls ++ (node, answer) ∷ []) (k, answer)) (sym now.0) (Contains-push calls (node, answer)), now.1))
          ((put.adds n).0 h)),
      (λ h. ⊎_elim
          (λ before. (put.adds n).1 (inl ((filled.exact n).1 (h.0, before, h.2))))
          (λ last.
          let same : ◌≡◌ {A = ℕ × A} (node, answer) (n, h.0) = last_call (node, answer) (n, h.0) last in
          (put.adds n).1 (inr (sym (ap (λ x. x.0) same), subst (λ a. IsTrue (test a)) (sym (ap (λ x. x.1) same)) h.2)))
          (Contains-append_cases calls ((node, answer) ∷ []) (n, h.0) h.1)),
    );
  }

module _ {F A : Type 0} (step : F → FeatureMetadata → A → F → Type 0) (first second : A → Bool) (t : Tables) (all : List ℕ) (f : F) where
  pub called_none : (one other : List Bool) → one ≡ replicate (length (nodes t)) false → other ≡ replicate (length (nodes t)) false → HasCalled step first second t all all f f one other
  called_none one other e k = record {
    calls = [];
    each = refl;
    steps = refl;
    one_filled = filled_none first (length (nodes t)) one e;
    other_filled = filled_none second (length (nodes t)) other k;
  }

  pub called_more : (numbers rest : List ℕ) (node : ℕ) (g h : F) (one other one_more other_more : List Bool) (m : FeatureMetadata) (answer : A) → HasCalled step first second t all numbers f g one other → numbers ≡ node ∷ rest
      → feature_tables_of m ≡ t → NodeNamed t node (feature_name_of m) → step g m answer h → IsPut (first answer) node one one_more → IsPut (second answer) node other other_more
      → HasCalled step first second t all rest f h one_more other_more
  called_more numbers rest node g h one other one_more other_more m answer before is of named made put put_other = record {
    calls = before.calls ++ (node, answer) ∷ [];
    each =
        ap (λ l. l ++ rest) (map-append {A = ℕ × A} (λ x. x.0) before.calls ((node, answer) ∷ []))
        ∙ append_assoc (map (λ x. x.0) before.calls) (node ∷ []) rest
        ∙ ap (λ l. map (λ x. x.0) before.calls ++ l) (sym is)
        ∙ before.each;
    steps = FoldsTo-push (λ p x q. CallsAt step t p x q) f before.calls g (node, answer) h before.steps (record { feature = m; of_graph = of; named = named; call_step = made });
    one_filled = filled_more first before.calls (length (nodes t)) node answer one one_more before.one_filled put;
    other_filled = filled_more second before.calls (length (nodes t)) node answer other other_more before.other_filled put_other;
  }

-- a callback that may be called for a list of nodes may be called for the first, and then for the others
module _ {F A : Type 0} (pre : F → FeatureMetadata → Type 0) (step : F → FeatureMetadata → A → F → Type 0) (t : Tables) (numbers rest : List ℕ) (node : ℕ) (f : F) (may : MayCallEach pre step t numbers f) (is : numbers ≡ node ∷ rest) where
  pub may_call : (m : FeatureMetadata) → feature_tables_of m ≡ t → NodeNamed t node (feature_name_of m) → pre f m
  may_call m of named = may [] f node rest m refl (sym is) of named

  pub may_rest : (answer : A) (g : F) → CallsAt step t f (node, answer) g → MayCallEach pre step t rest g
  may_rest answer g call calls h n later m folds same of named = may ((node, answer) ∷ calls) h n later m (g, call, folds) (ap (λ l. node ∷ l) same ∙ sym is) of named

-- at the end the callback was called for all features
pub calls_made : {F A : Type 0} (step : F → FeatureMetadata → A → F → Type 0) (first second : A → Bool) (direction : DependencyDirection) (s : Set) (t : Tables) (numbers : List ℕ) (f g : F) (one other : List Bool) (a b : Set)
    → t ≡ s.graph.tables → AtOrder s.graph (λ o. numbers ≡ ordered_nodes direction s o) → HasCalled step first second t numbers [] f g one other
    → a.graph ≡ s.graph → a.members ≡ one → b.graph ≡ s.graph → b.members ≡ other
    → Calls step direction s f g (λ calls. IsPart first calls s a × IsPart second calls s b)
calls_made {F} {A} step first second direction s t numbers f g one other a b same order called_at a_graph a_members b_graph b_members =
    let called : HasCalled step first second s.graph.tables numbers [] f g one other = subst (λ u. HasCalled step first second u numbers [] f g one other) same called_at in (
      order.0,
      order.1,
      (
        called.calls,
        record { each = sym (append-nil (map (λ x. x.0) called.calls)) ∙ called.each ∙ order.2; steps = called.steps },
        (
          part called.calls first a one a_graph a_members called.one_filled,
          part called.calls second b other b_graph b_members called.other_filled,
        ),
      ),
    )
  where
    part : (calls : List (ℕ × A)) (test : A → Bool) (c : Set) (members : List Bool) → c.graph ≡ s.graph → c.members ≡ members → IsFilled test calls (length (nodes s.graph.tables)) members → IsPart test calls s c
    part calls test c members graph is filled = record {
      graph = graph;
      size = ap length is ∙ filled.long;
      exact = λ n. ((λ h. (filled.exact n).0 (subst (λ m. IsTrue (has m n)) is h)), (λ h. subst (λ m. IsTrue (has m n)) (sym is) ((filled.exact n).1 h)));
    }
