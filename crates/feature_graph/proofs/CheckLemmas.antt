-- Checks of named explanations.
use Rattle.std.proofs.Common.{◌≡◌, ◌∙◌, ◌++◌, ◌∷◌, [], refl, sym, subst, inl, inr, ℕ, Bool, true, false, cond, ◌||◌, List, Option, Some, None, filter, length}
use Rattle.std.specs.Prelude.{◌↔◌, ◌==◌, IsTrue, IsFalse, MatchOption, slice_get}
use Rattle.std.proofs.lemmas.Bool.{eq-eqb}
use Rattle.std.proofs.lemmas.Option.{none-some, same_Some}
use Rattle.digraphs.specs.Bits.{has}
use Rattle.guppy_packages.specs.declared.direction.DependencyDirection.{DependencyDirection}
use Rattle.feature_labels.specs.declared.link_declarations.LinkDeclarations.{LinkDeclarations}
use Rattle.feature_core.specs.Built.{NodeNamed}
use Rattle.feature_core.specs.Nodes.{nodes}
use Rattle.feature_core.specs.Offers.{content_of}
use Rattle.walk_engine.specs.declared.walks.Half.{Half}
use Rattle.walk_engine.specs.declared.walks.Step.{Step}
use Rattle.walk_engine.specs.declared.walks.StepReason.{StepReason}
use Rattle.walk_engine.specs.declared.walks.StepReason.TheVariants.{Initial, Edge, Offer}
use Rattle.walk_engine.specs.Explanations.{IsReason, IsExplanation, nodes_of}
use Rattle.walk_engine.specs.Laws.{every}
use Rattle.walk_engine.specs.Walks.{Content, is_in}
use Rattle.walk_checks.specs.Exact.{all_but, IsExact}
use Rattle.walk_checks.specs.Whys.{IsWhy}
use Rattle.feature_graph.specs.Explained.{AreRefused, Explains, ExplainsAll, IsBacked, ListMembers}
use Rattle.feature_graph.specs.Names.{HoldsExactly}
use Rattle.feature_graph.specs.Told.{ReasonName, Explanation}
use Rattle.feature_graph.specs.Values.{Graph}
use Rattle.feature_graph.specs.inner.Numbered.{AreNumbered, IsPossible}
use Rattle.feature_graph.proofs.Explanations.{exact_same, explanation_grows}
use Rattle.feature_graph.proofs.NumberedLemmas.{numbered_told, offer_forward, or_cases, told_numbered}
use Rattle.feature_graph.proofs.ToldLemmas.{Name}

possible_reason : (g : Graph) (d : DependencyDirection) (I : ℕ → Bool) (A : ℕ → Half → Bool) (before : List ℕ) (n : ℕ) (reason : StepReason) → IsReason (content_of d g.built) I A before n reason → IsPossible g reason
possible_reason g d I A before n Initial is = tt
possible_reason g d I A before n (Edge e) is = tt
possible_reason g d I A before n (Offer e h) (w, is, half, a, far, start, gate) = offer_forward d g.built e h (record { way = w; is_way = is; half = half })

possible_steps : (g : Graph) (d : DependencyDirection) (I : ℕ → Bool) (A : ℕ → Half → Bool) (steps : List Step) → IsExplanation (content_of d g.built) I A steps → (k : ℕ) (step : Step) → slice_get steps k ≡ Some step → IsPossible g step.reason
possible_steps g d I A steps x k step at = possible_reason g d I A _ step.node step.reason (x.reasons k step at)

-- the names of the initial nodes determine them
same_initials : (g : Graph) (names : List Name) (a b : List Bool) → HoldsExactly g.tables a names → HoldsExactly g.tables b names → (n : ℕ) → IsTrue (has a n) ↔ IsTrue (has b n)
same_initials g names a b first second n = ((λ h. (second.exact n).1 ((first.exact n).0 h)), (λ h. (first.exact n).1 ((second.exact n).0 h)))

module _ (g : Graph) (d : DependencyDirection) (names : List Name) (told : List (Name × ReasonName)) where
  pub explains_none : ((steps : List Step) → (◌≡◌ {A = Option (List Step)} None (Some steps)) ↔ AreNumbered g told steps) → Explains g d names told → ⊥
  explains_none finds x = none-some x.steps ((finds x.steps).1 (told_numbered g told x.steps (possible_steps g d (has x.initials) every x.steps x.explanation) x.are_steps))

  pub explains_some : (numbers : List Step) (set : List Bool) (answer : Bool) → HoldsExactly g.tables set names → ((steps : List Step) → (◌≡◌ {A = Option (List Step)} (Some numbers) (Some steps)) ↔ AreNumbered g told steps)
      → IsTrue answer ↔ IsExplanation (content_of d g.built) (has set) every numbers → IsTrue answer ↔ Explains g d names told
  explains_some numbers set answer holds finds check = (
    (λ yes. record { initials = set; are_initials = holds; steps = numbers; are_steps = numbered_told g told numbers ((finds numbers).0 refl); explanation = check.0 yes }),
    (λ x.
        let same : numbers ≡ x.steps = same_Some numbers x.steps ((finds x.steps).1 (told_numbered g told x.steps (possible_steps g d (has x.initials) every x.steps x.explanation) x.are_steps)) in
        let here : IsExplanation (content_of d g.built) (has x.initials) every numbers = subst (λ l. IsExplanation (content_of d g.built) (has x.initials) every l) (sym same) x.explanation in
        check.1 (explanation_grows (content_of d g.built) (has x.initials) (has set) every every numbers (λ n h. (same_initials g names x.initials set x.are_initials holds n).0 h) (λ e h offer a. a) here)),
  )

  module _ (entries : List (Name × Name × LinkDeclarations)) where
    pub explains_all_none : ((steps : List Step) → (◌≡◌ {A = Option (List Step)} None (Some steps)) ↔ AreNumbered g told steps) → ExplainsAll g d names told entries → ⊥
    explains_all_none finds x = none-some x.steps ((finds x.steps).1 (told_numbered g told x.steps (possible_steps g d (has x.initials) (all_but x.refused) x.steps x.exact.explanation) x.are_steps))

    pub explains_all_some : (numbers : List Step) (set : List Bool) (refused : List (ℕ × Half)) (answer : Bool) → HoldsExactly g.tables set names → ((steps : List Step) → (◌≡◌ {A = Option (List Step)} (Some numbers) (Some steps)) ↔ AreNumbered g told steps)
        → AreRefused g d entries refused → IsTrue answer ↔ IsExact (content_of d g.built) (has set) refused numbers → IsTrue answer ↔ ExplainsAll g d names told entries
    explains_all_some numbers set refused answer holds finds listed check = (
      (λ yes. record { initials = set; are_initials = holds; steps = numbers; are_steps = numbered_told g told numbers ((finds numbers).0 refl); refused = refused; are_refused = listed; exact = check.0 yes }),
      (λ x.
          let same : numbers ≡ x.steps = same_Some numbers x.steps ((finds x.steps).1 (told_numbered g told x.steps (possible_steps g d (has x.initials) (all_but x.refused) x.steps x.exact.explanation) x.are_steps)) in
          let here : IsExact (content_of d g.built) (has x.initials) x.refused numbers = subst (λ l. IsExact (content_of d g.built) (has x.initials) x.refused l) (sym same) x.exact in
          check.1
          (exact_same (content_of d g.built) (has x.initials) (has set) x.refused refused numbers (same_initials g names x.initials set x.are_initials holds)
          (λ e h offer. ((λ r. (listed e h offer).1 ((x.are_refused e h offer).0 r)), (λ r. (x.are_refused e h offer).1 ((listed e h offer).0 r))))
          here)),
    )

-- a node in a part of the steps is in all of them
kept_listed : (p : Step → Bool) (steps : List Step) (n : ℕ) → IsTrue (is_in (nodes_of (filter p steps)) n) → IsTrue (is_in (nodes_of steps) n)
kept_listed p [] n h = h
kept_listed p (step ∷ steps) n h =
    elim (p step) as (λ b. IsTrue (is_in (nodes_of (cond b (step ∷ filter p steps) (filter p steps))) n) → IsTrue ((step.node == n) || is_in (nodes_of steps) n)) [
      | true ↦ λ k. (or_cases (step.node == n) (is_in (nodes_of steps) n)).1 (elim ((or_cases (step.node == n) (is_in (nodes_of (filter p steps)) n)).0 k) [ inl here ↦ inl here | inr later ↦ inr (kept_listed p steps n later) ])
      | false ↦ λ k. (or_cases (step.node == n) (is_in (nodes_of steps) n)).1 (inr (kept_listed p steps n k))
    ]
    h

last_listed : (before : List Step) (step : Step) → IsTrue (is_in (nodes_of (before ++ step ∷ [])) step.node)
last_listed [] step = (or_cases (step.node == step.node) false).1 (inl (eq-eqb step.node step.node refl))
last_listed (x ∷ before) step = (or_cases (x.node == step.node) (is_in (nodes_of (before ++ step ∷ [])) step.node)).1 (inr (last_listed before step))

-- a node with a reason chain is in the explanation
why_lists : (c : Content) (I : ℕ → Bool) (A : ℕ → Half → Bool) (steps : List Step) (node : ℕ) (kept : List Step) → IsWhy c I A steps node kept → IsTrue (is_in (nodes_of steps) node)
why_lists c I A steps node kept w =
    let last = w.last in
    let there : IsTrue (is_in (nodes_of kept) last.1.node) = subst (λ l. IsTrue (is_in (nodes_of l) last.1.node)) (sym last.2) (last_listed last.0 last.1) in
    kept_listed (λ step. w.rests step.node) steps node (subst (λ n. IsTrue (is_in (nodes_of (filter (λ step. w.rests step.node) steps)) n)) last.3 (subst (λ l. IsTrue (is_in (nodes_of l) last.1.node)) w.part there))

-- the node is a member, and these steps are its reason chain
pub record KeptWhy (x : Explanation) (node : ℕ) (kept : List Step) : Type 0 where
  pub member : IsTrue (has x.members node)
  pub why : (initials : List Bool) (A : ℕ → Half → Bool) → length initials ≡ length (nodes x.graph.tables) → IsExplanation (content_of x.direction x.graph.built) (has initials) A x.steps → IsWhy (content_of x.direction x.graph.built) (has initials) A x.steps node kept

-- the reason chain of a node, in an explanation given by its parts
module _ {K : Type 0} (items : K → List Step) where
  abbrev pub TellsWhy : Explanation → Name → Option K → Type 0
  TellsWhy x name found = (n : ℕ) → NodeNamed x.graph.tables n name → MatchOption found (IsFalse (has x.members n)) (λ kept. KeptWhy x n (items kept))

  module _ (x : Explanation) (node : ℕ) (found : Option K) (count : length x.graph.built.packages ≡ length (nodes x.graph.tables)) (why : (initials : List Bool) (A : ℕ → Half → Bool) → length initials ≡ length x.graph.built.packages → IsExplanation (content_of x.direction x.graph.built) (has initials) A x.steps → MatchOption found (IsFalse (is_in (nodes_of x.steps) node)) (λ kept. IsWhy (content_of x.direction x.graph.built) (has initials) A x.steps node (items kept))) (backed : IsBacked x.graph x.direction x.steps) where
    -- the clause of `why` for one explanation and one result
    why_at : (o : Option K) → found ≡ o → (initials : List Bool) (A : ℕ → Half → Bool) → length initials ≡ length (nodes x.graph.tables) → IsExplanation (content_of x.direction x.graph.built) (has initials) A x.steps
        → MatchOption o (IsFalse (is_in (nodes_of x.steps) node)) (λ kept. IsWhy (content_of x.direction x.graph.built) (has initials) A x.steps node (items kept))
    why_at o is initials A long explained =
        subst (λ z. MatchOption z (IsFalse (is_in (nodes_of x.steps) node)) (λ kept. IsWhy (content_of x.direction x.graph.built) (has initials) A x.steps node (items kept))) is (why initials A (long ∙ sym count) explained)

    member_why : ListMembers x.members x.steps → (o : Option K) → found ≡ o → MatchOption o (IsFalse (has x.members node)) (λ kept. KeptWhy x node (items kept))
    member_why listed None is = listed node ∙ why_at None is backed.0 backed.1 backed.2 backed.3
    member_why listed (Some kept) is = record {
      member = listed node ∙ why_lists (content_of x.direction x.graph.built) (has backed.0) backed.1 x.steps node (items kept) (why_at (Some kept) is backed.0 backed.1 backed.2 backed.3);
      why = why_at (Some kept) is;
    }

    pub tells_why : ListMembers x.members x.steps → (y : Explanation) (name : Name) → x ≡ y → ((n : ℕ) → (◌≡◌ {A = Option ℕ} (Some node) (Some n)) ↔ NodeNamed x.graph.tables n name) → TellsWhy y name found
    tells_why listed y name is named =
        subst (λ z. TellsWhy z name found) is
        (λ n at. subst (λ k. MatchOption found (IsFalse (has x.members k)) (λ kept. KeptWhy x k (items kept))) (same_Some node n ((named n).1 at)) (member_why listed found refl))

    -- the kept steps are an explanation themselves
    pub kept_backed : (kept : K) → found ≡ Some kept → IsBacked x.graph x.direction (items kept)
    kept_backed kept is = (backed.0, backed.1, backed.2, (why_at (Some kept) is backed.0 backed.1 backed.2 backed.3).explanation)
