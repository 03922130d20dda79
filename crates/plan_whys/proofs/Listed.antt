-- The nodes that an explanation lists are those that the visit reached.
use Rattle.std.proofs.Common.{◌≡◌, ◌∙◌, ℕ, zero, suc, ◌<◌, Bool, true, false, List, [], ◌∷◌, Option, Some, length, refl, ap, sym, subst, arith}
use Rattle.std.specs.Prelude.{◌↔◌, IsTrue, MatchOption}
use Rattle.guppy_packages.specs.Tables.{Tables}
use Rattle.guppy_packages.specs.declared.direction.DependencyDirection.TheVariants.{Forward}
use Rattle.digraphs.specs.Bits.{has}
use Rattle.feature_core.specs.Built.{Built, IsBuilt}
use Rattle.feature_core.specs.Nodes.{node_packages}
use Rattle.feature_core.specs.Offers.{content_of}
use Rattle.cargo_plans.specs.plan_starts.PackageVisits.{PairVisit}
use Rattle.plan_starts.specs.step_visits.Visits.{Visit}
use Rattle.walk_checks.specs.Whys.{IsWhy}
use Rattle.walk_engine.specs.Explanations.{IsExplanation, nodes_of}
use Rattle.walk_engine.specs.Laws.{every}
use Rattle.walk_engine.specs.Walks.{EndsAreNodes, Least, is_in}
use Rattle.walk_engine.specs.declared.walks.Half.{Half}
use Rattle.walk_engine.specs.declared.walks.Step.{Step}
use Rattle.plan_whys.specs.inner.Nodes.{AreInside, IsLeast, NodeAnswers}
use Rattle.plan_whys.specs.Steps.{AreStepsOf, WhyText}
use Rattle.plan_whys.proofs.NodeLemmas.{explained_inside, why_listed}

same_test : (a b : Bool) → (IsTrue a → IsTrue b) → (IsTrue b → IsTrue a) → a ≡ b
same_test true b forth back = sym (forth refl)
same_test false true forth back = back refl
same_test false false forth back = refl

-- an explanation of the least set lists what the visit reached
pub visit_listed : (on : PairVisit) (I : ℕ → Bool) (b : Built) (steps : List Step) → IsLeast on I → IsBuilt on.visit.tables b → ((n : ℕ) → IsTrue (is_in (nodes_of steps) n) ↔ Least (content_of Forward b) I every n)
    → (n : ℕ) → has on.visit.members n ≡ is_in (nodes_of steps) n
visit_listed on I b steps least is listed n =
    same_test (has on.visit.members n) (is_in (nodes_of steps) n) (λ h. (listed n).1 ((least b is n).0 h)) (λ h. (least b is n).1 ((listed n).0 h))

-- a set of all nodes, by a build
pub sized : (t : Tables) (b : Built) (initials : List Bool) → IsBuilt t b → length initials ≡ length (node_packages t) → length initials ≡ length b.packages
sized t b initials is size = size ∙ ap length (sym is.packages)

has_inside : (set : List Bool) (k : ℕ) → IsTrue (has set k) → k < length set
has_inside [] k t = cc
has_inside (b ∷ set) zero t = omega arith
has_inside (b ∷ set) (suc k) t = let h = has_inside set k t in omega (arith, h)

-- the steps of an explanation are those of nodes
pub steps_inside : (t : Tables) (b : Built) (initials : List Bool) (A : ℕ → Half → Bool) (steps taken : List Step) → IsBuilt t b → EndsAreNodes (content_of Forward b) → length initials ≡ length (node_packages t)
    → IsExplanation (content_of Forward b) (has initials) A steps → taken ≡ steps → AreInside (length (node_packages t)) (content_of Forward b) taken
steps_inside t b initials A steps taken is ends size explanation same =
    let nodes : length initials ≡ length b.packages = sized t b initials is size in
    let inside : (k : ℕ) → IsTrue (has initials k) → k < length b.packages = λ k h. subst (λ m. k < m) nodes (has_inside initials k h) in
    subst (λ m. AreInside m (content_of Forward b) taken) (ap length is.packages)
    (subst (AreInside (length b.packages) (content_of Forward b)) (sym same) (explained_inside (content_of Forward b) (has initials) A steps ends inside explanation))

-- so are those of a why
pub kept_inside : (t : Tables) (b : Built) (initials : List Bool) (A : ℕ → Half → Bool) (steps kept taken : List Step) (n : ℕ) → IsBuilt t b → EndsAreNodes (content_of Forward b) → length initials ≡ length (node_packages t)
    → IsWhy (content_of Forward b) (has initials) A steps n kept → taken ≡ kept → AreInside (length (node_packages t)) (content_of Forward b) taken
kept_inside t b initials A steps kept taken n is ends size why same = steps_inside t b initials A kept taken is ends size why.explanation same

-- why a node was reached
pub node_answered : (on : PairVisit) (b : Built) (I : ℕ → Bool) (steps kept taken : List Step) (n : ℕ) (whys : List WhyText) → IsBuilt on.visit.tables b → IsExplanation (content_of Forward b) I every steps
    → ((k : ℕ) → has on.visit.members k ≡ is_in (nodes_of steps) k) → IsWhy (content_of Forward b) I every steps n kept → taken ≡ kept → AreStepsOf on (content_of Forward b) taken whys → NodeAnswers on I n (Some whys)
node_answered on b I steps kept taken n whys is explanation listed why same shown = (
  listed n ∙ why_listed (content_of Forward b) I every steps n kept why,
  record {
    built = b;
    is_built = is;
    steps = steps;
    explanation = explanation;
    kept = kept;
    is_why = why;
    are_steps = subst (λ l. AreStepsOf on (content_of Forward b) l whys) same shown;
  },
)

pub tables_here : (on : PairVisit) (v : Visit) (t : Tables) → v ≡ on.visit → t ≡ v.tables → t ≡ on.visit.tables
tables_here on v t visit same = same ∙ ap (λ u. u.tables) visit

-- what a result says, where it's there
pub what_some : {X : Type 0} (P : Type 0) (Q : X → Type 0) (o : Option X) (x : X) → o ≡ Some x → MatchOption o P Q → Q x
what_some P Q o x is h = subst (λ z. MatchOption z P Q) is h
