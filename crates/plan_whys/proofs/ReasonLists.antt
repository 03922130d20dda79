-- The reasons by ways, and that their numbers are those of nodes and ways.
use Rattle.std.proofs.Common.{◌≡◌, ◌∙◌, ℕ, suc, ◌+◌, ◌<◌, Bool, true, false, ◌&&◌, ◌||◌, List, [], ◌∷◌, Some, None, length, refl, ap, sym, subst, arith}
use Rattle.std.specs.Prelude.{All, IsTrue, nat_lt, not, slice_get, ◌==◌, if◌then◌else◌}
use Rattle.std.specs.List.{AllByRecursion, AllZip}
use Rattle.std.proofs.lemmas.List.Elements.{All-append, All-from_recursion}
use Rattle.std.proofs.lemmas.Option.{none-some}
use Rattle.guppy_packages.specs.declared.direction.DependencyDirection.TheVariants.{Forward, Reverse}
use Rattle.digraphs.specs.Bits.{has}
use Rattle.feature_core.specs.Built.{Built, IsBuilt}
use Rattle.feature_core.specs.Nodes.{node_packages}
use Rattle.feature_core.specs.Offers.{content_of}
use Rattle.feature_core.specs.Ways.{Reading}
use Rattle.cargo_plans.specs.plan_starts.Lists.{joined_from}
use Rattle.cargo_plans.specs.plan_starts.PackageVisits.{PairVisit}
use Rattle.cargo_plans.specs.plan_rows.Steps.{side_base}
use Rattle.plan_starts.specs.step_visits.Visits.{Visit, node_at}
use Rattle.plan_starts.proofs.Places.{node_within}
use Rattle.walk_checks.specs.Tables.{IsEdge}
use Rattle.walk_checks.specs.declared.table.TableEdge.{TableEdge}
use Rattle.walk_engine.specs.Laws.{AreReverse}
use Rattle.walk_engine.specs.Walks.{Content, EndsAreNodes, IsWay, Way, is_gated}
use Rattle.walk_engine.specs.declared.walks.Ask.{Ask}
use Rattle.walk_engine.specs.declared.walks.Ask.TheVariants as asks
use Rattle.walk_engine.specs.declared.walks.Half.{Half}
use Rattle.walk_engine.specs.declared.walks.Half.TheVariants as half
use Rattle.walk_engine.specs.declared.walks.StepReason.{StepReason}
use Rattle.walk_engine.specs.declared.walks.StepReason.TheVariants.{Offer}
use Rattle.plan_whys.specs.Reasons.{AreReasonsAt, all_reasons, reasons_by, reasons_of, weak_reasons}
use Rattle.plan_whys.specs.NodeWhys.{node_of}
use Rattle.plan_whys.specs.Steps.{IsReasonOf, ReasonText, SpotText}
use Rattle.plan_whys.specs.inner.Nodes.{IsReasonInside}
use Rattle.plan_whys.proofs.NodeLemmas.{gate_is}

-- the gate counts only where the edge is gated
gate_counts : (e : ℕ) (ask : Ask) (g h : Bool) → (IsTrue (is_gated ask) → g ≡ h) → reasons_of e ask g ≡ reasons_of e ask h
gate_counts e asks.Nobody g h same = refl
gate_counts e asks.Full g h same = refl
gate_counts e (asks.Weak required true) g h same = ap (weak_reasons e required) (same refl)
gate_counts e (asks.Weak required false) g h same = refl

-- the reasons by an edge are those by its way
pub edge_reasons : (M : ℕ → Bool) (n e : ℕ) (w : Way) (edge : TableEdge) → IsEdge w edge → (if (edge.far == n) && M edge.start then reasons_of e edge.ask (M edge.gate) else []) ≡ reasons_by M n e w
edge_reasons M n e w edge is =
    ap (λ f. if (f == n) && M edge.start then reasons_of e edge.ask (M edge.gate) else []) is.far
    ∙ ap (λ s. if (w.far == n) && M s then reasons_of e edge.ask (M edge.gate) else []) is.start
    ∙ ap (λ l. if (w.far == n) && M w.start then l else []) (ap (λ a. reasons_of e a (M edge.gate)) is.ask ∙ gate_counts e w.ask (M edge.gate) (M w.gate) (λ t. ap M (is.gate t)))

module _ (c : Content) (ends : EndsAreNodes c) where
  abbrev pub Inside : StepReason → Type 0
  Inside reason = IsReasonInside c.nodes c reason

  offer_inside : (e : ℕ) (w : Way) (h : Half) → IsWay c e w → Inside (Offer e h)
  offer_inside e w h is = let at = ends e w is in (w, is, at.0, λ t. at.2 (gate_is w.ask h t))

  weak_inside : (e : ℕ) (w : Way) (required optional : Bool) → IsWay c e w → AllByRecursion Inside (weak_reasons e required optional)
  weak_inside e w true true is = (offer_inside e w half.Required is, (offer_inside e w half.Optional is, tt))
  weak_inside e w true false is = (offer_inside e w half.Required is, tt)
  weak_inside e w false true is = (offer_inside e w half.Optional is, tt)
  weak_inside e w false false is = tt

  of_inside : (e : ℕ) (w : Way) (ask : Ask) (gate : Bool) → IsWay c e w → AllByRecursion Inside (reasons_of e ask gate)
  of_inside e w asks.Nobody gate is = ((w, is, (ends e w is).0), tt)
  of_inside e w asks.Full gate is = (offer_inside e w half.Full is, tt)
  of_inside e w (asks.Weak required gated) gate is = weak_inside e w required (not gated || gate) is

  if_inside : (e : ℕ) (w : Way) (ask : Ask) (gate test : Bool) → IsWay c e w → AllByRecursion Inside (if test then reasons_of e ask gate else [])
  if_inside e w ask gate true is = of_inside e w ask gate is
  if_inside e w ask gate false is = tt

  from_inside : (M : ℕ → Bool) (n k : ℕ) (ws : List Way) → ((i : ℕ) (w : Way) → slice_get ws i ≡ Some w → IsWay c (k + i) w) → All Inside (joined_from (reasons_by M n) k ws)
  from_inside M n k [] are = All-from_recursion Inside [] tt
  from_inside M n k (w ∷ ws) are =
      let here : IsWay c k w = subst (λ e. IsWay c e w) (omega arith) (are 0 w refl) in
      All-append Inside (reasons_by M n k w) (joined_from (reasons_by M n) (k + 1) ws)
      (All-from_recursion Inside (reasons_by M n k w) (if_inside k w w.ask (M w.gate) ((w.far == n) && M w.start) here))
      (from_inside M n (k + 1) ws (λ i v at. subst (λ e. IsWay c e v) (omega arith) (are (suc i) v at)))

  pub all_inside : (M : ℕ → Bool) (n : ℕ) → All (IsReasonInside c.nodes c) (all_reasons c M n)
  all_inside M n = from_inside M n 0 c.ways (λ i w at. subst (λ e. IsWay c e w) (omega arith) at)

-- the reasons by a table of a visit's edges
pub reasons_inside : (on : PairVisit) (v : Visit) (b : Built) (table : Reading) (M : ℕ → Bool) (n : ℕ) (found taken : List StepReason) → v ≡ on.visit → IsBuilt v.tables b → EndsAreNodes (content_of Forward b)
    → table ≡ record { holds = content_of Forward b; reads = 0 } → found ≡ all_reasons table.holds M n → taken ≡ found → All (IsReasonInside (length (node_packages on.visit.tables)) table.holds) taken
reasons_inside on v b table M n found taken visit is ends same all taken_is =
    let c = content_of Forward b in
    let here : All (IsReasonInside (length (node_packages v.tables)) c) (all_reasons c M n) = subst (λ m. All (IsReasonInside m c) (all_reasons c M n)) (ap length is.packages) (all_inside c ends M n) in
    let there : All (IsReasonInside (length (node_packages v.tables)) table.holds) (all_reasons table.holds M n) =
    subst (λ (r : Reading). All (IsReasonInside (length (node_packages v.tables)) r.holds) (all_reasons r.holds M n)) (sym same) here
    in
    subst (λ (u : Visit). All (IsReasonInside (length (node_packages u.tables)) table.holds) taken) visit
    (subst (All (IsReasonInside (length (node_packages v.tables)) table.holds)) (sym (taken_is ∙ all)) there)

pub reasons_here : (on : PairVisit) (v : Visit) (b : Built) (table : Reading) (members : List Bool) (n : ℕ) (found taken : List StepReason) (shown : List ReasonText) → v ≡ on.visit → IsBuilt v.tables b
    → table ≡ record { holds = content_of Forward b; reads = 0 } → members ≡ v.members → found ≡ all_reasons table.holds (has members) n → taken ≡ found → AllZip (IsReasonOf on table.holds) taken shown → AreReasonsAt on n shown
reasons_here on v b table members n found taken shown visit is same marks all taken_is zip = record {
  built = b;
  is_built = subst (λ (u : Visit). IsBuilt u.tables b) visit is;
  are_reasons =
      subst (λ (r : Reading). AllZip (IsReasonOf on r.holds) (all_reasons r.holds (has on.visit.members) n) shown) same
      (subst (λ (ms : List Bool). AllZip (IsReasonOf on table.holds) (all_reasons table.holds (has ms) n) shown) (marks ∙ ap (λ (u : Visit). u.members) visit)
      (subst (λ l. AllZip (IsReasonOf on table.holds) l shown) (taken_is ∙ all) zip));
}

-- the node of a spot is one of the nodes
pub spot_within : (on : PairVisit) (spot : SpotText) (n : ℕ) → node_of on spot ≡ Some n → n < length (node_packages on.visit.tables)
spot_within on spot n h = go (nat_lt spot.number on.count) (side_base on.count spot.side + spot.number) h
  where
    go : (inside : Bool) (k : ℕ) → (if inside then node_at on.visit.tables k spot.label else None) ≡ Some n → n < length (node_packages on.visit.tables)
    go true k is = node_within on.visit.tables (node_packages on.visit.tables) k n spot.label refl (sym is)
    go false k is = absurd (none-some n is)

-- a node of the visit is one of the nodes of a table of its edges
pub node_of_table : (on : PairVisit) (v : Visit) (b : Built) (back : Reading) (n : ℕ) → v ≡ on.visit → IsBuilt v.tables b → back ≡ record { holds = content_of Reverse b; reads = 0 } → n < length (node_packages on.visit.tables)
    → n < back.holds.nodes
node_of_table on v b back n visit is same below =
    subst (λ (r : Reading). n < r.holds.nodes) (sym same)
    (subst (λ m. n < m) (ap length (sym is.packages)) (subst (λ (u : Visit). n < length (node_packages u.tables)) (sym visit) below))

-- the tables of the two directions
pub tables_reverse : (b : Built) (table back : Reading) → table ≡ record { holds = content_of Forward b; reads = 0 } → back ≡ record { holds = content_of Reverse b; reads = 0 } → AreReverse (content_of Forward b) (content_of Reverse b)
    → AreReverse table.holds back.holds
tables_reverse b table back forward reverse are =
    subst (λ (r : Reading). AreReverse r.holds back.holds) (sym forward) (subst (λ (r : Reading). AreReverse (content_of Forward b) r.holds) (sym reverse) are)
