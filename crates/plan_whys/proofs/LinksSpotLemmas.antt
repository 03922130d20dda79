-- The ways that count as links between spots.
use Rattle.std.proofs.Common.{◌≡◌, ◌∙◌, ⊎_elim, ℕ, zero, suc, ◌<◌, Bool, true, false, List, [], ◌∷◌, length, Some, refl, ap, sym, subst, arith, if◌then◌else◌}
use Rattle.std.specs.Prelude.{All, Contains, IsTrue, slice_get}
use Rattle.std.specs.List.{AllZip}
use Rattle.std.proofs.lemmas.List.Elements.{Contains-append_cases, Contains-append_left, Contains-append_right}
use Rattle.guppy_packages.proofs.Ascending.{All-of, Contains-first, Contains-none}
use Rattle.guppy_packages.specs.Tables.{HasNoRepeats}
use Rattle.guppy_packages.specs.declared.direction.DependencyDirection.TheVariants.{Forward}
use Rattle.digraphs.specs.Bits as bits
use Rattle.digraphs.specs.Bits.{has}
use Rattle.digraphs.proofs.SetLemmas.{has-Contains}
use Rattle.feature_core.specs.Built.{Built, IsBuilt, ends_of}
use Rattle.feature_core.specs.Nodes.{node_packages}
use Rattle.feature_core.specs.Offers.{content_of}
use Rattle.feature_core.specs.Ways.{Reading}
use Rattle.cargo_plans.specs.plan_starts.PackageVisits.{PairVisit}
use Rattle.plan_whys.specs.Steps.{IsAt, SpotText}
use Rattle.plan_starts.specs.step_visits.Visits.{Visit}
use Rattle.walk_engine.specs.Walks.{Content, EndsAreNodes, Way}
use Rattle.plan_whys.specs.links.Links.{ArePairsOf, index_of}
use Rattle.plan_whys.specs.links.SpotLinks.{AreSpotLinks, AreSpotsOn, TurnsOn, counts, nodes_on}
use Rattle.plan_whys.specs.links.inner.Pairs.{AreBelow, Joins, counted_ends, ends_if}
use Rattle.plan_whys.proofs.WayLemmas.{ascending_once, counted_once, ends_inside, if_found}

-- The way of a pair of ends.

ways_of : (M : ℕ → Bool) (ws : List Way) (p : ℕ × ℕ) → Contains (counted_ends M ws) p → (k : ℕ) × (w : Way) × (slice_get ws k ≡ Some w) × IsTrue (counts M w) × ((w.start, w.far) ≡ p)
ways_of M [] p h = absurd (Contains-none p h)
ways_of M (w ∷ ws) p h = ⊎_elim
    (λ i. let found = if_found (counts M w) (w.start, w.far) p i in (0, w, refl, found.0, found.1))
    (λ i. let r = ways_of M ws p i in (suc r.0, r.1, r.2, r.3, r.4))
    (Contains-append_cases (ends_if M w) (counted_ends M ws) p h)

if_has : (test : Bool) (q : ℕ × ℕ) → test ≡ true → Contains (if test then q ∷ [] else []) q
if_has true q h = Contains-first q []
if_has false q h = cc

has_way : (M : ℕ → Bool) (ws : List Way) (k : ℕ) (w : Way) → slice_get ws k ≡ Some w → IsTrue (counts M w) → Contains (counted_ends M ws) (w.start, w.far)
has_way M [] k w at h = cc
has_way M (v ∷ ws) zero w at h =
    let same : v ≡ w = cc in
    subst (λ (z : Way). Contains (counted_ends M (z ∷ ws)) (w.start, w.far)) (sym same)
    (Contains-append_left (ends_if M w) (counted_ends M ws) (w.start, w.far) (if_has (counts M w) (w.start, w.far) h))
has_way M (v ∷ ws) (suc k) w at h = Contains-append_right (ends_if M v) (counted_ends M ws) (w.start, w.far) (has_way M ws k w at h)

module _ (on : PairVisit) (c : Content) where
  abbrev joined : ℕ → ℕ → Type 0
  joined a b = Joins (nodes_on on) (counted_ends (has on.visit.members) c.ways) a b

  turns_on : (a b : ℕ) → joined a b → TurnsOn on c a b
  turns_on a b r =
      let x = ways_of (has on.visit.members) c.ways r.pair r.is_pair in
      record {
        number = x.0;
        way = x.1;
        is_way = x.2;
        counts_here = x.3;
        leaves = ap (λ (p : ℕ × ℕ). index_of (nodes_on on) p.0) x.4 ∙ r.first;
        leads = ap (λ (p : ℕ × ℕ). index_of (nodes_on on) p.1) x.4 ∙ r.second;
      }

  joins : (a b : ℕ) → TurnsOn on c a b → joined a b
  joins a b t = record {
    pair = (t.way.start, t.way.far);
    is_pair = has_way (has on.visit.members) c.ways t.number t.way t.is_way t.counts_here;
    first = t.leaves;
    second = t.leads;
  }

  links_are : (links : List (ℕ × ℕ)) → ArePairsOf joined links → ArePairsOf (TurnsOn on c) links
  links_are links is = record {
    ascend = is.ascend;
    exact = λ a b. ((λ h. turns_on a b ((is.exact a b).0 h)), (λ t. (is.exact a b).1 (joins a b t)));
  }

pub spots_linked : (on : PairVisit) (v : Visit) (b : Built) (table : Reading) (set : List Bool) (nodes taken_nodes : List ℕ) (pairs taken links : List (ℕ × ℕ)) → v ≡ on.visit → IsBuilt v.tables b
    → table ≡ record { holds = content_of Forward b; reads = 0 } → set ≡ v.members → nodes ≡ bits.members set → taken_nodes ≡ nodes → pairs ≡ counted_ends (has set) table.holds.ways → taken ≡ pairs
    → ArePairsOf (Joins taken_nodes taken) links → AreSpotLinks on links
spots_linked on v b table set nodes taken_nodes pairs taken links visit is same marks nodes_are nodes_same pairs_are pairs_same linked =
    let here : set ≡ on.visit.members = marks ∙ ap (λ (u : Visit). u.members) visit in
    let ns : taken_nodes ≡ nodes_on on = nodes_same ∙ nodes_are ∙ ap bits.members here in
    let ps : taken ≡ counted_ends (has on.visit.members) (content_of Forward b).ways =
    pairs_same ∙ pairs_are ∙ ap (λ l. counted_ends (has l) table.holds.ways) here ∙ ap (λ (r : Reading). counted_ends (has on.visit.members) r.holds.ways) same
    in
    record {
      built = b;
      is_built = subst (λ (u : Visit). IsBuilt u.tables b) visit is;
      are_links = links_are on (content_of Forward b) links (subst (λ l. ArePairsOf (Joins (nodes_on on) l) links) ps (subst (λ l. ArePairsOf (Joins l taken) links) ns linked));
    }

-- What the links are made of.

pub ends_below : (b : Built) (table : Reading) (set : List Bool) (size : ℕ) (pairs taken : List (ℕ × ℕ)) → EndsAreNodes (content_of Forward b) → size ≡ length b.packages → table ≡ record { holds = content_of Forward b; reads = 0 }
    → pairs ≡ counted_ends (has set) table.holds.ways → taken ≡ pairs → AreBelow size taken
ends_below b table set size pairs taken ends count same pairs_are pairs_same =
    let ps : taken ≡ counted_ends (has set) (content_of Forward b).ways = pairs_same ∙ pairs_are ∙ ap (λ (r : Reading). counted_ends (has set) r.holds.ways) same in
    subst (λ n. AreBelow n taken) (sym count) (subst (AreBelow (length b.packages)) (sym ps) (ends_inside (content_of Forward b) ends (has set)))

pub ends_once : (v : Visit) (b : Built) (table : Reading) (set : List Bool) (pairs taken : List (ℕ × ℕ)) → IsBuilt v.tables b → table ≡ record { holds = content_of Forward b; reads = 0 }
    → pairs ≡ counted_ends (has set) table.holds.ways → taken ≡ pairs → HasNoRepeats taken
ends_once v b table set pairs taken is same pairs_are pairs_same =
    let ps : taken ≡ counted_ends (has set) (content_of Forward b).ways = pairs_same ∙ pairs_are ∙ ap (λ (r : Reading). counted_ends (has set) r.holds.ways) same in
    subst HasNoRepeats (sym ps) (counted_once (has set) b.weak b.edges (ascending_once (ends_of b.edges) is.pairs.ascends))

-- The spots of members.

has_within : (set : List Bool) (k : ℕ) → has set k ≡ true → k < length set
has_within [] k h = cc
has_within (b ∷ set) zero h = omega arith
has_within (b ∷ set) (suc k) h = let less = has_within set k h in omega (arith, less)

pub members_within : (on : PairVisit) (v : Visit) (set : List Bool) (nodes taken : List ℕ) → v ≡ on.visit → set ≡ v.members → length v.members ≡ length (node_packages v.tables) → nodes ≡ bits.members set → taken ≡ nodes
    → All (λ n. n < length (node_packages on.visit.tables)) taken
members_within on v set nodes taken visit marks size are same =
    let long : length set ≡ length (node_packages on.visit.tables) = ap length marks ∙ size ∙ ap (λ (u : Visit). length (node_packages u.tables)) visit in
    subst (All (λ n. n < length (node_packages on.visit.tables))) (sym (same ∙ are))
    (All-of (λ n. n < length (node_packages on.visit.tables)) (bits.members set) (λ n h. subst (λ m. n < m) long (has_within set n (has-Contains set n h))))

pub spots_are : (on : PairVisit) (v : Visit) (set : List Bool) (nodes taken : List ℕ) (spots : List SpotText) → v ≡ on.visit → set ≡ v.members → nodes ≡ bits.members set → taken ≡ nodes → AllZip (IsAt on) taken spots → AreSpotsOn on spots
spots_are on v set nodes taken spots visit marks are same zip =
    subst (λ l. AllZip (IsAt on) l spots) (same ∙ are ∙ ap bits.members (marks ∙ ap (λ (u : Visit). u.members) visit)) zip
