-- The links of the tables as those between units.
use Rattle.std.proofs.Common.{◌≡◌, ◌∙◌, ℕ, zero, suc, ◌+◌, ◌-◌, ◌<◌, ◌≤◌, ◌^◌, Bool, true, false, List, [], ◌∷◌, ◌++◌, length, map, take, Some, None, refl, ap, sym, subst, arith, if◌then◌else◌}
use Rattle.std.specs.Prelude.{◌==◌, All, Contains, nat_lt, position, slice_get}
use Rattle.std.proofs.lemmas.Bool.{eqb-true}
use Rattle.std.proofs.lemmas.Bool.Decides.{nat_tests}
use Rattle.std.proofs.lemmas.List.{length-map, take_all}
use Rattle.std.proofs.lemmas.Option.{slice_get-get_or}
use Rattle.feature_labels.specs.Names.LabelName.{base}
use Rattle.guppy_packages.proofs.Ascending.{from_map, into_map}
use Rattle.guppy_packages.proofs.Lists.{position-map, slice_get-map}
use Rattle.guppy_packages.specs.Tables.{AreTables, HasNoRepeats, LinkTable, Tables, pair_of}
use Rattle.cargo_plans.specs.plan_steps.Plans.{PlanText}
use Rattle.cargo_plans.specs.plan_units.Units.{UnitText}
use Rattle.plan_starts.specs.step_visits.Visits.{Visit, is_start, node_at}
use Rattle.plan_starts.proofs.Places.{none_past}
use Rattle.plan_whys.specs.links.Links.{ArePairsOf, index_of}
use Rattle.plan_whys.specs.links.UnitLinks.{AreUnitLinks, DependsOn, entry_of, root_units}
use Rattle.plan_whys.specs.links.inner.Pairs.{AreBelow, Joins, capped, capped_entry}
use Rattle.plan_whys.specs.links.inner.Starting.{starting}
use Rattle.plan_whys.proofs.Indexes.{take_next}

-- Entries as numbers of the machine.

test_false : (x y : ℕ) → (x ≡ y → ⊥) → (x == y) ≡ false
test_false x y apart = go (x == y) refl
  where
    go : (b : Bool) → (x == y) ≡ b → (x == y) ≡ false
    go true e = absurd (apart (eqb-true x y e))
    go false e = e

not_below : (x y : ℕ) → nat_lt x y ≡ false → y ≤ x
not_below x y h = grind (arith, nat_tests)

-- numbers below the largest one aren't affected
capped_same : (limit n e : ℕ) → e < limit - 1 → (capped limit n == e) ≡ (n == e)
capped_same limit n e below = go (nat_lt n limit) refl
  where
    go : (b : Bool) → nat_lt n limit ≡ b → ((if b then n else limit - 1) == e) ≡ (n == e)
    go true is = refl
    go false is =
        let past = not_below n limit is in
        test_false (limit - 1) e (λ same. omega (arith, same, below)) ∙ sym (test_false n e (λ same. omega (arith, same, below, past)))

capped_index : (count e : ℕ) (units : List UnitText) → e < 2 ^ 64 - 1 → index_of (map (capped_entry count) units) e ≡ index_of (map (entry_of count) units) e
capped_index count e units below =
    position-map (capped_entry count) (λ n. n == e) units
    ∙ (λ i. position (λ u. capped_same (2 ^ 64) (entry_of count u) e below i) units)
    ∙ sym (position-map (entry_of count) (λ n. n == e) units)

-- The pairs of the tables' links.

pub pair_found : (links : List LinkTable) (k : ℕ) (l : LinkTable) (a b : ℕ) → slice_get links k ≡ Some l → a ≡ l.from → b ≡ l.to → slice_get (map pair_of links) k ≡ Some (a, b)
pair_found links k l a b at from to = slice_get-map pair_of links k l at ∙ sym (λ i. Some (from i, to i))

pub pair_pushed : (pairs : List (ℕ × ℕ)) (k : ℕ) (p : ℕ × ℕ) (old new : List (ℕ × ℕ)) → slice_get pairs k ≡ Some p → old ≡ take k pairs → new ≡ old ++ p ∷ [] → new ≡ take (k + 1) pairs
pair_pushed pairs k p old new at is pushed = pushed ∙ ap (λ l. l ++ p ∷ []) is ∙ sym (take_next pairs k p at)

pub all_pushed : (links : List LinkTable) (k : ℕ) (made : List (ℕ × ℕ)) → length links ≤ k → made ≡ take k (map pair_of links) → made ≡ map pair_of links
all_pushed links k made past is = is ∙ take_all k (map pair_of links) (subst (λ n. n ≤ k) (sym (length-map links pair_of)) past)

all_mapped : {X Y : Type 0} (f : X → Y) (P : Y → Type 0) (xs : List X) → ((k : ℕ) (x : X) → slice_get xs k ≡ Some x → P (f x)) → All P (map f xs)
all_mapped f P [] h k d within = absurd (omega (arith, within))
all_mapped f P (x ∷ xs) h zero d within = h 0 x refl
all_mapped f P (x ∷ xs) h (suc k) d within = all_mapped f P xs (λ j y at. h (suc j) y at) k d (omega (arith, within))

pub pairs_below : (t : Tables) (size : ℕ) (pairs taken : List (ℕ × ℕ)) → AreTables t → size ≡ length t.packages → pairs ≡ map pair_of t.links → taken ≡ pairs → AreBelow size taken
pairs_below t size pairs taken are count is same =
    subst (λ n. AreBelow n taken) (sym count)
    (subst (AreBelow (length t.packages)) (sym (same ∙ is)) (all_mapped pair_of (λ p. (p.0 < length t.packages) × (p.1 < length t.packages)) t.links (λ k l at. are.ends k l at)))

pub pairs_once : (t : Tables) (pairs taken : List (ℕ × ℕ)) → AreTables t → pairs ≡ map pair_of t.links → taken ≡ pairs → HasNoRepeats taken
pairs_once t pairs taken are is same = subst HasNoRepeats (sym (same ∙ is)) are.pairs

-- Links between units.

module _ (plan : PlanText) (are : AreTables plan.built.tables) (room : length plan.built.tables.packages < 2 ^ 64) where
  abbrev capped_entries : List ℕ
  capped_entries = map (capped_entry plan.on.count) plan.units

  link_at : (l : LinkTable) → Contains plan.built.tables.links l → (l.from < 2 ^ 64 - 1) × (l.to < 2 ^ 64 - 1)
  link_at l (k, within, is) =
      let ends = are.ends k l (slice_get-get_or plan.built.tables.links k l within ∙ ap Some is) in
      let from = ends.0 in
      let to = ends.1 in
      (omega (arith, from, room), omega (arith, to, room))

  depends : (a b : ℕ) → Joins capped_entries (map pair_of plan.built.tables.links) a b → DependsOn plan a b
  depends a b r =
      let x = from_map pair_of plan.built.tables.links r.pair r.is_pair in
      let l = x.0 in
      let below = link_at l x.1 in
      record {
        link = l;
        is_link = x.1;
        leaves = sym (capped_index plan.on.count l.from plan.units below.0) ∙ ap (λ (p : ℕ × ℕ). index_of capped_entries p.0) x.2 ∙ r.first;
        leads = sym (capped_index plan.on.count l.to plan.units below.1) ∙ ap (λ (p : ℕ × ℕ). index_of capped_entries p.1) x.2 ∙ r.second;
      }

  joins : (a b : ℕ) → DependsOn plan a b → Joins capped_entries (map pair_of plan.built.tables.links) a b
  joins a b d =
      let l = d.link in
      let below = link_at l d.is_link in
      record {
        pair = pair_of l;
        is_pair = into_map pair_of plan.built.tables.links l d.is_link;
        first = capped_index plan.on.count l.from plan.units below.0 ∙ d.leaves;
        second = capped_index plan.on.count l.to plan.units below.1 ∙ d.leads;
      }

  units_by_entries : (links : List (ℕ × ℕ)) → ArePairsOf (Joins capped_entries (map pair_of plan.built.tables.links)) links → AreUnitLinks plan links
  units_by_entries links is = record {
    ascend = is.ascend;
    exact = λ a b. ((λ h. depends a b ((is.exact a b).0 h)), (λ d. (is.exact a b).1 (joins a b d)));
  }

pub units_linked : (plan : PlanText) (v : Visit) (t : Tables) (count size : ℕ) (units : List UnitText) (keys taken_keys : List ℕ) (pairs taken links : List (ℕ × ℕ)) → v ≡ plan.built → t ≡ v.tables → count ≡ plan.on.count → units ≡ plan.units → AreTables t
    → size ≡ length t.packages → size < 2 ^ 64 → keys ≡ map (capped_entry count) units → taken_keys ≡ keys → pairs ≡ map pair_of t.links → taken ≡ pairs → ArePairsOf (Joins taken_keys taken) links → AreUnitLinks plan links
units_linked plan v t count size units keys taken_keys pairs taken links visit tables number list are long room keys_are keys_same pairs_are pairs_same is =
    let here : t ≡ plan.built.tables = tables ∙ ap (λ (z : Visit). z.tables) visit in
    let keys_here : taken_keys ≡ map (capped_entry plan.on.count) plan.units =
    keys_same ∙ keys_are ∙ ap (λ n. map (capped_entry n) units) number ∙ ap (map (capped_entry plan.on.count)) list
    in
    let pairs_here : taken ≡ map pair_of plan.built.tables.links = pairs_same ∙ pairs_are ∙ ap (λ (z : Tables). map pair_of z.links) here in
    let small : length plan.built.tables.packages < 2 ^ 64 = subst (λ n. n < 2 ^ 64) (long ∙ ap (λ (z : Tables). length z.packages) here) room in
    units_by_entries plan (subst AreTables here are) small links
    (subst (λ ps. ArePairsOf (Joins (map (capped_entry plan.on.count) plan.units) ps) links) pairs_here (subst (λ ks. ArePairsOf (Joins ks taken) links) keys_here is))

-- Roots.

pub no_node : (v : Visit) (t : Tables) (e size : ℕ) → t ≡ v.tables → size ≡ length t.packages → size < 2 ^ 64 → 2 ^ 64 ≤ e → None ≡ node_at v.tables e base
no_node v t e size tables long room past =
    subst (λ (z : Tables). None ≡ node_at z e base) tables (none_past t e base (λ below. omega (arith, below, subst (λ n. n < 2 ^ 64) long room, past)))

pub roots_are : (plan : PlanText) (v : Visit) (count : ℕ) (units : List UnitText) (set : ℕ → Bool) (roots : List ℕ) → v ≡ plan.built → count ≡ plan.on.count → units ≡ plan.units → ((n : ℕ) → set n ≡ is_start v.tables plan.starts n)
    → roots ≡ starting v count set units → roots ≡ root_units plan
roots_are plan v count units set roots visit number list same is =
    is
    ∙ (λ i. starting v count (λ n. same n i) units)
    ∙ (λ i. starting (visit i) (number i) (is_start (visit i).tables plan.starts) (list i))
