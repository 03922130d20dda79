-- Sets of nodes from lists of names.
use Rattle.std.proofs.Common.{◌≡◌, ◌≢◌, ℕ, zero, suc, ◌+◌, ◌<◌, ◌⊎◌, inl, inr, ⊎_elim, List, length, replicate, Bool, true, false, Option, Some, None, refl, ap, sym, ◌∙◌, subst, arith, get_or, map}
use Rattle.std.specs.Option.{option_map}
use Rattle.std.specs.Prelude.{slice_get, slice_set, ◌↔◌, IsTrue, is_some, IfSome, IfOk, Result, Ok, Err}
use Rattle.std.proofs.lemmas.Bool.Decides.{eqb_tells}
use Rattle.std.proofs.lemmas.Option.{slice_get_within, slice_get_read, slice_get-map}
use Rattle.digraphs.specs.Bits.{has}
use Rattle.guppy_packages.specs.Rows.{Text}
use Rattle.guppy_packages.specs.Tables.{Tables}
use Rattle.guppy_packages.specs.declared.direction.DependencyDirection.{DependencyDirection}
use Rattle.feature_labels.specs.Names.{LabelName, id_of}
use Rattle.feature_labels.specs.declared.feature_id.FeatureId.{FeatureId}
use Rattle.feature_core.specs.Built.{NodeNamed}
use Rattle.feature_core.specs.Nodes.{nodes}
use Rattle.feature_core.specs.Pairs.{Reach}
use Rattle.feature_graph.proofs.ListLemmas.{marked_set, marked_grows, marked_cases}
use Rattle.feature_core.specs.Defaults.{IsDefault}
use Rattle.feature_graph.specs.Names.{HasFeature, AreKnown, IsFirstUnknown, HoldsExactly, TellsMember, TellsDefault}

-- the result of a look-up is the number with the property `N`, if any
abbrev pub Finds : Option ℕ → (ℕ → Type 0) → Type 0
Finds found N = (n : ℕ) → (found ≡ Some n) ↔ N n

pub inserted : (marks : List Bool) (m : ℕ) (N : ℕ → Type 0) → m < length marks → Finds (Some m) N → (n : ℕ) → IsTrue (has (slice_set marks m true) n) ↔ (IsTrue (has marks n) ⊎ N n)
inserted marks m N within finds n = (
  (λ h. ⊎_elim (λ e. inr ((finds n).0 (ap Some (sym e)))) (λ old. inl old) (marked_cases marks m n h)),
  (λ h. ⊎_elim
      (λ old. marked_grows marks m n within old)
      (λ is. let e = (finds n).1 is in let same : m ≡ n = cc in subst (λ z. IsTrue (has (slice_set marks m true) z)) same (marked_set marks m within))
      h),
)

pub not_inserted : (marks : List Bool) (N : ℕ → Type 0) → Finds None N → (n : ℕ) → IsTrue (has marks n) ↔ (IsTrue (has marks n) ⊎ N n)
not_inserted marks N finds n = (
  (λ h. inl h),
  (λ h. ⊎_elim (λ old. old) (λ is. let e = (finds n).1 is in cc) h),
)

-- all names before this index are known
abbrev pub KnownBelow : Tables → List (Text × LabelName) → ℕ → Type 0
KnownBelow t names i = (k : ℕ) (name : Text × LabelName) → k < i → slice_get names k ≡ Some name → HasFeature t name

-- one of the names before this index is the node's
abbrev pub AmongBelow : Tables → List (Text × LabelName) → ℕ → ℕ → Type 0
AmongBelow t names i n = (k : ℕ) × (name : Text × LabelName) × (slice_get names k ≡ Some name) × (NodeNamed t n name × (k < i))

last_or_before : (k i : ℕ) → k < i + 1 → (k < i) ⊎ (k ≡ i)
last_or_before k i h = elim (eqb_tells k i) [ inl p ↦ inr p.1 | inr p ↦ let differs : k ≢ i = p.1 in inl (omega arith) ]

module _ (t : Tables) (names : List (Text × LabelName)) where
  pub known_more : (i : ℕ) (name : Text × LabelName) → slice_get names i ≡ Some name → KnownBelow t names i → HasFeature t name → KnownBelow t names (i + 1)
  known_more i name at known this k other below e =
      ⊎_elim
      (λ before. known k other before e)
      (λ is.
      let there : slice_get names i ≡ Some other = subst (λ z. slice_get names z ≡ Some other) is e in
      let same : name ≡ other = cc in
      subst (HasFeature t) same this)
      (last_or_before k i below)

  pub all_known : (i : ℕ) → i ≡ length names → KnownBelow t names i → AreKnown t names
  all_known i whole known k name e = let within = slice_get_within names k name e in known k name (omega arith) e

  pub first_unknown : (i : ℕ) (name : Text × LabelName) → slice_get names i ≡ Some name → KnownBelow t names i → (HasFeature t name → ⊥) → IsFirstUnknown t names name
  first_unknown i name at known no_feature = record { place = i; at = at; unknown = no_feature; before = known }

  none_marked : (size n : ℕ) → IsTrue (has (replicate size false) n) → ⊥
  none_marked zero n h = cc
  none_marked (suc size) zero h = cc
  none_marked (suc size) (suc n) h = none_marked size n h

  pub among_none : (size n : ℕ) → IsTrue (has (replicate size false) n) ↔ AmongBelow t names 0 n
  among_none size n = (
    (λ h. absurd (none_marked size n h)),
    (λ h. let below = h.3.1 in absurd (omega arith)),
  )

  pub among_more : (i : ℕ) (old new : List Bool) (name : Text × LabelName) → slice_get names i ≡ Some name → ((n : ℕ) → IsTrue (has old n) ↔ AmongBelow t names i n) → ((n : ℕ) → IsTrue (has new n) ↔ (IsTrue (has old n) ⊎ NodeNamed t n name)) → (n : ℕ) → IsTrue (has new n) ↔ AmongBelow t names (i + 1) n
  among_more i old new name at before step n = (
    (λ h. ⊎_elim
        (λ o. let b = (before n).0 o in let below = b.3.1 in (b.0, b.1, b.2, (b.3.0, omega arith)))
        (λ is. (i, name, at, (is, omega arith)))
        ((step n).0 h)),
    (λ h. ⊎_elim
        (λ below. (step n).1 (inl ((before n).1 (h.0, h.1, h.2, (h.3.0, below)))))
        (λ is.
        let there : slice_get names i ≡ Some h.1 = subst (λ z. slice_get names z ≡ Some h.1) is h.2 in
        let same : h.1 ≡ name = cc in
        (step n).1 (inr (subst (NodeNamed t n) same h.3.0)))
        (last_or_before h.0 i h.3.1)),
  )

  pub among_all : (i : ℕ) (members : List Bool) → i ≡ length names → length members ≡ length (nodes t) → ((n : ℕ) → IsTrue (has members n) ↔ AmongBelow t names i n) → HoldsExactly t members names
  among_all i members whole long exact = record {
    size = long;
    exact = λ n. (
      (λ h. let a = (exact n).0 h in (a.0, a.1, a.2, a.3.0)),
      (λ h. let within = slice_get_within names h.0 h.1 h.2 in (exact n).1 (h.0, h.1, h.2, (h.3, omega arith))),
    );
  }

pub tells : (t : Tables) (members : List Bool) (name : Text × LabelName) (m : ℕ) (answer : Bool) → Finds (Some m) (λ n. NodeNamed t n name) → answer ≡ has members m → TellsMember t members name answer
tells t members name m answer finds is = record {
  known = (m, (finds m).0 refl);
  tells = λ n at. let e = (finds n).1 at in let same : m ≡ n = cc in is ∙ ap (has members) same;
}

pub tells_default : (t : Tables) (name : Text × LabelName) (m : ℕ) (answer : Bool) → Finds (Some m) (λ n. NodeNamed t n name) → IsTrue answer ↔ IsDefault t m → TellsDefault t name answer
tells_default t name m answer finds is = record {
  known = (m, (finds m).0 refl);
  tells = λ n at. let e = (finds n).1 at in let same : m ≡ n = cc in subst (λ z. IsTrue answer ↔ IsDefault t z) same is;
}

pub found_feature : (t : Tables) (name : Text × LabelName) (m : ℕ) → Finds (Some m) (λ n. NodeNamed t n name) → HasFeature t name
found_feature t name m finds = (m, (finds m).0 refl)

pub no_feature : (t : Tables) (name : Text × LabelName) → Finds None (λ n. NodeNamed t n name) → HasFeature t name → ⊥
no_feature t name finds h = let e = (finds h.0).1 h.1 in cc

pub is_known : (t : Tables) (name : Text × LabelName) (found : Option ℕ) (b : Bool) → b ≡ is_some found → Finds found (λ n. NodeNamed t n name) → IsTrue b ↔ HasFeature t name
is_known t name None b e finds = ((λ h. absurd (clash b h e)), (λ h. absurd (no_feature t name finds h)))
  where
    clash : (b : Bool) → b ≡ true → b ≡ false → ⊥
    clash b h i = cc
is_known t name (Some m) b e finds = ((λ h. found_feature t name m finds), (λ h. e))

pub node_within : (t : Tables) (name : Text × LabelName) (found : Option ℕ) → Finds found (λ n. NodeNamed t n name) → IfSome found (λ n. n < length (nodes t))
node_within t name None finds = tt
node_within t name (Some m) finds = slice_get_within (nodes t) m name ((finds m).0 refl)

pub ok_map : {A E : Type 0} (P Q : A → Type 0) (r : Result A E) → IfOk r P → ((a : A) → P a → Q a) → IfOk r Q
ok_map P Q (Ok a) h f = f a h
ok_map P Q (Err e) h f = tt

pub name_at : (ids : List FeatureId) (i : ℕ) (x : FeatureId) → i < length ids → x ≡ get_or ids i x → slice_get (map id_of ids) i ≡ Some (id_of x)
name_at ids i x within is = slice_get-map id_of ids i ∙ ap (option_map id_of) (slice_get_read ids (length ids) i x refl within is)

-- reachability depends only on the tables, the direction and the initial nodes
pub reach_carried : (t u : Tables) (d e : DependencyDirection) (i j s r : List Bool) → t ≡ u → d ≡ e → i ≡ j → r ≡ s → ((n : ℕ) → IsTrue (has s n) ↔ Reach t d (has i) n) → (n : ℕ) → IsTrue (has r n) ↔ Reach u e (has j) n
reach_carried t u d e i j s r graph direction initials set h =
    let at_graph : (n : ℕ) → IsTrue (has s n) ↔ Reach u d (has i) n = subst (λ z. (n : ℕ) → IsTrue (has s n) ↔ Reach z d (has i) n) graph h in
    let at_direction : (n : ℕ) → IsTrue (has s n) ↔ Reach u e (has i) n = subst (λ z. (n : ℕ) → IsTrue (has s n) ↔ Reach u z (has i) n) direction at_graph in
    let at_initials : (n : ℕ) → IsTrue (has s n) ↔ Reach u e (has j) n = subst (λ z. (n : ℕ) → IsTrue (has s n) ↔ Reach u e (has z) n) initials at_direction in
    subst (λ z. (n : ℕ) → IsTrue (has z n) ↔ Reach u e (has j) n) (sym set) at_initials
