-- The keys of spots: the package's number, whether the side is the host, and the label.
use Rattle.std.specs.Prelude.{◌≡◌, ℕ, List, Bool}
use Rattle.std.specs.BTreeSet.{BTreeSet}
use Rattle.std.specs.List.{list_any}
use Rattle.std.specs.Ordering.{is_eq, nat_cmp, bool_cmp, ordering_then}
use Rattle.feature_labels.specs.Names.{label_of, label_cmp}
use Rattle.feature_labels.specs.declared.feature_label.FeatureLabel.{FeatureLabel}
use Rattle.plan_rows.specs.Steps.{is_host}
use Rattle.plan_whys.specs.StepViews.{spot_text}
use Rattle.plan_whys.specs.declared.steps.Spot.{Spot}
use Rattle.feats_tree.specs.features.Roots.{is_same}

abbrev pub Key : Type 0
Key = ℕ × Bool × FeatureLabel

abbrev pub key_of : Spot → Key
key_of s = (s.«package», is_host s.side, s.label)

-- Whether the keys compare `Equal`.
abbrev pub is_at : Key → Key → Bool
is_at a b = is_eq (ordering_then (ordering_then (nat_cmp a.0 b.0) (bool_cmp a.1 b.1)) (label_cmp (label_of a.2) (label_of b.2)))

abbrev pub has_key : BTreeSet Key → Spot → Bool
has_key keys s = list_any (is_at (key_of s)) keys.keys

-- The set has the keys of these spots and no others.
abbrev pub HasSpots : BTreeSet Key → List Spot → Type 0
HasSpots keys spots = (s : Spot) → has_key keys s ≡ list_any (λ x. is_same (spot_text s) (spot_text x)) spots
