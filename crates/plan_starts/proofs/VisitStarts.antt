-- The nodes of starts.
use Rattle.std.proofs.Common.{◌≡◌, ℕ, ◌≤◌, Bool, List, length, map, take, ap, sym, ◌∙◌}
use Rattle.std.specs.List.{list_any}
use Rattle.std.proofs.lemmas.List.{take_all}
use Rattle.digraphs.specs.Bits.{has}
use Rattle.guppy_packages.proofs.Lists.{list_any-map}
use Rattle.guppy_packages.specs.Tables.{Tables}
use Rattle.feature_labels.specs.Names.{label_of}
use Rattle.feature_labels.specs.declared.feature_label.FeatureLabel.{FeatureLabel}
use Rattle.plan_starts.specs.step_visits.Visits.{is_node, is_start, node_at, place_view}

abbrev pub starts_at : Tables → ℕ → ℕ × FeatureLabel → Bool
starts_at t n s = is_node (node_at t s.0 (label_of s.1)) n

-- the marked nodes are those of the starts before `i`
abbrev pub AreMarked : Tables → List (ℕ × FeatureLabel) → ℕ → List Bool → Type 0
AreMarked t starts i marks = (n : ℕ) → has marks n ≡ list_any (starts_at t n) (take i starts)

pub marked_all : (t : Tables) (starts : List (ℕ × FeatureLabel)) (i : ℕ) (marks : List Bool) → length starts ≤ i → AreMarked t starts i marks → (n : ℕ) → has marks n ≡ is_start t (map place_view starts) n
marked_all t starts i marks past are n =
    are n
    ∙ ap (list_any (starts_at t n)) (take_all i starts past)
    ∙ sym (list_any-map place_view (λ s. is_node (node_at t s.0 s.1) n) starts)
