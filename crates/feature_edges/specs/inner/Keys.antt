-- Candidates as keys, and the least key of each pair.
use Rattle.std.specs.Prelude.{◌≡◌, ℕ, ◌<◌, ◌≤◌, ◌⊎◌, List, Contains, AllPairs, All, true, Some, ◌++◌, slice_get}
use Rattle.digraphs.specs.declared.digraph.Edge.{Edge as End}
use Rattle.feature_edges.specs.declared.candidate.CandidateKind.{CandidateKind}
use Rattle.feature_edges.specs.declared.candidate.CandidateKind.TheVariants.{FeatureToBase, NamedFeature, DepColon, SlashFull, SlashOptional, SlashWeak, Section}
use Rattle.feature_edges.specs.declared.candidate.Key.{Key}
use Rattle.feature_edges.specs.Candidates.{Edge, feature_to_base, named_feature, dep_colon, slash_full, slash_optional, slash_weak, section}

-- The rank of the edges of a kind.
abbrev pub rank : CandidateKind → ℕ
rank FeatureToBase = 1
rank NamedFeature = 2
rank DepColon = 3
rank SlashFull = 4
rank SlashOptional = 5
rank SlashWeak = 6
rank Section = 7

-- The kind of an edge's candidate.
abbrev pub kind_of : Edge → CandidateKind
kind_of feature_to_base = FeatureToBase
kind_of named_feature = NamedFeature
kind_of (dep_colon l) = DepColon
kind_of (slash_full l) = SlashFull
kind_of (slash_optional l) = SlashOptional
kind_of (slash_weak k l) = SlashWeak
kind_of (section l) = Section

-- Sorted by source and then by target.
abbrev pub IsBefore : Key → Key → Type 0
IsBefore a b = (a.from < b.from) ⊎ ((a.from ≡ b.from) × (a.to < b.to))

abbrev pub IsPair : Key → Key → Type 0
IsPair a b = (a.from ≡ b.from) × (a.to ≡ b.to)

-- `a` is before `b`, or of the same pair and of no higher rank.
abbrev pub IsUpTo : Key → Key → Type 0
IsUpTo a b = IsBefore a b ⊎ (IsPair a b × (rank a.kind ≤ rank b.kind))

-- `a` is before `b`, or of the same pair and no later by kind, source and place.
abbrev pub IsNoLater : Key → Key → Type 0
IsNoLater a b = IsBefore a b ⊎ (IsPair a b × ((rank a.kind < rank b.kind) ⊎ ((a.kind ≡ b.kind) × ((a.source < b.source) ⊎ ((a.source ≡ b.source) × (a.place ≤ b.place))))))

-- `run` has the keys of the pair of `key`, the first of `keys`, and `later` has the keys after them.
pub record IsSplitRun (keys : List Key) (key : Key) (run later : List Key) : Type 0 where
  pub whole : keys ≡ run ++ later
  pub first : slice_get run 0 ≡ Some key
  pub ordered : AllPairs IsNoLater run
  pub same : All (IsPair key) run
  pub rest_ordered : AllPairs IsNoLater later
  pub apart : All (IsBefore key) later

-- A kept key of the pair of `b` has no higher rank.
pub record IsServed (kept : List Key) (b : Key) : Type 0 where
  pub by : Key
  pub kept_one : Contains kept by
  pub pair : IsPair by b
  pub least : rank by.kind ≤ rank b.kind

-- `kept` has one key of each pair, of least rank, sorted by source and then by target.
pub record AreLeast (keys kept : List Key) : Type 0 where
  pub ascends : AllPairs IsBefore kept
  pub from_keys : (a : Key) → Contains kept a → Contains keys a
  pub each : (b : Key) → Contains keys b → IsServed kept b

-- The digraph's edge of a key's pair.
abbrev pub edge_of : Key → End
edge_of k = record { from = k.from; to = k.to; non_dev = true }
