-- The weak links of keys, and their gates.
use Rattle.std.specs.Prelude.{◌≡◌, ℕ, List, IsTrue, Option, None, Some, filter_map, slice_get}
use Rattle.guppy_packages.specs.Tables.{LinkTable, Tables}
use Rattle.feature_labels.specs.declared.link_declarations.LinkDeclarations.TheVariants.{Optional}
use Rattle.feature_links.specs.Links.{IsLink, has_declaration}
use Rattle.feature_edges.specs.declared.candidate.CandidateKind.{CandidateKind}
use Rattle.feature_edges.specs.declared.candidate.CandidateKind.TheVariants.{FeatureToBase, NamedFeature, DepColon, SlashFull, SlashOptional, SlashWeak, Section}
use Rattle.feature_edges.specs.Edges.{IsGate}
use Rattle.feature_edges.specs.declared.candidate.Key.{Key}

-- The package link of a candidate of this kind from package link `k`, if its edge is weak.
abbrev pub weak_source_of : CandidateKind → ℕ → Option ℕ
weak_source_of FeatureToBase k = None
weak_source_of NamedFeature k = None
weak_source_of DepColon k = None
weak_source_of SlashFull k = None
weak_source_of SlashOptional k = None
weak_source_of SlashWeak k = Some k
weak_source_of Section k = None

-- The package link of a weak edge's key.
abbrev pub weak_source : Key → Option ℕ
weak_source x = weak_source_of x.kind x.source

-- The package links of the keys of weak edges, in order.
abbrev pub weak_sources : List Key → List ℕ
weak_sources keys = filter_map weak_source keys

-- Package link `k` has an optional declaration.
pub record IsOptionalLink (t : Tables) (k : ℕ) : Type 0 where
  pub link : LinkTable
  pub is_link : IsLink t k link
  pub is_optional : IsTrue (has_declaration Optional link)

-- Each entry is a package link and its gate.
abbrev pub AreGates : Tables → List (ℕ × ℕ) → Type 0
AreGates t entries = (i k gate : ℕ) → slice_get entries i ≡ Some (k, gate) → IsGate t k gate
