-- Keys whose edges are equal, as the keys show.
use Rattle.std.specs.Prelude.{◌≡◌, ℕ, ◌⊎◌, length}
use Rattle.guppy_packages.specs.Tables.{LinkTable, Tables}
use Rattle.feature_links.specs.Links.{IsLink}
use Rattle.feature_edges.specs.declared.candidate.CandidateKind.TheVariants.{SlashFull, SlashWeak, Section}
use Rattle.feature_edges.specs.declared.candidate.Key.{Key}

-- Package link `k` has exactly one declaration.
abbrev pub IsSingle : Tables → ℕ → Type 0
IsSingle t k = (link : LinkTable) → IsLink t k link → length link.declarations ≡ 1

-- Two keys of one kind have the same subject: the package link or the declaration that determines their edges.
pub data SharesSubject (t : Tables) (x y : Key) : Type 0 where
  one_link : (y.kind ≡ SlashFull) ⊎ (y.kind ≡ SlashWeak) → x.source ≡ y.source → SharesSubject t x y
  one_declaration : y.kind ≡ Section → x.source ≡ y.source → x.from ≡ y.from → IsSingle t y.source → SharesSubject t x y

pub record AreAlike (t : Tables) (x y : Key) : Type 0 where
  pub kind : x.kind ≡ y.kind
  pub subject : SharesSubject t x y
