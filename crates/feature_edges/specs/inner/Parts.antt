-- The keys that each part of the tables contributes.
use Rattle.std.specs.Prelude.{◌≡◌, ◌≢◌, ℕ, ◌+◌, ◌<◌, ◌≤◌, ◌⊎◌, Bool, IsTrue, IsFalse, slice_get, Some, length, ◌&&◌, if◌then◌else◌}
use Rattle.guppy_packages.specs.Rows.{Text, Declared}
use Rattle.guppy_packages.specs.Tables.{FeatureTable, PackageTable, LinkTable, Tables}
use Rattle.guppy_packages.specs.Items.{Item, feature_item, optional_item, slash_item, item_of}
use Rattle.feature_labels.specs.Names.{LabelName}
use Rattle.feature_labels.specs.Names.LabelName.{base, named, optional}
use Rattle.feature_labels.specs.declared.link_declarations.LinkDeclarations.TheVariants.{Optional}
use Rattle.feature_edges.specs.declared.candidate.CandidateKind.{CandidateKind}
use Rattle.feature_edges.specs.declared.candidate.CandidateKind.TheVariants.{FeatureToBase, NamedFeature, DepColon, SlashFull, SlashOptional, SlashWeak, Section}
use Rattle.feature_edges.specs.Nodes.{NodeAt, labels_of, first_node}
use Rattle.feature_links.specs.Links.{IsPackage, IsLink, has_declaration}
use Rattle.feature_edges.specs.Candidates.{requests}
use Rattle.feature_edges.specs.declared.candidate.Key.{Key}

abbrev pub key : ℕ → ℕ → CandidateKind → ℕ → ℕ → Key
key from to kind source place = record { from = from; to = to; kind = kind; source = source; place = place }

-- A key from node `k` of a package, which isn't its first, to its first node.
abbrev pub IsToFirst : ℕ → ℕ → Key → Type 0
IsToFirst first k x = (0 < k) × (x ≡ key (first + k) first FeatureToBase 0 0)

-- A key from `u` to a label of package `p`, with these other fields.
abbrev pub IsTo : Tables → ℕ → ℕ → LabelName → CandidateKind → ℕ → ℕ → Key → Type 0
IsTo t u p label kind source place x = (w : ℕ) × NodeAt t w p label × (x ≡ key u w kind source place)

-- The kind of a slash edge, by whether its item is weak and its link has an optional declaration.
abbrev pub over_kind : Bool → LinkTable → CandidateKind
over_kind weak link = if weak && has_declaration Optional link then SlashWeak else SlashFull

-- A key from `u` to the named feature `g` of the target of link `k`, which leaves package `p` under the name `d`.
abbrev pub IsOver : Tables → ℕ → ℕ → Text → Text → Bool → ℕ → Key → Type 0
IsOver t u p d g weak k x = (link : LinkTable) × IsLink t k link × (link.from ≡ p) × (link.name ≡ d) × IsTo t u link.to (named g) (over_kind weak link) k 0 x

-- A key from `u` to the optional dependency `d` of package `p`, or to its named feature `d` unless that is `f`.
abbrev pub IsBeside : Tables → ℕ → ℕ → Text → Text → Key → Type 0
IsBeside t u p f d x = IsTo t u p (optional d) SlashOptional 0 0 x ⊎ ((d ≢ f) × ((n : ℕ) × NodeAt t n p (optional d)) × IsTo t u p (named d) SlashOptional 0 0 x)

-- A key of an item of feature `f` of package `p`; node `u` is that feature.
abbrev pub IsOfItem : Tables → ℕ → ℕ → Text → Item → Key → Type 0
IsOfItem t u p f (feature_item g) x = (g ≢ f) × IsTo t u p (named g) NamedFeature 0 0 x
IsOfItem t u p f (optional_item d) x = IsTo t u p (optional d) DepColon 0 0 x
IsOfItem t u p f (slash_item d g weak) x = ((k : ℕ) × IsOver t u p d g weak k x) ⊎ (IsFalse weak × IsBeside t u p f d x)

-- A key of item `k`.
abbrev pub IsOfItemAt : Tables → ℕ → ℕ → FeatureTable → ℕ → Key → Type 0
IsOfItemAt t u p feature k x = (text : Text) × (slice_get feature.items k ≡ Some text) × IsOfItem t u p feature.name (item_of text) x

-- A key of the items of named feature `k` of package `p`.
abbrev pub IsOfFeatureAt : Tables → ℕ → PackageTable → ℕ → Key → Type 0
IsOfFeatureAt t p table k x = (feature : FeatureTable) × (slice_get table.features k ≡ Some feature) × ((j : ℕ) × IsOfItemAt t (first_node t p + 1 + k) p feature j x)

-- A key from a node of a package, whose place is at least `start`, to its first node.
abbrev pub IsToFirstFrom : ℕ → ℕ → ℕ → Key → Type 0
IsToFirstFrom start first k x = (start ≤ k) × IsToFirst first k x

-- A key from node `u`, which is the feature, to the base of package `p`, or of an item of the feature.
abbrev pub IsOfFeature : Tables → ℕ → ℕ → FeatureTable → Key → Type 0
IsOfFeature t u p feature x = (x ≡ key u (first_node t p) FeatureToBase 0 0) ⊎ ((j : ℕ) × IsOfItemAt t u p feature j x)

-- A key from an optional dependency of package `p` to its base.
abbrev pub IsOfOptional : Tables → ℕ → PackageTable → Key → Type 0
IsOfOptional t p table x = (k : ℕ) × (k < length (labels_of table)) × IsToFirstFrom (1 + length table.features) (first_node t p) k x

-- A key of the nodes or the items of package `p`.
abbrev pub IsOfPackageAt : Tables → ℕ → Key → Type 0
IsOfPackageAt t p x = (table : PackageTable) × IsPackage t p table × (((k : ℕ) × (k < length (labels_of table)) × IsToFirst (first_node t p) k x) ⊎ ((k : ℕ) × IsOfFeatureAt t p table k x))

-- The label that a declaration of the link starts from.
abbrev pub start_of : LinkTable → Declared → LabelName
start_of link d = if d.optional then optional link.name else base

-- A key from `u` to a node of package `p` that declaration `j` of link `k` requests.
abbrev pub IsRequest : Tables → ℕ → ℕ → ℕ → ℕ → Declared → Key → Type 0
IsRequest t u p k j d x = (asked : LabelName) × IsTrue (requests d asked) × IsTo t u p asked Section k j x

-- A key of declaration `j` of link `k`.
abbrev pub IsOfDeclarationAt : Tables → ℕ → LinkTable → ℕ → Key → Type 0
IsOfDeclarationAt t k link j x = (d : Declared) × (slice_get link.declarations j ≡ Some d) × ((u : ℕ) × NodeAt t u link.from (start_of link d) × IsRequest t u link.to k j d x)

-- A key of the declarations of link `k`.
abbrev pub IsOfLinkAt : Tables → ℕ → Key → Type 0
IsOfLinkAt t k x = (link : LinkTable) × IsLink t k link × ((j : ℕ) × IsOfDeclarationAt t k link j x)

-- Link `k` leaves package `p`.
abbrev pub IsLinkFrom : Tables → ℕ → ℕ → Type 0
IsLinkFrom t p k = (link : LinkTable) × IsLink t k link × (link.from ≡ p)

-- A key of the links that leave package `p`, or from an optional dependency of `p` to its base.
abbrev pub IsAround : Tables → ℕ → PackageTable → Key → Type 0
IsAround t p table x = ((k : ℕ) × IsLinkFrom t p k × IsOfLinkAt t k x) ⊎ IsOfOptional t p table x

-- A key of package `p`, or of a link that leaves it.
abbrev pub IsOfSource : Tables → ℕ → Key → Type 0
IsOfSource t p x = IsOfPackageAt t p x ⊎ ((k : ℕ) × IsLinkFrom t p k × IsOfLinkAt t k x)

-- A key of some part of the tables.
abbrev pub IsOfTables : Tables → Key → Type 0
IsOfTables t x = ((p : ℕ) × IsOfPackageAt t p x) ⊎ ((k : ℕ) × IsOfLinkAt t k x)

-- A key from `u` to the named feature `g` of the target of link `k`.
abbrev pub IsOverLink : Tables → ℕ → Text → Bool → ℕ → Key → Type 0
IsOverLink t u g weak k x = (link : LinkTable) × IsLink t k link × IsTo t u link.to (named g) (over_kind weak link) k 0 x
