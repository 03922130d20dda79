-- The link of the edge that a key represents.
use Rattle.std.proofs.Common.{◌≡◌, ℕ, ◌⊎◌, ◌∷◌, []}
use Rattle.std.specs.Prelude.{IsTrue}
use Rattle.guppy_packages.specs.Rows.{Text}
use Rattle.guppy_packages.specs.Tables.{LinkTable, Tables}
use Rattle.feature_labels.specs.Names.{LabelName}
use Rattle.feature_labels.specs.Names.LabelName.{base, named, optional}
use Rattle.feature_labels.specs.declared.link_declarations.LinkDeclarations.{LinkDeclarations}
use Rattle.feature_labels.specs.declared.link_declarations.LinkDeclarations.TheVariants.{Unsplit, Required, Optional}
use Rattle.feature_edges.specs.Nodes.{NodeAt}
use Rattle.feature_links.specs.Links.{LinkFacts, IsLink, over, has_declaration, by_name}
use Rattle.feature_edges.specs.Candidates.{Edge, feature_to_base, named_feature, dep_colon, slash_full, slash_optional, slash_weak, section, requesting, unsplit_of}
use Rattle.feature_edges.specs.declared.candidate.Key.{Key}

pub record SaysColon (t : Tables) (x : Key) (l : LinkFacts) : Type 0 where
  pub p : ℕ
  pub d : Text
  pub to_node : NodeAt t x.to p (optional d)
  pub is : l ≡ by_name t p Unsplit d

pub record SaysOver (t : Tables) (x : Key) (l : LinkFacts) : Type 0 where
  pub link : LinkTable
  pub is_link : IsLink t x.source link
  pub is : l ≡ unsplit_of x.source link

pub record SaysBeside (t : Tables) (x : Key) (l : LinkFacts) : Type 0 where
  pub p : ℕ
  pub d : Text
  pub to_node : NodeAt t x.to p (optional d) ⊎ NodeAt t x.to p (named d)
  pub is : l ≡ by_name t p Optional d

pub record HasOptional (t : Tables) (k : ℕ) : Type 0 where
  pub link : LinkTable
  pub is_link : IsLink t k link
  pub has : IsTrue (has_declaration Optional link)

pub record SaysWeak (t : Tables) (x : Key) (k : ℕ) (l : LinkFacts) : Type 0 where
  pub number : k ≡ x.source
  pub over : SaysOver t x l
  pub optional : HasOptional t x.source

pub record SaysSection (t : Tables) (x : Key) (l : LinkFacts) : Type 0 where
  pub which : LinkDeclarations
  pub link : LinkTable
  pub asked : LabelName
  pub is_link : IsLink t x.source link
  pub to_node : NodeAt t x.to link.to asked
  pub start : ((which ≡ Required) × NodeAt t x.from link.from base) ⊎ ((which ≡ Optional) × NodeAt t x.from link.from (optional link.name))
  pub is : l ≡ over which (requesting asked which) ((x.source, link) ∷ [])

abbrev pub Says : Tables → Key → Edge → Type 0
Says t x feature_to_base = Unit {0}
Says t x named_feature = Unit {0}
Says t x (dep_colon l) = SaysColon t x l
Says t x (slash_full l) = SaysOver t x l
Says t x (slash_optional l) = SaysBeside t x l
Says t x (slash_weak k l) = SaysWeak t x k l
Says t x (section l) = SaysSection t x l
