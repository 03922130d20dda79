-- The candidates for the edge of a pair of nodes, each with its rank.
use Rattle.std.specs.Prelude.{◌≡◌, ◌≢◌, ℕ, ◌≤◌, ◌∷◌, [], Bool, true, false, ◌&&◌, ◌||◌, IsTrue, IsFalse, Contains, codes}
use Rattle.std.specs.List.{list_any}
use Rattle.std.specs.Str.{bytes_eq}
use Rattle.guppy_packages.specs.Rows.{Text, Declared}
use Rattle.guppy_packages.specs.Tables.{FeatureTable, PackageTable, LinkTable, Tables}
use Rattle.guppy_packages.specs.Items.{Item, feature_item, optional_item, slash_item, item_of}
use Rattle.feature_labels.specs.Names.{LabelName}
use Rattle.feature_labels.specs.Names.LabelName.{base, named, optional}
use Rattle.feature_labels.specs.declared.link_declarations.LinkDeclarations.{LinkDeclarations}
use Rattle.feature_labels.specs.declared.link_declarations.LinkDeclarations.TheVariants.{Unsplit, Required, Optional}
use Rattle.feature_edges.specs.Nodes.{NodeAt}
use Rattle.feature_links.specs.Links.{LinkFacts, IsPackage, IsLink, over, includes, has_declaration, by_name}

-- An edge as a plain value; a weak edge also names its package link.
pub data Edge : Type 0 where
  feature_to_base : Edge
  named_feature : Edge
  dep_colon : LinkFacts → Edge
  slash_full : LinkFacts → Edge
  slash_optional : LinkFacts → Edge
  slash_weak : ℕ → LinkFacts → Edge
  section : LinkFacts → Edge

abbrev pub rank_of : Edge → ℕ
rank_of feature_to_base = 1
rank_of named_feature = 2
rank_of (dep_colon l) = 3
rank_of (slash_full l) = 4
rank_of (slash_optional l) = 5
rank_of (slash_weak k l) = 6
rank_of (section l) = 7

-- Feature `f` of package `p` has an item with the meaning `item`.
pub record HasItem (t : Tables) (p : ℕ) (f : Text) (item : Item) : Type 0 where
  pub table : PackageTable
  pub is_package : IsPackage t p table
  pub feature : FeatureTable
  pub is_feature : Contains table.features feature
  pub name : feature.name ≡ f
  pub text : Text
  pub is_item : Contains feature.items text
  pub says : item_of text ≡ item

-- Whether a declaration requests this label of its target.
abbrev pub requests : Declared → LabelName → Bool
requests d base = true
requests d (named g) = list_any (λ x. bytes_eq g x) d.features || (d.default_features && bytes_eq g (codes "default"))
requests d (optional n) = false

-- Whether a link covers the declaration and the declaration requests `label`.
abbrev pub requesting : LabelName → LinkDeclarations → Declared → Bool
requesting label which d = includes which d && requests d label

-- The link over all declarations of one package link.
abbrev pub unsplit_of : ℕ → LinkTable → LinkFacts
unsplit_of k link = over Unsplit (λ d. true) ((k, link) ∷ [])

-- An item `d/g` of feature `f`, or `d?/g` if `weak`, leads to `g` of the target of a link named `d`.
pub record LeadsOver (t : Tables) (u w : ℕ) (weak : Bool) (k : ℕ) (link : LinkTable) : Type 0 where
  pub f : Text
  pub g : Text
  pub has_item : HasItem t link.from f (slash_item link.name g weak)
  pub from_node : NodeAt t u link.from (named f)
  pub is_link : IsLink t k link
  pub to_node : NodeAt t w link.to (named g)

-- The covered declarations of a link lead from this label of its source to a node that one of them requests.
pub record IsSection (t : Tables) (u w : ℕ) (which : LinkDeclarations) (label : LinkTable → LabelName) (e : Edge) : Type 0 where
  pub k : ℕ
  pub link : LinkTable
  pub is_link : IsLink t k link
  pub asked : LabelName
  pub is_requested : IsTrue (list_any (requesting asked which) link.declarations)
  pub from_node : NodeAt t u link.from (label link)
  pub to_node : NodeAt t w link.to asked
  pub is_edge : e ≡ section (over which (requesting asked which) ((k, link) ∷ []))

-- The cases in which `e` is a candidate for the edge from `u` to `w`.
pub data Candidate (t : Tables) (u w : ℕ) (e : Edge) : Type 0 where
  to_base : (p : ℕ) (l : LabelName) → NodeAt t u p l → l ≢ base → NodeAt t w p base → e ≡ feature_to_base → Candidate t u w e
  to_feature : (p : ℕ) (f g : Text) → HasItem t p f (feature_item g) → g ≢ f → NodeAt t u p (named f) → NodeAt t w p (named g) → e ≡ named_feature → Candidate t u w e
  to_dependency : (p : ℕ) (f d : Text) → HasItem t p f (optional_item d) → NodeAt t u p (named f) → NodeAt t w p (optional d) → e ≡ dep_colon (by_name t p Unsplit d) → Candidate t u w e
  over_strong : (k : ℕ) (link : LinkTable) (weak : Bool) → LeadsOver t u w weak k link → IsFalse (weak && has_declaration Optional link) → e ≡ slash_full (unsplit_of k link) → Candidate t u w e
  over_weak : (k : ℕ) (link : LinkTable) → LeadsOver t u w true k link → IsTrue (has_declaration Optional link) → e ≡ slash_weak k (unsplit_of k link) → Candidate t u w e
  with_dependency : (p : ℕ) (f d g : Text) → HasItem t p f (slash_item d g false) → NodeAt t u p (named f) → NodeAt t w p (optional d) → e ≡ slash_optional (by_name t p Optional d) → Candidate t u w e
  with_feature : (p n : ℕ) (f d g : Text) → HasItem t p f (slash_item d g false) → NodeAt t u p (named f) → NodeAt t n p (optional d) → d ≢ f → NodeAt t w p (named d) → e ≡ slash_optional (by_name t p Optional d) → Candidate t u w e
  of_required : IsSection t u w Required (λ link. base) e → Candidate t u w e
  of_optional : IsSection t u w Optional (λ link. optional link.name) e → Candidate t u w e

-- The edge of a pair: a candidate of least rank.
pub record IsEdge (t : Tables) (u w : ℕ) (e : Edge) : Type 0 where
  pub candidate : Candidate t u w e
  pub least : (other : Edge) → Candidate t u w other → rank_of e ≤ rank_of other
