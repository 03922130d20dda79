-- The input for the edges of keys.
use Rattle.std.proofs.Common.{◌≡◌, ℕ, ◌<◌, ◌⊎◌, ⊎_elim, List, length, ap, sym, ◌∙◌, subst, Some, Option}
use Rattle.std.specs.Prelude.{slice_get, slice_index}
use Rattle.std.specs.Option.{option_map}
use Rattle.std.proofs.lemmas.Option.{slice_get-map, slice_get_within, get_or_from_slice_get}
use Rattle.guppy_packages.specs.Rows.{Text}
use Rattle.guppy_packages.specs.Tables.{LinkTable, Tables}
use Rattle.feature_labels.specs.Names.{LabelName}
use Rattle.feature_labels.specs.Names.LabelName.{named, optional}
use Rattle.feature_edges.specs.Nodes.{NodeAt, node_packages, node_places}
use Rattle.feature_links.specs.Links.{IsLink, LinkFacts}
use Rattle.feature_links.specs.Facts.{WeakFacts}

package_entry : (t : Tables) (n p : ℕ) (l : LabelName) → NodeAt t n p l → slice_get (node_packages t) n ≡ Some p
package_entry t n p l h = slice_get-map (λ x. x.0) (node_places t) n ∙ ap (option_map (λ x. x.0)) h

-- the package of a node
pub package_is : (t : Tables) (packages : List ℕ) (n p : ℕ) (l : LabelName) → packages ≡ node_packages t → NodeAt t n p l → slice_index packages n ≡ p
package_is t packages n p l e h = get_or_from_slice_get packages n p 0 (subst (λ z. slice_get z n ≡ Some p) (sym e) (package_entry t n p l h))

pub node_within : (t : Tables) (packages : List ℕ) (n p : ℕ) (l : LabelName) → packages ≡ node_packages t → NodeAt t n p l → n < length packages
node_within t packages n p l e h = slice_get_within packages n p (subst (λ z. slice_get z n ≡ Some p) (sym e) (package_entry t n p l h))

pub package_of_name : (t : Tables) (packages : List ℕ) (n p : ℕ) (d : Text) → packages ≡ node_packages t → NodeAt t n p (optional d) ⊎ NodeAt t n p (named d) → slice_index packages n ≡ p
package_of_name t packages n p d e h = ⊎_elim (λ i. package_is t packages n p (optional d) e i) (λ i. package_is t packages n p (named d) e i) h

pub link_within : (t : Tables) (k : ℕ) (link : LinkTable) → IsLink t k link → k < length t.links
link_within t k link h = slice_get_within t.links k link h

abbrev weak_of : ℕ → Option LinkFacts → Option LinkFacts → WeakFacts
weak_of i r o = record { index = i; required = r; optional = o }

-- weak halves that are equal part by part
pub same_weak : (a b : WeakFacts) → a.index ≡ b.index → a.required ≡ b.required → a.optional ≡ b.optional → a ≡ b
same_weak a b i r o = ap (λ z. weak_of z a.required a.optional) i ∙ ap (λ z. weak_of b.index z a.optional) r ∙ ap (λ z. weak_of b.index b.required z) o
