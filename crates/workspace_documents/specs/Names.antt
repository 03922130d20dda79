-- The places of used packages, by the names of the packages.
use Rattle.std.specs.Prelude.{◌≡◌, ℕ, List, [], filter, slice_get}
use Rattle.std.specs.Borrow.{Bor}
use Rattle.std.specs.BTreeMap.{BTreeMap, get_by}
use Rattle.std.specs.Cmp.Lexicographic.{slice_cmp}
use Rattle.std.specs.Global.{Vec}
use Rattle.std.specs.List.{filter_map}
use Rattle.std.specs.Option.{option_map_or}
use Rattle.std.specs.Ordering.{nat_cmp}
use Rattle.std.specs.Str.{bytes_eq}
use Rattle.cargo_json.specs.Faults.{Text}
use Rattle.workspace_documents.specs.Nodes.{DepText}

-- The places of a name; none if it has none.
abbrev pub places_of : BTreeMap (Bor Text) (Vec ℕ) → Text → List ℕ
places_of names q = option_map_or (λ g. g.items) (get_by (λ k. slice_cmp nat_cmp q k.now) names) []

-- The used packages with the name.
abbrev pub of_name : Text → List DepText → List DepText
of_name q ds = filter (λ d. bytes_eq q d.target.name) ds

-- The used packages at these places.
abbrev pub at_places : List DepText → List ℕ → List DepText
at_places ds places = filter_map (slice_get ds) places

-- At the places of each name are those of the used packages that have it, in their order.
abbrev pub HasNames : BTreeMap (Bor Text) (Vec ℕ) → List DepText → Type 0
HasNames names ds = (q : Text) → at_places ds (places_of names q) ≡ of_name q ds
