-- Lists of nodes and edges in the order, as names and links.
use Rattle.std.proofs.Common.{◌≡◌, ℕ, ◌+◌, ◌<◌, List, [], ◌∷◌, ◌++◌, length, map, take, get_or, filter, false, cond, Option, Some, None, ap, sym, ◌∙◌}
use Rattle.std.specs.Prelude.{All, IsFalse, MatchOption, slice_get}
use Rattle.std.specs.Option.{is_some}
use Rattle.std.specs.List.{cons_option, filter_map}
use Rattle.std.proofs.lemmas.List.{length-map, take_more}
use Rattle.std.proofs.lemmas.List.Elements.{filter_map-append, recursion_from_All}
use Rattle.digraphs.specs.Graph.{Graph as Digraph}
use Rattle.digraph_orders.specs.Sequences.{Sequence, IsOrderOf}
use Rattle.guppy_packages.specs.Rows.{Text}
use Rattle.guppy_packages.specs.Tables.{Tables}
use Rattle.feature_core.specs.Built.{Built, IsBuilt, digraph_of, end_of}
use Rattle.feature_core.specs.Nodes.{nodes}
use Rattle.feature_labels.specs.Names.{LabelName}
use Rattle.walk_engine.specs.declared.walks.Half.TheVariants.{Full}
use Rattle.feature_graph.specs.LinkValues.{has_facts}
use Rattle.feature_graph.specs.Ordered.{features_named, full_links}
use Rattle.feature_graph.specs.Values.{Graph}
use Rattle.feature_graph.specs.Visits.{offered}
use Rattle.feature_graph.proofs.BuiltLemmas.{built_count}
use Rattle.feature_graph.proofs.MemberNames.{as_many}

-- a list of nodes has as many names
pub as_many_names : {X : Type 0} (xs : List X) (numbers : List ℕ) → All (λ n. n < length xs) numbers → length (filter_map (slice_get xs) numbers) ≡ length numbers
as_many_names xs numbers h = as_many xs numbers (recursion_from_All (λ n. n < length xs) numbers h)

pub as_many_features : (t : Tables) (names : List (Text × LabelName)) → length (features_named t names) ≡ length names
as_many_features t names = length-map names (λ name. (t, name))

-- the order lists as many nodes as there are features
pub order_long : (t : Tables) (b : Built) (o : Sequence) → IsBuilt t b → IsOrderOf (digraph_of b) o → length o.list ≡ length (nodes t)
order_long t b o built order = order.order.long ∙ built_count t b built

-- the digraph of a built graph is determined by its parts
pub same_digraph : (g : Digraph) (b : Built) → g.nodes ≡ length b.packages → g.edges ≡ map end_of b.edges → g ≡ digraph_of b
same_digraph g b nodes edges = λ i. record { nodes = nodes i; edges = edges i }

-- a list of names with one more
pub names_more : (xs : List (Text × LabelName)) (numbers : List ℕ) (i n d : ℕ) (name : Text × LabelName) → i < length numbers → get_or numbers i d ≡ n → slice_get xs n ≡ Some name
    → filter_map (slice_get xs) (take i numbers) ++ name ∷ [] ≡ filter_map (slice_get xs) (take (i + 1) numbers)
names_more xs numbers i n d name within is at =
    let last : filter_map (slice_get xs) (n ∷ []) ≡ name ∷ [] = ap (λ o. cons_option o []) at in
    let more : take (i + 1) numbers ≡ take i numbers ++ n ∷ [] = take_more numbers i d within ∙ ap (λ k. take i numbers ++ k ∷ []) is in
    ap (λ l. filter_map (slice_get xs) (take i numbers) ++ l) (sym last)
    ∙ sym (filter_map-append (slice_get xs) (take i numbers) (n ∷ []))
    ∙ ap (filter_map (slice_get xs)) (sym more)

pub no_link : {X : Type 0} (o : Option X) (P : Type 0) (Q : X → Type 0) → MatchOption o P Q → is_some o ≡ false → P
no_link None P Q m h = m
no_link (Some x) P Q m h = cc

-- an unconditional edge has no full link
pub passed_edge : (g : Graph) (number : ℕ) (rest numbers : List ℕ) → numbers ≡ number ∷ rest → IsFalse (has_facts (offered g number Full)) → full_links g rest ≡ full_links g numbers
passed_edge g number rest numbers is none =
    let others : List ℕ = filter (λ k. has_facts (offered g k Full)) rest in
    sym (ap (full_links g) is ∙ ap (λ b. map (λ k. offered g k Full) (cond b (number ∷ others) others)) none)
