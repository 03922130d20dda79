-- The lines of features in order, and of cycles.
use Rattle.std.proofs.Common.{◌≡◌, ℕ, List, [], ◌∷◌, ◌++◌, true, length, map, replicate, append_assoc, append-nil, refl, ap, sym, ◌∙◌, subst}
use Rattle.std.specs.Prelude.{flat_map}
use Rattle.digraphs.specs.declared.digraph.Edge.{Edge}
use Rattle.digraph_orders.specs.Laws.{OrderListsEach}
use Rattle.digraph_orders.specs.Orders.{ListsEach}
use Rattle.digraph_orders.specs.Sequences.{Sequence, IsOrderOf}
use Rattle.guppy_support.specs.Cycles.{cyclic_components, nodes_of}
use Rattle.guppy_support.specs.Views.{in_order}
use Rattle.guppy_packages.specs.Rows.{Text}
use Rattle.guppy_packages.specs.Tables.{Tables}
use Rattle.guppy_packages.specs.declared.direction.DependencyDirection.{DependencyDirection}
use Rattle.guppy_packages.specs.declared.direction.DependencyDirection.TheVariants.{Forward, Reverse}
use Rattle.feature_labels.specs.Names.{LabelName}
use Rattle.feature_core.specs.Built.{Built, IsBuilt, digraph_of}
use Rattle.feature_core.specs.Nodes.{nodes}
use Rattle.feature_graph.specs.Names.{names_of_nodes}
use Rattle.guppy_packages.specs.PackageSets.{reading_of}
use Rattle.feature_graph.specs.Ordered.{ordered_names}
use Rattle.feature_graph.specs.Tied.{cycle_names}
use Rattle.feature_graph.specs.Values.{Graph, Set}
use Rattle.guppy_tool.specs.Answers.{OrdersNodes, ListsInOrder, ListsCycles, groups, listing, read_by}
use Rattle.guppy_tool.proofs.WholeOrders.{whole_list, whole_back}

-- the order of one build is the order of every build
pub orders_nodes : (t : Tables) (b : Built) (o : Sequence) → IsBuilt t b → IsOrderOf (digraph_of b) o → ((a b : Built) → IsBuilt t a → IsBuilt t b → digraph_of a ≡ digraph_of b) → OrdersNodes t o
orders_nodes t b o built order same = record {
  built = b;
  is_built = built;
  every = λ a is. subst (λ g. IsOrderOf g o) (same b a built is) order;
}

-- all nodes in order, reversed for `Reverse`
whole_in_order : (direction : DependencyDirection) (n : ℕ) (list : List ℕ) → ListsEach n list → in_order (reading_of direction) list (replicate n true) ≡ read_by direction list
whole_in_order Forward n list each = whole_list n list each
whole_in_order Reverse n list each = whole_back n list each

-- the set of all features, listed in order, is the output of `order`
pub lists_in_order : (t : Tables) (b : Built) (direction : DependencyDirection) (set : Set) (o : Sequence) (text : Text)
    → set.graph ≡ record { tables = t; built = b } → set.members ≡ replicate (length (nodes t)) true → length b.packages ≡ length (nodes t)
    → OrderListsEach → IsOrderOf (digraph_of set.graph.built) o → OrdersNodes t o → text ≡ listing (ordered_names direction set o) → ListsInOrder t direction text
lists_in_order t b direction set o text graph members count lists order every lines =
    let own : IsOrderOf (digraph_of b) o = subst (λ (g : Graph). IsOrderOf (digraph_of g.built) o) graph order in
    let each : ListsEach (length (nodes t)) o.list = subst (λ n. ListsEach n o.list) count (lists (digraph_of b) o.list own.order) in
    let whole : in_order (reading_of direction) o.list set.members ≡ read_by direction o.list = ap (in_order (reading_of direction) o.list) members ∙ whole_in_order direction (length (nodes t)) o.list each in
    record {
      order = o;
      is_order = every;
      lines = lines ∙ ap (λ (g : Graph). listing (names_of_nodes g.tables (in_order (reading_of direction) o.list set.members))) graph ∙ ap (λ z. listing (names_of_nodes t z)) whole;
    }

-- the text of the groups to come, with `before` in front of the first
abbrev pub groups_after : Text → List (List (Text × LabelName)) → Text
groups_after before [] = []
groups_after before (first ∷ rest) = before ++ (listing first ++ flat_map (λ ids. 10 ∷ listing ids) rest)

pub groups_begin : (all : List (List (Text × LabelName))) → groups_after [] all ≡ groups all
groups_begin [] = refl
groups_begin (first ∷ rest) = refl

groups_further : (rest : List (List (Text × LabelName))) → groups_after (10 ∷ []) rest ≡ flat_map (λ ids. 10 ∷ listing ids) rest
groups_further [] = refl
groups_further (first ∷ rest) = refl

-- a step of the loop moves one group into the text
pub groups_next : (before text next all : Text) (first : List (Text × LabelName)) (rest left : List (List (Text × LabelName)))
    → left ≡ first ∷ rest → text ++ groups_after before left ≡ all → next ≡ text ++ (before ++ listing first) → next ++ groups_after (10 ∷ []) rest ≡ all
groups_next before text next all first rest left is so_far more =
    ap (λ z. z ++ groups_after (10 ∷ []) rest) more
    ∙ append_assoc text (before ++ listing first) (groups_after (10 ∷ []) rest)
    ∙ ap (λ z. text ++ z) (append_assoc before (listing first) (groups_after (10 ∷ []) rest))
    ∙ ap (λ z. text ++ (before ++ (listing first ++ z))) (groups_further rest)
    ∙ ap (λ z. text ++ groups_after before z) (sym is)
    ∙ so_far

-- at the end no group is to come
pub groups_end : (before text all : Text) (left : List (List (Text × LabelName))) → left ≡ [] → text ++ groups_after before left ≡ all → text ≡ all
groups_end before text all left none so_far = sym (append-nil text) ∙ ap (λ z. text ++ groups_after before z) (sym none) ∙ so_far

-- the names of the components that have a cycle, by the edges
abbrev names_by : Tables → List Edge → Sequence → List (List (Text × LabelName))
names_by t edges o = map (λ c. names_of_nodes t (nodes_of o c)) (cyclic_components edges o)

-- the cycles of one build are the cycles of every build
pub lists_cycles : (t : Tables) (b : Built) (o : Sequence) (text : Text) → IsBuilt t b → IsOrderOf (digraph_of b) o → ((a b : Built) → IsBuilt t a → IsBuilt t b → digraph_of a ≡ digraph_of b)
    → text ≡ groups (cycle_names (record { tables = t; built = b }) o) → ListsCycles t text
lists_cycles t b o text built order same lines = record {
  order = o;
  is_order = orders_nodes t b o built order same;
  lines = λ a is. lines ∙ ap (λ g. groups (names_by t g.edges o)) (same b a built is);
}
