-- Each command has an answer over all bytes.
use Rattle.std.proofs.Common.{◌≡◌, ℕ, zero, suc, ◌<◌, ◌⊎◌, inl, inr, Bool, false, List, [], ◌∷◌, ◌++◌, length, map, Option, Some, None, Result, Ok, Err, refl, ap, sym, ◌∙◌, subst, arith}
use Rattle.std.specs.Prelude.{◌↔◌, Contains, IsTrue, slice_get}
use Rattle.std.specs.Option.{option_map, option_map_or}
use Rattle.std.proofs.lemmas.Option.{slice_get-map}
use Rattle.digraphs.specs.Bits.{has}
use Rattle.digraphs.specs.Graph.{IsDigraph}
use Rattle.digraph_orders.specs.Laws.{OrderExists}
use Rattle.guppy_packages.specs.Rows.{Text}
use Rattle.guppy_packages.specs.Tables.{AreTables, PackageTable, Tables}
use Rattle.guppy_packages.specs.declared.direction.DependencyDirection.{DependencyDirection}
use Rattle.guppy_packages.specs.declared.direction.DependencyDirection.TheVariants.{Forward}
use Rattle.guppy_packages.specs.declared.row.DependencyKind.{DependencyKind}
use Rattle.feature_labels.specs.Lists.{joined}
use Rattle.feature_labels.specs.declared.link_declarations.LinkDeclarations.{LinkDeclarations}
use Rattle.feature_labels.specs.Names.{LabelName, id_text}
use Rattle.walk_engine.specs.declared.walks.Half.{Half}
use Rattle.walk_engine.specs.declared.walks.Step.{Step}
use Rattle.walk_engine.specs.declared.walks.StepReason.{StepReason}
use Rattle.walk_engine.specs.declared.walks.StepReason.TheVariants as number
use Rattle.walk_engine.specs.Explanations.{IsExplanation, IsReason}
use Rattle.walk_engine.specs.Laws.{every}
use Rattle.walk_engine.specs.Walks.{Content, EndsAreNodes, IsWay, Least, Way}
use Rattle.feature_links.specs.Facts.{EdgeFacts}
use Rattle.feature_links.specs.Links.{LinkFacts}
use Rattle.feature_core.specs.Built.{Built, IsBuilt, digraph_of, end_of, ends_of, pairs_of}
use Rattle.feature_core.specs.Nodes.{labels_of, nodes}
use Rattle.feature_core.specs.Offers.{content_of}
use Rattle.feature_core.specs.Pairs.{IsPairList, Reach}
use Rattle.feature_core.specs.Warnings.{warnings}
use Rattle.feature_core.proofs.AddsLemmas.{place_below, place_of_element}
use Rattle.feature_core.proofs.Determined.{one_content}
use Rattle.feature_core.proofs.GraphContent.{built_count, ends_are_nodes, reach_tables}
use Rattle.feature_core.proofs.NodeLabels.{element_within}
use Rattle.feature_core.proofs.OfferLemmas.{says, says_same, way_edge}
use Rattle.feature_core.proofs.Reaches.{reach_in}
use Rattle.feature_core.proofs.SoundEnds.{pairs_sound}
use Rattle.walk_checks.proofs.Steps.{reason_node}
use Rattle.feature_graph.specs.Explained.{AreTold}
use Rattle.feature_graph.specs.LinkValues.{facts_of}
use Rattle.feature_graph.specs.Names.{AreKnown, HasFeature, HasPackage, HoldsExactly, IsAmong, IsFirstUnknown, at_places, names_of_nodes}
use Rattle.feature_graph.specs.Tied.{cycle_names}
use Rattle.feature_graph.specs.Told.{ReasonName, edge, ends_told, initial, link, reason_told, step_told}
use Rattle.feature_graph.specs.Values.{Graph}
use Rattle.feature_graph.specs.Visits.{offered}
use Rattle.guppy_features.specs.Platforms.{is_for_platform, platform_offers}
use Rattle.guppy_tool.specs.Answers.{Builds, IsOutput, ListsFeatures, ListsInOrder, NamesUnknown, Resolves, Visits, groups, listing, read_by, step_lines, warning_lines}
use Rattle.guppy_tool.specs.Faults.{Refusal, unknown_feature, unknown_package}
use Rattle.guppy_tool.specs.Words.{CommandText, resolve, visit, ordered, all_cycles, list_of, all_warnings, build}
use Rattle.guppy_tool.proofs.OneBuild.{tells_too}
use Rattle.guppy_tool.proofs.OneDigraph.{one_digraph}
use Rattle.guppy_tool.proofs.OrderingLemmas.{lists_cycles, orders_nodes}
use Rattle.laws.proofs.BuildExists.{built_exists}
use Rattle.laws.proofs.DoubleNegation.{Marks, decided, marked, onward, sure}
use Rattle.laws.proofs.ExplanationExists.{explanation_exists, least_below}
use Rattle.laws.proofs.LabelsExist.{labels_ascend}
use Rattle.laws.proofs.SequenceExists.{sequence_exists}

abbrev Name : Type 0
Name = Text × LabelName

abbrev Linked : Type 0
Linked = Name × Name × LinkDeclarations

abbrev linked : Linked → ReasonName
linked o = link o.0 o.1 o.2

-- ---- ids

known_first : (t : Tables) (id : Name) (ids : List Name) → HasFeature t id → AreKnown t ids → AreKnown t (id ∷ ids)
known_first t id ids has known zero name e = let same : id ≡ name = cc in subst (HasFeature t) same has
known_first t id ids has known (suc k) name e = known k name e

unknown_later : (t : Tables) (id : Name) (ids : List Name) (name : Name) → HasFeature t id → IsFirstUnknown t ids name → IsFirstUnknown t (id ∷ ids) name
unknown_later t id ids name has first = record { place = suc first.place; at = first.at; unknown = first.unknown; before = before }
  where
    before : (k : ℕ) (other : Name) → k < suc first.place → slice_get (id ∷ ids) k ≡ Some other → HasFeature t other
    before zero other l e = let same : id ≡ other = cc in subst (HasFeature t) same has
    before (suc k) other l e = first.before k other (omega (arith, l)) e

abbrev Sorted : Tables → List Name → Type 0
Sorted t ids = AreKnown t ids ⊎ ((name : Name) × IsFirstUnknown t ids name)

-- all ids are known, or one is the first unknown one
known_or_not : (t : Tables) (ids : List Name) → ¬ ¬ Sorted t ids
known_or_not t [] = sure (inl (λ k name e. absurd (cc)))
known_or_not t (id ∷ ids) = onward (decided (HasFeature t id)) (λ d. onward (known_or_not t ids) (λ s. sure (go d s)))
  where
    go : HasFeature t id ⊎ ¬ HasFeature t id → Sorted t ids → Sorted t (id ∷ ids)
    go (inr unknown) s = inr (id, record { place = 0; at = refl; unknown = unknown; before = λ k other l e. absurd (omega (arith, l)) })
    go (inl has) (inl known) = inl (known_first t id ids has known)
    go (inl has) (inr first) = inr (first.0, unknown_later t id ids first.0 has first.1)

among_below : (t : Tables) (ids : List Name) (n : ℕ) → IsAmong t ids n → n < length (nodes t)
among_below t ids n x = place_below (nodes t) n x.1 x.3

-- ---- the commands over a build

module _ (t : Tables) (tables : AreTables t) (b : Built) (is : IsBuilt t b) where
  count : length b.packages ≡ length (nodes t)
  count = built_count t b is

  ends : (direction : DependencyDirection) → EndsAreNodes (content_of direction b)
  ends direction = ends_are_nodes t tables b direction is

  same_digraph : (a c : Built) → IsBuilt t a → IsBuilt t c → digraph_of a ≡ digraph_of c
  same_digraph a c x y = one_digraph t a c (λ k e at. says t a k e x at) (λ k e s at edge. says_same t tables c k e s y at edge) (one_content t tables a c Forward x y)

  -- the initial nodes are nodes
  initials_below : (ids : List Name) (m : Marks (length (nodes t)) (IsAmong t ids)) (n : ℕ) → IsTrue (has m.marks n) → n < length b.packages
  initials_below ids m n h = let below = among_below t ids n ((m.exact n).0 h) in let same = count in omega (arith, below, same)

  reach_below : (direction : DependencyDirection) (ids : List Name) (m : Marks (length (nodes t)) (IsAmong t ids)) (n : ℕ) → Reach t direction (has m.marks) n → n < length (nodes t)
  reach_below direction ids m n h =
      let below : n < length b.packages = reach_in (content_of direction b) (has m.marks) every (λ k. k < length b.packages) (initials_below ids m) (λ e w way passes start. (ends direction e w way).1) n ((reach_tables t b direction (has m.marks) n is).1 h) in
      let same = count in
      omega (arith, below, same)

  least_within : (direction : DependencyDirection) (ids : List Name) (m : Marks (length (nodes t)) (IsAmong t ids)) (n : ℕ) → Least (content_of direction b) (has m.marks) every n → n < length (nodes t)
  least_within direction ids m n h =
      let below : n < length b.packages = least_below (content_of direction b) (has m.marks) every (ends direction) (initials_below ids m) n h in
      let same = count in
      omega (arith, below, same)

  initials_of : (ids : List Name) → ¬ ¬ Marks (length (nodes t)) (IsAmong t ids)
  initials_of ids = marked (length (nodes t)) (IsAmong t ids) (among_below t ids)

  given_by : (ids : List Name) (m : Marks (length (nodes t)) (IsAmong t ids)) → HoldsExactly t m.marks ids
  given_by ids m = record { size = m.long; exact = m.exact }

  resolved : (direction : DependencyDirection) (ids : List Name) → AreKnown t ids → ¬ ¬ ((text : Text) × Resolves t direction ids text)
  resolved direction ids known =
      onward (initials_of ids) (λ m.
      onward (marked (length (nodes t)) (Reach t direction (has m.marks)) (reach_below direction ids m)) (λ r.
      sure (
        listing (at_places (has r.marks) (nodes t)),
        record { known = known; initials = m.marks; given = given_by ids m; members = r.marks; reached = r.exact; lines = refl },
      )))

  visited : (direction : DependencyDirection) (ids : List Name) → AreKnown t ids → ¬ ¬ ((text : Text) × Visits t direction ids text)
  visited direction ids known =
      onward (initials_of ids) (λ m.
      onward (marked (length (nodes t)) (Least (content_of direction b) (has m.marks) every) (least_within direction ids m)) (λ r.
      sure (
        listing (at_places (has r.marks) (nodes t)),
        record {
          known = known;
          initials = m.marks;
          given = given_by ids m;
          built = b;
          is_built = is;
          members = r.marks;
          least = λ a x n. subst (λ (c : Content). IsTrue (has r.marks n) ↔ Least c (has m.marks) every n) (one_content t tables b a direction is x) (r.exact n);
          lines = refl;
        },
      )))

  -- ---- the order of the nodes

  ends_paired : (edges : List (ℕ × ℕ × EdgeFacts)) → ends_of edges ≡ pairs_of (map end_of edges)
  ends_paired [] = refl
  ends_paired (e ∷ edges) = ap (λ z. (e.0, e.1) ∷ z) (ends_paired edges)

  is_digraph : IsDigraph (digraph_of b)
  is_digraph =
      let pairs : IsPairList t (pairs_of (map end_of b.edges)) = subst (IsPairList t) (ends_paired b.edges) is.pairs in
      subst (λ n. IsDigraph (record { nodes = n; edges = map end_of b.edges })) (ap length (sym is.packages)) (pairs_sound t (map end_of b.edges) pairs)

  ordered_text : OrderExists → (direction : DependencyDirection) → ¬ ¬ ((text : Text) × ListsInOrder t direction text)
  ordered_text order direction =
      onward (sequence_exists order (digraph_of b) is_digraph) (λ o.
      sure (
        listing (names_of_nodes t (read_by direction o.0.list)),
        record { order = o.0; is_order = orders_nodes t b o.0 is o.1 same_digraph; lines = refl },
      ))

  cycles_text : OrderExists → ¬ ¬ ((text : Text) × IsOutput all_cycles t (Ok text))
  cycles_text order =
      onward (sequence_exists order (digraph_of b) is_digraph) (λ o.
      let g : Graph = record { tables = t; built = b } in
      sure (groups (cycle_names g o.0), lists_cycles t b o.0 (groups (cycle_names g o.0)) is o.1 same_digraph refl))

  -- ---- the steps of a platform

  abbrev graph : Graph
  graph = record { tables = t; built = b }

  -- A node has a name.
  named_node : (n : ℕ) → n < length b.packages → (name : Name) × (slice_get (nodes t) n ≡ Some name)
  named_node n l = let same = count in element_within (nodes t) n (omega (arith, l, same))

  ends_named : (e : ℕ) (w : Way) → IsWay (content_of Forward b) e w → (names : Name × Name) × (ends_told graph e ≡ Some names)
  ends_named e w way =
      let x = way_edge b Forward e w way in
      let within = ends Forward e w way in
      let start = ap (λ (z : Way). z.start) x.2 in
      let far = ap (λ (z : Way). z.far) x.2 in
      let low = within.0 in
      let high = within.1 in
      let from = named_node x.0.0 (omega (arith, start, low)) in
      let to = named_node x.0.1 (omega (arith, far, high)) in
      let from_is : option_map_or (λ (y : ℕ × ℕ × EdgeFacts). slice_get (nodes t) y.0) (slice_get b.edges e) None ≡ Some from.0 = ap (λ o. option_map_or (λ (y : ℕ × ℕ × EdgeFacts). slice_get (nodes t) y.0) o None) x.1 ∙ from.1 in
      let to_is : option_map_or (λ (y : ℕ × ℕ × EdgeFacts). slice_get (nodes t) y.1) (slice_get b.edges e) None ≡ Some to.0 = ap (λ o. option_map_or (λ (y : ℕ × ℕ × EdgeFacts). slice_get (nodes t) y.1) o None) x.1 ∙ to.1 in
      ((from.0, to.0), paired (option_map_or (λ (y : ℕ × ℕ × EdgeFacts). slice_get (nodes t) y.0) (slice_get b.edges e) None) (option_map_or (λ (y : ℕ × ℕ × EdgeFacts). slice_get (nodes t) y.1) (slice_get b.edges e) None) from.0 to.0 from_is to_is)
    where
      paired : (o p : Option Name) (from to : Name) → o ≡ Some from → p ≡ Some to → option_map_or (λ (a : Name). option_map {U = Name × Name} (λ (c : Name). (a, c)) p) o None ≡ Some (from, to)
      paired o p from to i j = ap (λ z. option_map_or (λ (a : Name). option_map {U = Name × Name} (λ (c : Name). (a, c)) p) z None) i ∙ ap (option_map {T = Name} {U = Name × Name} (λ c. (from, c))) j

  some_facts : (kinds : List DependencyKind) (specs : List Text) (o : Option LinkFacts) → IsTrue (option_map_or (is_for_platform kinds specs) o false) → (l : LinkFacts) × (o ≡ Some l)
  some_facts kinds specs None h = absurd (cc)
  some_facts kinds specs (Some l) h = (l, refl)

  module _ (kinds : List DependencyKind) (specs : List Text) where
    abbrev accepted : ℕ → Half → Bool
    accepted = platform_offers kinds specs graph

    offer_named : (e : ℕ) (h : Half) (names : Name × Name) → ends_told graph e ≡ Some names → IsTrue (accepted e h) → (why : ReasonName) × (reason_told graph (number.Offer e h) ≡ Some why)
    offer_named e h names ends_are accept =
        let l = some_facts kinds specs (facts_of (offered graph e h)) accept in (
          link names.0 names.1 l.0.declarations,
          ap (λ z. option_map linked (option_map_or (λ (ends : Name × Name). option_map {U = Linked} (λ (facts : LinkFacts). (ends.0, ends.1, facts.declarations)) (facts_of (offered graph e h))) z None)) ends_are
              ∙ ap (λ z. option_map linked (option_map {U = Linked} (λ (facts : LinkFacts). (names.0, names.1, facts.declarations)) z)) l.1,
        )

    reason_named : (initials : ℕ → Bool) (before : List ℕ) (n : ℕ) (r : StepReason) → IsReason (content_of Forward b) initials accepted before n r → (why : ReasonName) × (reason_told graph r ≡ Some why)
    reason_named initials before n number.Initial h = (initial, refl)
    reason_named initials before n (number.Edge e) (w, way, ask, far, start) =
        let names = ends_named e w way in
        (edge names.0.0 names.0.1, ap (option_map (λ (ends : Name × Name). edge ends.0 ends.1)) names.1)
    reason_named initials before n (number.Offer e h) (w, way, half, accept, far, start, gate) =
        let names = ends_named e w way in
        offer_named e h names.0 names.1 accept

    step_named : (s : Step) (name : Name) (why : ReasonName) → slice_get (nodes t) s.node ≡ Some name → reason_told graph s.reason ≡ Some why → step_told graph s ≡ Some (name, why)
    step_named s name why i j = ap (λ z. option_map_or (λ (m : Name). option_map {U = Name × ReasonName} (λ (y : ReasonName). (m, y)) (reason_told graph s.reason)) z None) i ∙ ap (option_map {U = Name × ReasonName} (λ (y : ReasonName). (name, y))) j

    all_told : (steps : List Step) → ((k : ℕ) (s : Step) → slice_get steps k ≡ Some s → (x : Name × ReasonName) × (step_told graph s ≡ Some x)) → (told : List (Name × ReasonName)) × AreTold graph steps told
    all_told [] each = ([], refl)
    all_told (s ∷ steps) each =
        let first = each 0 s refl in
        let rest = all_told steps (λ k. each (suc k)) in
        (first.0 ∷ rest.0, ap (λ z. z ∷ map (step_told graph) steps) first.1 ∙ ap (λ z. Some first.0 ∷ z) rest.1)

    module _ (ids : List Name) (m : Marks (length (nodes t)) (IsAmong t ids)) where
      steps_told : (steps : List Step) → IsExplanation (content_of Forward b) (has m.marks) accepted steps → (told : List (Name × ReasonName)) × AreTold graph steps told
      steps_told steps ok = all_told steps (λ k s at.
          let reason = ok.reasons k s at in
          let below : s.node < length b.packages = reason_node (content_of Forward b) (has m.marks) accepted _ s.node s.reason (ends Forward) (initials_below ids m) reason in
          let name = named_node s.node below in
          let why = reason_named (has m.marks) _ s.node s.reason reason in
          ((name.0, why.0), step_named s name.0 why.0 name.1 why.1))

      built_text : AreKnown t ids → ¬ ¬ ((text : Text) × Builds t kinds ids specs text)
      built_text known = onward (explanation_exists (content_of Forward b) (has m.marks) accepted (ends Forward) (initials_below ids m)) (λ x.
          let told = steps_told x.0 x.1 in
          sure (
            step_lines told.0,
            record {
              known = known;
              initials = m.marks;
              given = given_by ids m;
              told = told.0;
              lines = refl;
              built = b;
              is_built = is;
              every = λ a y.
                  tells_too t b a (λ k e at. says t b k e is at) (λ k e s at edge. says_same t tables a k e s y at edge) (one_content t tables b a Forward is y) kinds specs m.marks told.0
                  (record { steps = x.0; are_steps = told.1; explanation = x.1; least = x.2 });
            },
          ))

  -- ---- the features of a package

  one_table : (id : Text) (x y : PackageTable) → Contains t.packages x → Contains t.packages y → x.id ≡ id → y.id ≡ id → x ≡ y
  one_table id x y c d named other =
      let i = place_of_element t.packages x c in
      let j = place_of_element t.packages y d in
      let first : slice_get (map (λ (p : PackageTable). p.id) t.packages) i.0 ≡ Some id = slice_get-map (λ (p : PackageTable). p.id) t.packages i.0 ∙ ap (option_map (λ (p : PackageTable). p.id)) i.1 ∙ ap Some named in
      let second : slice_get (map (λ (p : PackageTable). p.id) t.packages) j.0 ≡ Some id = slice_get-map (λ (p : PackageTable). p.id) t.packages j.0 ∙ ap (option_map (λ (p : PackageTable). p.id)) j.1 ∙ ap Some other in
      let place : i.0 ≡ j.0 = tables.ids i.0 j.0 id first second in
      let both : Some x ≡ Some y = sym i.1 ∙ ap (slice_get t.packages) place ∙ j.1 in
      cc

  features_line : (id : Text) → HasPackage t id → (text : Text) × ListsFeatures t id text
  features_line id known =
      let labels = labels_ascend (labels_of known.0) in (
        joined labels.0 ++ 10 ∷ [],
        record {
          known = known;
          labels = labels.0;
          ascends = labels.1;
          own = λ other c named l. subst (λ (z : PackageTable). Contains (labels_of z) l ↔ Contains labels.0 l) (one_table id known.0 other known.1 c known.2 named) (labels.2 l);
          line = refl;
        },
      )

  -- ---- all commands

  abbrev Output : CommandText → Type 0
  Output command = (answer : Result Text Refusal) × IsOutput command t answer

  over_ids : (command : CommandText) (ids : List Name) → ((refusal : Refusal) → NamesUnknown t ids refusal → IsOutput command t (Err refusal)) → (AreKnown t ids → ¬ ¬ Output command) → ¬ ¬ Output command
  over_ids command ids refused answered = onward (known_or_not t ids) go
    where
      go : Sorted t ids → ¬ ¬ Output command
      go (inl known) = answered known
      go (inr first) = sure (Err (unknown_feature (id_text first.0)), refused (unknown_feature (id_text first.0)) (record { id = first.0; first = first.1; named = refl }))

  output : OrderExists → (command : CommandText) → ¬ ¬ Output command
  output order (resolve direction ids) = over_ids (resolve direction ids) ids (λ refusal x. x) (λ known. onward (resolved direction ids known) (λ x. sure (Ok x.0, x.1)))
  output order (visit direction ids) = over_ids (visit direction ids) ids (λ refusal x. x) (λ known. onward (visited direction ids known) (λ x. sure (Ok x.0, x.1)))
  output order (ordered direction) = onward (ordered_text order direction) (λ x. sure (Ok x.0, x.1))
  output order all_cycles = onward (cycles_text order) (λ x. sure (Ok x.0, x.1))
  output order (list_of id) = onward (decided (HasPackage t id)) go
    where
      go : HasPackage t id ⊎ ¬ HasPackage t id → ¬ ¬ Output (list_of id)
      go (inl known) = let x = features_line id known in sure (Ok x.0, x.1)
      go (inr unknown) = sure (Err (unknown_package id), (refl, unknown))
  output order all_warnings = sure (Ok (warning_lines (warnings t)), refl)
  output order (build kinds ids specs) =
      over_ids (build kinds ids specs) ids (λ refusal x. x) (λ known. onward (initials_of ids) (λ m. onward (built_text kinds specs ids m known) (λ x. sure (Ok x.0, x.1))))

-- each command has an output over the tables of rows
pub output_exists : OrderExists → (command : CommandText) (t : Tables) → AreTables t → ¬ ¬ ((answer : Result Text Refusal) × IsOutput command t answer)
output_exists order command t tables = onward (built_exists t tables) (λ b. output t tables b.0 b.1 order command)
