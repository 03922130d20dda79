-- Two builds of one package graph have the same named steps.
use Rattle.std.proofs.Common.{◌≡◌, ℕ, zero, suc, Bool, false, List, [], ◌∷◌, map, Option, Some, None, refl, ap, sym, ◌∙◌, subst}
use Rattle.std.specs.Prelude.{◌↔◌, slice_get, IsTrue}
use Rattle.std.specs.Option.{option_map, option_map_or}
use Rattle.std.proofs.Math.Logic.{∥∥₁_elim}
use Rattle.std.proofs.Props.{props}
use Rattle.digraphs.specs.Bits.{has}
use Rattle.guppy_packages.specs.Platform.{Status, never_status, always_status, spec_status}
use Rattle.guppy_packages.specs.Rows.{Text}
use Rattle.guppy_packages.specs.Tables.{Tables}
use Rattle.guppy_packages.specs.declared.direction.DependencyDirection.{DependencyDirection}
use Rattle.guppy_packages.specs.declared.direction.DependencyDirection.TheVariants.{Forward}
use Rattle.guppy_packages.specs.declared.row.DependencyKind.{DependencyKind}
use Rattle.feature_labels.specs.Names.{LabelName}
use Rattle.feature_labels.specs.declared.link_declarations.LinkDeclarations.{LinkDeclarations}
use Rattle.walk_engine.specs.declared.walks.Half.{Half}
use Rattle.walk_engine.specs.declared.walks.Half.TheVariants as half
use Rattle.walk_engine.specs.declared.walks.Step.{Step}
use Rattle.walk_engine.specs.declared.walks.StepReason.{StepReason}
use Rattle.walk_engine.specs.declared.walks.StepReason.TheVariants as number
use Rattle.walk_engine.specs.Explanations.{IsExplanation, nodes_of}
use Rattle.walk_engine.specs.Walks.{Content, Least, is_in}
use Rattle.feature_core.specs.Built.{Built}
use Rattle.feature_core.specs.Candidates.{Edge, feature_to_base, named_feature, dep_colon, slash_full, slash_optional, slash_weak, section, IsEdge}
use Rattle.feature_links.specs.Facts.{EdgeFacts, link_at}
use Rattle.feature_core.specs.Edges.{EdgeSays, facts_of}
use Rattle.feature_links.specs.Links.{LinkFacts}
use Rattle.feature_core.specs.Nodes.{nodes}
use Rattle.feature_core.specs.Offers.{content_of}
use Rattle.feature_core.specs.Ways.{way}
use Rattle.feature_graph.specs.Explained.{AreTold}
use Rattle.feature_graph.specs.LinkValues as links
use Rattle.guppy_features.specs.Platforms.{platform_offers, is_for_platform}
use Rattle.feature_graph.specs.Told.{ReasonName, edge, link, ends_told, offer_told, reason_told, step_told}
use Rattle.feature_graph.specs.Values.{Graph, Query}
use Rattle.feature_graph.specs.Visits.{offered, query_content}
use Rattle.guppy_tool.specs.Answers.{TellsPlatform}
use Rattle.guppy_tool.proofs.OneDigraph.{map_alike}

-- links as nested pairs, whose equality is a proposition
abbrev Pairs : Type 0
Pairs = Option (LinkDeclarations × Option (Option (List Text)) × Option (Option (List Text)) × Option (Option (List Text)) × List ℕ)

abbrev status_pairs : Status → Option (Option (List Text))
status_pairs never_status = None
status_pairs always_status = Some None
status_pairs (spec_status specs) = Some (Some specs)

abbrev status_back : Option (Option (List Text)) → Status
status_back None = never_status
status_back (Some None) = always_status
status_back (Some (Some specs)) = spec_status specs

status_same : (s : Status) → status_back (status_pairs s) ≡ s
status_same never_status = refl
status_same always_status = refl
status_same (spec_status specs) = refl

abbrev link_of_parts : LinkDeclarations → Status → Status → Status → List ℕ → LinkFacts
link_of_parts declarations normal build dev package_links = record { declarations = declarations; normal = normal; build = build; dev = dev; package_links = package_links }

abbrev pairs_of : Option LinkFacts → Pairs
pairs_of None = None
pairs_of (Some l) = Some (l.declarations, status_pairs l.normal, status_pairs l.build, status_pairs l.dev, l.package_links)

abbrev link_back : Pairs → Option LinkFacts
link_back None = None
link_back (Some (declarations, normal, build, dev, package_links)) = Some (link_of_parts declarations (status_back normal) (status_back build) (status_back dev) package_links)

link_same : (l : Option LinkFacts) → link_back (pairs_of l) ≡ l
link_same None = refl
link_same (Some l) =
    ap (λ s. Some (link_of_parts l.declarations s (status_back (status_pairs l.build)) (status_back (status_pairs l.dev)) l.package_links)) (status_same l.normal)
    ∙ ap (λ s. Some (link_of_parts l.declarations l.normal s (status_back (status_pairs l.dev)) l.package_links)) (status_same l.build)
    ∙ ap (λ s. Some (link_of_parts l.declarations l.normal l.build s l.package_links)) (status_same l.dev)

-- the link of an edge is independent of where the weak links lie
links_alike : (t : Tables) (v w : List ℕ) (e : Edge) (h : Half) → link_at (facts_of t v e) h ≡ link_at (facts_of t w e) h
links_alike t v w feature_to_base h = refl
links_alike t v w named_feature h = refl
links_alike t v w (dep_colon l) h = refl
links_alike t v w (slash_full l) h = refl
links_alike t v w (slash_optional l) h = refl
links_alike t v w (slash_weak k l) half.Full = refl
links_alike t v w (slash_weak k l) half.Required = refl
links_alike t v w (slash_weak k l) half.Optional = refl
links_alike t v w (section l) h = refl

-- two edges of one pair of nodes have the same link if each has the facts of the pair's edge in the tables
link_alike : (t : Tables) (v w : List ℕ) (x y : ℕ × ℕ × EdgeFacts) (h : Half) → EdgeSays t v x.0 x.1 x.2 → ((e : Edge) → IsEdge t y.0 y.1 e → y.2 ≡ facts_of t w e) → x.0 ≡ y.0 → x.1 ≡ y.1 → link_at x.2 h ≡ link_at y.2 h
link_alike t v w x y h says same from to =
    let one : IsProp (pairs_of (link_at x.2 h) ≡ pairs_of (link_at y.2 h)) = hlevel props in
    let pairs : pairs_of (link_at x.2 h) ≡ pairs_of (link_at y.2 h) = ∥∥₁_elim says one (λ s.
    let edge : IsEdge t y.0 y.1 s.0 = subst (λ z. IsEdge t z y.1 s.0) from (subst (λ z. IsEdge t x.0 z s.0) to s.1) in
    ap pairs_of (ap (λ f. link_at f h) s.2 ∙ links_alike t v w s.0 h ∙ sym (ap (λ f. link_at f h) (same s.0 edge)))) in
    sym (link_same (link_at x.2 h)) ∙ ap link_back pairs ∙ link_same (link_at y.2 h)

-- the parts of an edge that name a step or an offer: its two nodes, and a link of it
abbrev seen : Half → ℕ × ℕ × EdgeFacts → ℕ × ℕ × Option LinkFacts
seen h x = (x.0, x.1, link_at x.2 h)

abbrev of_three : ℕ → ℕ → Option LinkFacts → ℕ × ℕ × Option LinkFacts
of_three from to l = (from, to, l)

seen_alike : (h : Half) (x y : ℕ × ℕ × EdgeFacts) → x.0 ≡ y.0 → x.1 ≡ y.1 → link_at x.2 h ≡ link_at y.2 h → seen h x ≡ seen h y
seen_alike h x y from to l =
    ap (λ z. of_three z x.1 (link_at x.2 h)) from ∙ ap (λ z. of_three y.0 z (link_at x.2 h)) to ∙ ap (of_three y.0 y.1) l

at_mapped : {X Y Z : Type 0} (g : X → Y) (f : Y → Z) (xs : List X) (k : ℕ) (z : Z) → option_map_or (λ x. f (g x)) (slice_get xs k) z ≡ option_map_or f (slice_get (map g xs) k) z
at_mapped g f [] k z = refl
at_mapped g f (x ∷ xs) zero z = refl
at_mapped g f (x ∷ xs) (suc k) z = at_mapped g f xs k z

map_same : {X Y : Type 0} (f g : X → Y) (xs : List X) → ((x : X) → f x ≡ g x) → map f xs ≡ map g xs
map_same f g [] same = refl
map_same f g (x ∷ xs) same = ap (λ z. z ∷ map f xs) (same x) ∙ ap (λ z. g x ∷ z) (map_same f g xs same)

-- two builds of `t` whose edges have the facts of the tables, for the same pairs in the same order
module _ (t : Tables) (a b : Built)
    (says : (k : ℕ) (x : ℕ × ℕ × EdgeFacts) → slice_get a.edges k ≡ Some x → EdgeSays t (map (λ z. z.0) a.weak) x.0 x.1 x.2)
    (same : (k : ℕ) (x : ℕ × ℕ × EdgeFacts) (e : Edge) → slice_get b.edges k ≡ Some x → IsEdge t x.0 x.1 e → x.2 ≡ facts_of t (map (λ z. z.0) b.weak) e)
    (content : content_of Forward a ≡ content_of Forward b) where
  abbrev one : Graph
  one = record { tables = t; built = a }

  abbrev other : Graph
  other = record { tables = t; built = b }

  all_seen : (h : Half) → map (seen h) a.edges ≡ map (seen h) b.edges
  all_seen h = map_alike (way Forward a.weak) (way Forward b.weak) (seen h) a.edges b.edges (ap (λ c. c.ways) content) (λ k x y at there e.
      let from : x.0 ≡ y.0 = ap (λ z. z.start) e in
      let to : x.1 ≡ y.1 = ap (λ z. z.far) e in
      seen_alike h x y from to (link_alike t (map (λ z. z.0) a.weak) (map (λ z. z.0) b.weak) x y h (says k x at) (λ s. same k y s there) from to))

  told_alike : {Z : Type 0} (h : Half) (f : ℕ × ℕ × Option LinkFacts → Z) (k : ℕ) (z : Z) → option_map_or (λ x. f (seen h x)) (slice_get a.edges k) z ≡ option_map_or (λ x. f (seen h x)) (slice_get b.edges k) z
  told_alike h f k z = at_mapped (seen h) f a.edges k z ∙ ap (λ xs. option_map_or f (slice_get xs k) z) (all_seen h) ∙ sym (at_mapped (seen h) f b.edges k z)

  facts_alike : (e : ℕ) (h : Half) → links.facts_of (offered one e h) ≡ links.facts_of (offered other e h)
  facts_alike e h = told_alike h (λ x. x.2) e None

  from_alike : (e : ℕ) (h : Half) → links.from_name (offered one e h) ≡ links.from_name (offered other e h)
  from_alike e h = told_alike h (λ x. slice_get (nodes t) x.0) e None

  to_alike : (e : ℕ) (h : Half) → links.to_name (offered one e h) ≡ links.to_name (offered other e h)
  to_alike e h = told_alike h (λ x. slice_get (nodes t) x.1) e None

  offers_alike : (kinds : List DependencyKind) (specs : List Text) (e : ℕ) (h : Half) → platform_offers kinds specs one e h ≡ platform_offers kinds specs other e h
  offers_alike kinds specs e h = ap (λ l. option_map_or (is_for_platform kinds specs) l false) (facts_alike e h)

  ends_alike : (e : ℕ) → ends_told one e ≡ ends_told other e
  ends_alike e =
      ap (λ z. option_map_or (λ from. option_map (λ to. (from, to)) (links.to_name (offered one e half.Full))) z None) (from_alike e half.Full)
      ∙ ap (λ z. option_map_or (λ from. option_map (λ to. (from, to)) z) (links.from_name (offered other e half.Full)) None) (to_alike e half.Full)

  offer_alike : (o : ℕ × Half) → offer_told one o ≡ offer_told other o
  offer_alike o =
      ap (λ z. option_map_or (λ ends. option_map (λ facts. (ends.0, ends.1, facts.declarations)) (links.facts_of (offered one o.0 o.1))) z None) (ends_alike o.0)
      ∙ ap (λ z. option_map_or (λ ends. option_map (λ facts. (ends.0, ends.1, facts.declarations)) z) (ends_told other o.0) None) (facts_alike o.0 o.1)

  reason_alike : (r : StepReason) → reason_told one r ≡ reason_told other r
  reason_alike number.Initial = refl
  reason_alike (number.Edge e) = ap (option_map (λ ends. edge ends.0 ends.1)) (ends_alike e)
  reason_alike (number.Offer e h) = ap (option_map (λ o. link o.0 o.1 o.2)) (offer_alike (e, h))

  step_alike : (s : Step) → step_told one s ≡ step_told other s
  step_alike s = ap (λ r. option_map_or (λ name. option_map (λ why. (name, why)) r) (slice_get (nodes t) s.node) None) (reason_alike s.reason)

  -- steps that explain one build explain the other
  pub tells_too : (kinds : List DependencyKind) (specs : List Text) (initials : List Bool) (told : List ((Text × LabelName) × ReasonName)) → TellsPlatform one kinds specs initials told → TellsPlatform other kinds specs initials told
  tells_too kinds specs initials told x =
      let offers : ◌≡◌ {A = ℕ → Half → Bool} (platform_offers kinds specs one) (platform_offers kinds specs other) = λ i e h. offers_alike kinds specs e h i in
      record {
        steps = x.steps;
        are_steps = sym (map_same (step_told one) (step_told other) x.steps step_alike) ∙ x.are_steps;
        explanation = subst (λ A. IsExplanation (content_of Forward b) (has initials) A x.steps) offers (subst (λ (c : Content). IsExplanation c (has initials) (platform_offers kinds specs one) x.steps) content x.explanation);
        least = λ n. subst (λ A. IsTrue (is_in (nodes_of x.steps) n) ↔ Least (content_of Forward b) (has initials) A n) offers (subst (λ (c : Content). IsTrue (is_in (nodes_of x.steps) n) ↔ Least c (has initials) (platform_offers kinds specs one) n) content (x.least n));
      }

-- a property of a direction, a graph, kinds and specs holds for equal ones
at_equal : (P : DependencyDirection → Graph → List DependencyKind → List Text → Type 0) (d e : DependencyDirection) (g h : Graph) (kinds others : List DependencyKind) (specs texts : List Text)
    → d ≡ e → g ≡ h → kinds ≡ others → specs ≡ texts → P d g kinds specs → P e h others texts
at_equal P d e g h kinds others specs texts directions graphs same_kinds same_specs x =
    subst (λ z. P e h others z) same_specs (subst (λ z. P e h z specs) same_kinds (subst (λ z. P e z kinds specs) graphs (subst (λ z. P z g kinds specs) directions x)))

-- the steps that a query's `resolve` for a platform explains
pub tells_query : (g : Graph) (query : Query) (found : Graph) (kinds others : List DependencyKind) (specs texts : List Text) (members : List Bool) (steps : List Step) (told : List ((Text × LabelName) × ReasonName))
    → query.direction ≡ Forward → query.graph ≡ g → others ≡ kinds → texts ≡ specs → found ≡ query.graph → AreTold found steps told
    → IsExplanation (query_content query) (has query.initials) (platform_offers others texts query.graph) steps
    → ((n : ℕ) → IsTrue (has members n) ↔ Least (query_content query) (has query.initials) (platform_offers others texts query.graph) n)
    → ((n : ℕ) → has members n ≡ is_in (nodes_of steps) n)
    → TellsPlatform g kinds specs query.initials told
tells_query g query found kinds others specs texts members steps told direction graph same_kinds same_specs own are explanation least listed = record {
  steps = steps;
  are_steps = subst (λ z. AreTold z steps told) (own ∙ graph) are;
  explanation = at_equal (λ d h ks ss. IsExplanation (content_of d h.built) (has query.initials) (platform_offers ks ss h) steps) query.direction Forward query.graph g others kinds texts specs direction graph same_kinds same_specs explanation;
  least = λ n. at_equal (λ d h ks ss. IsTrue (is_in (nodes_of steps) n) ↔ Least (content_of d h.built) (has query.initials) (platform_offers ks ss h) n) query.direction Forward query.graph g others kinds texts specs direction graph same_kinds same_specs
      (subst (λ b. IsTrue b ↔ Least (query_content query) (has query.initials) (platform_offers others texts query.graph) n) (listed n) (least n));
}
