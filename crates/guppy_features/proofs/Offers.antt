-- The offers of the texts that hold are those of the platform.
use Rattle.std.proofs.Common.{◌≡◌, ℕ, List, Bool, false, Option, None, Some, refl, ap, sym, ◌∙◌, subst}
use Rattle.std.specs.Prelude.{◌↔◌, Contains, IsTrue}
use Rattle.digraphs.specs.Bits.{has}
use Rattle.std.specs.List.{list_any}
use Rattle.std.specs.Option.{option_map_or}
use Rattle.std.specs.Str.{bytes_eq}
use Rattle.guppy_packages.specs.Platform.{Status, never_status, always_status, spec_status}
use Rattle.guppy_packages.specs.Rows.{Text}
use Rattle.guppy_packages.specs.declared.row.DependencyKind.{DependencyKind}
use Rattle.walk_engine.specs.Explanations.{IsExplanation}
use Rattle.walk_engine.specs.Walks.{Least}
use Rattle.feature_links.specs.Facts.{EdgeFacts, link_at}
use Rattle.feature_links.specs.Links.{LinkFacts}
use Rattle.feature_core.specs.Built.{IsBuilt}
use Rattle.feature_graph.specs.LinkValues.{Link, edge_of, facts_of, status_for}
use Rattle.feature_graph.specs.Told.{Explanation}
use Rattle.feature_graph.specs.Values.{Graph, Query}
use Rattle.feature_graph.specs.Visits.{offered, query_content}
use Rattle.guppy_features.specs.Platforms.{holds_where, is_for_platform, is_platform_link, platform_offers}
use Rattle.platform_specs.specs.Expressions.{Target}
use Rattle.guppy_features.specs.graph_platforms.DeclaredSpecs.{declared_specs, spec_texts}
use Rattle.guppy_features.specs.graph_platforms.HeldSpecs.{AreHeld}
use Rattle.guppy_features.specs.graph_platforms.PlatformLinks.{HoldsFor, IsLinkFor, AreOffersFor, IsOnFor}
use Rattle.guppy_features.proofs.Held.{held_from, held_into}
use Rattle.guppy_features.proofs.LinkSpecs.{status_specs, built_declared}
use Rattle.guppy_features.proofs.Members.{any_member, member_any, text_any, any_text, firsts_any}

bound_is : {A B : Type 0} (f : A → Option B) (o : Option A) (b : B) → option_map_or f o None ≡ Some b → (a : A) × (o ≡ Some a) × (f a ≡ Some b)
bound_is f None b h = cc
bound_is f (Some a) b h = (a, refl, h)

tested : {A : Type 0} (test : A → Bool) (o : Option A) → IsTrue (option_map_or test o false) → (a : A) × (o ≡ Some a) × IsTrue (test a)
tested test None h = cc
tested test (Some a) h = (a, refl, h)

test_of : {A : Type 0} (test : A → Bool) (o : Option A) (a : A) → o ≡ Some a → IsTrue (test a) → IsTrue (option_map_or test o false)
test_of test o a e h = ap (λ z. option_map_or test z false) e ∙ h

module _ (target : Target) (texts held : List Text) (are : AreHeld target texts held) where
  holds_there : (status : Status) → IsTrue (holds_where held status) → HoldsFor target status
  holds_there never_status h = cc
  holds_there always_status h = tt
  holds_there (spec_status specs) h =
      let s = member_any (λ s. list_any (bytes_eq s) held) specs h in
      (s.element, s.member, (held_from target texts held are s.element (any_text held s.element s.passes)).1)

  holds_back : (status : Status) → ((text : Text) → Contains (status_specs status) text → Contains texts text) → HoldsFor target status → IsTrue (holds_where held status)
  holds_back never_status declared h = absurd h
  holds_back always_status declared h = refl
  holds_back (spec_status specs) declared (text, i, h) =
      any_member (λ s. list_any (bytes_eq s) held) specs text i (text_any held text (held_into target texts held are text (declared text i) h))

-- the links of built edges have declared specs alone
pub offers_for : (kinds : List DependencyKind) (target : Target) (g : Graph) (held : List Text) → IsBuilt g.tables g.built → AreHeld target (spec_texts g.tables) held
    → AreOffersFor kinds target g (platform_offers kinds held g)
offers_for kinds target g held built are e h = (there, back)
  where
    link : Link
    link = offered g e h

    there : IsTrue (is_platform_link kinds held link) → IsLinkFor kinds target link
    there i =
        let facts = tested (is_for_platform kinds held) (facts_of link) i in
        let kind = member_any (λ kind. holds_where held (status_for kind facts.0)) kinds facts.2 in
        (kind.element, facts.0, kind.member, facts.1, holds_there target (spec_texts g.tables) held are (status_for kind.element facts.0) kind.passes)

    declared : (facts : LinkFacts) → facts_of link ≡ Some facts → (kind : DependencyKind) (text : Text) → Contains (status_specs (status_for kind facts)) text → Contains (spec_texts g.tables) text
    declared facts is kind text i =
        let edge = bound_is (λ (e : ℕ × ℕ × EdgeFacts). link_at e.2 h) (edge_of link) facts is in
        any_text (spec_texts g.tables) text (firsts_any (declared_specs g.tables) text ∙ built_declared g.tables g.built built e edge.0 edge.1 h facts edge.2 kind text i)

    back : IsLinkFor kinds target link → IsTrue (is_platform_link kinds held link)
    back (kind, facts, member, is, holds) =
        test_of (is_for_platform kinds held) (facts_of link) facts is
        (any_member (λ kind. holds_where held (status_for kind facts)) kinds kind member
        (holds_back target (spec_texts g.tables) held are (status_for kind facts) (declared facts is kind) holds))

-- what the visitor of the texts that hold resolves
pub on_for : (kinds own : List DependencyKind) (target : Target) (held texts : List Text) (q : Query) (x : Explanation) → own ≡ kinds → texts ≡ held
    → IsBuilt q.graph.tables q.graph.built → AreHeld target (spec_texts q.graph.tables) held
    → ((n : ℕ) → IsTrue (has x.members n) ↔ Least (query_content q) (has q.initials) (platform_offers own texts q.graph) n)
    → IsExplanation (query_content q) (has q.initials) (platform_offers own texts q.graph) x.steps → IsOnFor kinds target q x
on_for kinds own target held texts q x same_kinds same_texts built are least explanation =
    let by_held : AreOffersFor kinds target q.graph (platform_offers kinds held q.graph) = offers_for kinds target q.graph held built are in
    let by_texts : AreOffersFor kinds target q.graph (platform_offers kinds texts q.graph) =
    subst (λ z. AreOffersFor kinds target q.graph (platform_offers kinds z q.graph)) (sym same_texts) by_held in
    record {
      accepted = platform_offers own texts q.graph;
      offers = subst (λ z. AreOffersFor kinds target q.graph (platform_offers z texts q.graph)) (sym same_kinds) by_texts;
      least = least;
      explanation = explanation;
    }
