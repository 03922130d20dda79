-- The value built of a key's candidate, by the key's kind.
use Rattle.std.proofs.Common.{◌≡◌, ℕ, List, refl, ap, ◌∙◌, subst, arith}
use Rattle.guppy_packages.specs.Tables.{Tables}
use Rattle.feature_links.specs.Links.{LinkFacts}
use Rattle.feature_edges.specs.declared.candidate.CandidateKind.TheVariants.{FeatureToBase, NamedFeature, DepColon, SlashFull, SlashOptional, SlashWeak, Section}
use Rattle.feature_edges.specs.Candidates.{Edge, feature_to_base, named_feature, dep_colon, slash_full, slash_optional, slash_weak, section, Candidate}
use Rattle.feature_links.specs.Facts.{EdgeFacts, base_edge, feature_edge}
use Rattle.feature_edges.specs.Edges.{facts_of}
use Rattle.feature_edges.specs.inner.Keys.{rank, kind_of}
use Rattle.feature_edges.specs.inner.Made.{IsValueOf}
use Rattle.feature_edges.specs.inner.Parts.{IsOfTables}
use Rattle.feature_edges.specs.declared.candidate.Key.{Key}
use Rattle.feature_edges.proofs.KeySays.{Says, SaysColon, SaysOver, SaysBeside, SaysSection}
use Rattle.feature_edges.proofs.PartLemmas.{NamesDiffer, stands_for}

-- the edge that the key determines, over a link that satisfies `Tells`
pub record IsTold (t : Tables) (x : Key) (make : LinkFacts → Edge) (Tells : LinkFacts → Type 0) : Type 0 where
  pub link : LinkFacts
  pub candidate : Candidate t x.from x.to (make link)
  pub kind : x.kind ≡ kind_of (make link)
  pub tells : Tells link

module _ (t : Tables) (differ : NamesDiffer t) (weak : List ℕ) (x : Key) (h : IsOfTables t x) where
  at_base : (e : Edge) → Candidate t x.from x.to e → x.kind ≡ kind_of e → Says t x e → x.kind ≡ FeatureToBase → IsValueOf t weak x base_edge
  at_base feature_to_base c r s q = record { edge = feature_to_base; candidate = c; kind = r; is = refl }
  at_base _ c r s q = absurd (omega (arith, ap rank q, ap rank r))

  pub base_value : x.kind ≡ FeatureToBase → IsValueOf t weak x base_edge
  base_value q = let s = stands_for t differ x h in at_base s.edge s.candidate s.kind s.says q

  at_feature : (e : Edge) → Candidate t x.from x.to e → x.kind ≡ kind_of e → Says t x e → x.kind ≡ NamedFeature → IsValueOf t weak x feature_edge
  at_feature named_feature c r s q = record { edge = named_feature; candidate = c; kind = r; is = refl }
  at_feature _ c r s q = absurd (omega (arith, ap rank q, ap rank r))

  pub feature_value : x.kind ≡ NamedFeature → IsValueOf t weak x feature_edge
  feature_value q = let s = stands_for t differ x h in at_feature s.edge s.candidate s.kind s.says q

  at_colon : (e : Edge) → Candidate t x.from x.to e → x.kind ≡ kind_of e → Says t x e → x.kind ≡ DepColon → IsTold t x dep_colon (SaysColon t x)
  at_colon (dep_colon l) c r s q = record { link = l; candidate = c; kind = r; tells = s }
  at_colon _ c r s q = absurd (omega (arith, ap rank q, ap rank r))

  pub told_colon : x.kind ≡ DepColon → IsTold t x dep_colon (SaysColon t x)
  told_colon q = let s = stands_for t differ x h in at_colon s.edge s.candidate s.kind s.says q

  at_full : (e : Edge) → Candidate t x.from x.to e → x.kind ≡ kind_of e → Says t x e → x.kind ≡ SlashFull → IsTold t x slash_full (SaysOver t x)
  at_full (slash_full l) c r s q = record { link = l; candidate = c; kind = r; tells = s }
  at_full _ c r s q = absurd (omega (arith, ap rank q, ap rank r))

  pub told_full : x.kind ≡ SlashFull → IsTold t x slash_full (SaysOver t x)
  told_full q = let s = stands_for t differ x h in at_full s.edge s.candidate s.kind s.says q

  at_beside : (e : Edge) → Candidate t x.from x.to e → x.kind ≡ kind_of e → Says t x e → x.kind ≡ SlashOptional → IsTold t x slash_optional (SaysBeside t x)
  at_beside (slash_optional l) c r s q = record { link = l; candidate = c; kind = r; tells = s }
  at_beside _ c r s q = absurd (omega (arith, ap rank q, ap rank r))

  pub told_beside : x.kind ≡ SlashOptional → IsTold t x slash_optional (SaysBeside t x)
  told_beside q = let s = stands_for t differ x h in at_beside s.edge s.candidate s.kind s.says q

  at_weak : (e : Edge) → Candidate t x.from x.to e → x.kind ≡ kind_of e → Says t x e → x.kind ≡ SlashWeak → IsTold t x (slash_weak x.source) (SaysOver t x)
  at_weak (slash_weak k l) c r s q = record { link = l; candidate = subst (λ z. Candidate t x.from x.to (slash_weak z l)) s.number c; kind = r; tells = s.over }
  at_weak _ c r s q = absurd (omega (arith, ap rank q, ap rank r))

  pub told_weak : x.kind ≡ SlashWeak → IsTold t x (slash_weak x.source) (SaysOver t x)
  told_weak q = let s = stands_for t differ x h in at_weak s.edge s.candidate s.kind s.says q

  at_section : (e : Edge) → Candidate t x.from x.to e → x.kind ≡ kind_of e → Says t x e → x.kind ≡ Section → IsTold t x section (SaysSection t x)
  at_section (section l) c r s q = record { link = l; candidate = c; kind = r; tells = s }
  at_section _ c r s q = absurd (omega (arith, ap rank q, ap rank r))

  pub told_section : x.kind ≡ Section → IsTold t x section (SaysSection t x)
  told_section q = let s = stands_for t differ x h in at_section s.edge s.candidate s.kind s.says q

-- a value over the link that the key determines
pub value_over : (t : Tables) (weak : List ℕ) (x : Key) (make : LinkFacts → Edge) (built : LinkFacts → EdgeFacts) (Tells : LinkFacts → Type 0)
    → ((l : LinkFacts) → built l ≡ facts_of t weak (make l)) → (o : IsTold t x make Tells) (l : LinkFacts) → l ≡ o.link → IsValueOf t weak x (built l)
value_over t weak x make built Tells same o l is = record { edge = make o.link; candidate = o.candidate; kind = o.kind; is = ap built is ∙ same o.link }
