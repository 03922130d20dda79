-- The ranks of kinds of candidates.
use Rattle.std.proofs.Common.{◌≡◌, ◌≤◌, refl, sym, ap, ◌∙◌, arith}
use Rattle.feature_edges.specs.declared.candidate.CandidateKind.{CandidateKind}
use Rattle.feature_edges.specs.declared.candidate.CandidateKind.TheVariants.{FeatureToBase, NamedFeature, DepColon, SlashFull, SlashOptional, SlashWeak, Section}
use Rattle.feature_edges.specs.Candidates.{Edge, feature_to_base, named_feature, dep_colon, slash_full, slash_optional, slash_weak, section, rank_of}
use Rattle.feature_edges.specs.inner.Keys.{rank, kind_of}

-- the rank of an edge is that of its kind
pub rank_kind : (e : Edge) → rank (kind_of e) ≡ rank_of e
rank_kind feature_to_base = refl
rank_kind named_feature = refl
rank_kind (dep_colon l) = refl
rank_kind (slash_full l) = refl
rank_kind (slash_optional l) = refl
rank_kind (slash_weak k l) = refl
rank_kind (section l) = refl

-- edges of one kind have one rank
pub one_rank : (e other : Edge) → kind_of e ≡ kind_of other → rank_of e ≡ rank_of other
one_rank e other h = sym (rank_kind e) ∙ ap rank h ∙ rank_kind other

-- no kind has a higher rank than a section's
pub last_kind : (k : CandidateKind) → rank Section ≤ rank k → k ≡ Section
last_kind Section h = refl
last_kind _ h = absurd (omega (arith, h))

-- a kind has its own rank
pub kind_at : (a b : CandidateKind) → rank a ≡ rank b → a ≡ b
kind_at FeatureToBase FeatureToBase h = refl
kind_at NamedFeature NamedFeature h = refl
kind_at DepColon DepColon h = refl
kind_at SlashFull SlashFull h = refl
kind_at SlashOptional SlashOptional h = refl
kind_at SlashWeak SlashWeak h = refl
kind_at Section Section h = refl
kind_at _ _ h = absurd (omega (arith, h))
