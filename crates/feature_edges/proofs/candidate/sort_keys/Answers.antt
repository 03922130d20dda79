use Rattle.std.proofs.Common.{arith, ℕ, ◌<◌, ◌≤◌, ◌⊎◌, inl, inr, ⊎_elim, ◌≡◌, Bool, true, false, List, IsSorted, AllPairs, refl, cond, ap, sym, ◌∙◌}
use Rattle.std.specs.Ordering.{is_lt, nat_cmp, ordering_then}
use Rattle.std.specs.Prelude.{nat_lt, ◌==◌, slice_index_or}
use Rattle.std.specs.declared.cmp.Ordering.{Ordering}
use Rattle.std.specs.declared.cmp.Ordering.TheVariants.{Less, Equal, Greater}
use Rattle.std.proofs.lemmas.Bool.Decides.{nat_tests}
use Rattle.std.proofs.lemmas.List.Sorted.{sorted_far, ranks_by}
use Rattle.feature_edges.specs.declared.candidate.CandidateKind.{CandidateKind}
use Rattle.feature_edges.specs.declared.candidate.CandidateKind.TheVariants.{FeatureToBase, NamedFeature, DepColon, SlashFull, SlashOptional, SlashWeak, Section}
use Rattle.feature_edges.specs.declared.candidate.Key.{Key}
use Rattle.feature_edges.specs.contracts.candidate.KeyOrd.TheImpl.{cmp-value}
use Rattle.feature_edges.specs.contracts.candidate.KeyOrd.TheImpl.Laws.{total-law}
use Rattle.feature_edges.specs.contracts.candidate.CandidateKindOrd.TheImpl as kind_order
use Rattle.feature_edges.specs.inner.Keys.{rank, IsNoLater}
use Rattle.feature_edges.proofs.KindLemmas.{kind_at}
use Rattle.feature_edges.proofs.candidate.sort_keys.Goals as goal

lex : (l e : Bool) (o : Ordering) → is_lt (ordering_then (cond l Less (cond e Equal Greater)) o) ≡ false → (l ≡ false) × ((e ≡ false) ⊎ (is_lt o ≡ false))
lex true e o h = cc
lex false true o h = (refl, inr h)
lex false false o h = (refl, inl refl)

up_to : (x y : ℕ) → nat_lt x y ≡ false → y ≤ x
up_to x y h = grind (arith, nat_tests)

apart : (x y : ℕ) → y ≤ x → (x == y) ≡ false → y < x
apart x y h e = grind (arith, nat_tests)

below_or : (x y : ℕ) → y ≤ x → (y < x) ⊎ (y ≡ x)
below_or x y h = grind arith

-- x isn't less than y, in the first field or by the others
ordered : (x y : ℕ) (o : Ordering) → is_lt (ordering_then (nat_cmp x y) o) ≡ false → (y < x) ⊎ ((y ≡ x) × (is_lt o ≡ false))
ordered x y o h =
    let k : (nat_lt x y ≡ false) × (((x == y) ≡ false) ⊎ (is_lt o ≡ false)) = lex (nat_lt x y) (x == y) o h in
    let up : y ≤ x = up_to x y k.0 in
    ⊎_elim (λ e. inl (apart x y up e)) (λ e. ⊎_elim (λ z. inl z) (λ z. inr (z, e)) (below_or x y up)) k.1

abbrev kind_cmp : CandidateKind → CandidateKind → Ordering
kind_cmp = (kind_order.ghosts).cmp

-- a kind comes before another by their ranks
by_rank : (a b : CandidateKind) → kind_cmp a b ≡ nat_cmp (rank a) (rank b)
by_rank FeatureToBase FeatureToBase = refl
by_rank NamedFeature NamedFeature = refl
by_rank DepColon DepColon = refl
by_rank SlashFull SlashFull = refl
by_rank SlashOptional SlashOptional = refl
by_rank SlashWeak SlashWeak = refl
by_rank Section Section = refl
by_rank _ _ = refl

ordered_kind : (x y : CandidateKind) (o : Ordering) → is_lt (ordering_then (kind_cmp x y) o) ≡ false → (rank y < rank x) ⊎ ((y ≡ x) × (is_lt o ≡ false))
ordered_kind x y o h =
    ⊎_elim (λ l. inl l) (λ e. inr (kind_at y x e.0, e.1)) (ordered (rank x) (rank y) o (ap (λ z. is_lt (ordering_then z o)) (sym (by_rank x y)) ∙ h))

not_less : (l e : Bool) → is_lt (cond l Less (cond e Equal Greater)) ≡ false → l ≡ false
not_less true e h = cc
not_less false e h = refl

no_less : (x y : ℕ) → is_lt (nat_cmp x y) ≡ false → y ≤ x
no_less x y h = up_to x y (not_less (nat_lt x y) (x == y) h)

up_from : (a b : Key) → is_lt ((cmp-value).it b a) ≡ false → IsNoLater a b
up_from a b h =
    ⊎_elim (λ z. inl (inl z))
    (λ z. ⊎_elim (λ y. inl (inr (z.0, y)))
    (λ y. ⊎_elim (λ r. inr ((z.0, y.0), inl r))
    (λ r. ⊎_elim (λ s. inr ((z.0, y.0), inr (r.0, inl s)))
    (λ s. inr ((z.0, y.0), inr (r.0, inr (s.0, no_less b.place a.place s.1))))
    (ordered b.source a.source (nat_cmp b.place a.place) r.1))
    (ordered_kind b.kind a.kind (ordering_then (nat_cmp b.source a.source) (nat_cmp b.place a.place)) y.1))
    (ordered b.to a.to (ordering_then (kind_cmp b.kind a.kind) (ordering_then (nat_cmp b.source a.source) (nat_cmp b.place a.place))) z.1))
    (ordered b.from a.from (ordering_then (nat_cmp b.to a.to) (ordering_then (kind_cmp b.kind a.kind) (ordering_then (nat_cmp b.source a.source) (nat_cmp b.place a.place)))) h)

all_up : (keys : List Key) → IsSorted (cmp-value).it keys → AllPairs IsNoLater keys
all_up keys s i j d l m = up_from (slice_index_or keys i d) (slice_index_or keys j d) (sorted_far (λ x y. is_lt ((cmp-value).it x y)) (ranks_by total-law (λ x. x)) keys s i j d (omega arith) m)

pub returns-clause-sorted : goal.returns-clause-sorted
returns-clause-sorted c = all_up _ c.sort_unstable.ensures.sorted
