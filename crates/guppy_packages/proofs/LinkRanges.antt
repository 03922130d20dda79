-- The links that leave a package, by the first link of each package.
use Rattle.std.proofs.Common.{◌≡◌, ℕ, ◌+◌, ◌<◌, ◌≤◌, List, [], ◌∷◌, Bool, true, false, Some, inl, inr, length, get_or, max, refl, sym, subst, arith}
use Rattle.std.specs.Prelude.{nat_le, nat_lt, slice_get}
use Rattle.std.proofs.lemmas.Bool.{cases_lt, leb-false, ltb-false}
use Rattle.std.proofs.lemmas.List.{get_or_read}
use Rattle.std.proofs.lemmas.Option.{get_or_from_slice_get, slice_get-get_or, slice_get_within}
use borrow.Author.Tests.{leb-true, ltb-true}
use Rattle.guppy_packages.specs.Tables.{AreLinksFrom, AreTables, LinkTable, Tables}
use Rattle.guppy_packages.specs.inner.Begins.{AreAllBegun, AreBegun, IsBegin}

unless : (a b : ℕ) → (a < b → ⊥) → b ≤ a
unless a b h = go (nat_lt a b) refl
  where
    go : (t : Bool) → nat_lt a b ≡ t → b ≤ a
    go true e = absurd (h (ltb-true a b e))
    go false e = ltb-false a b e

unless_le : (a b : ℕ) → (b ≤ a → ⊥) → a < b
unless_le a b h = go (nat_le b a) refl
  where
    go : (t : Bool) → nat_le b a ≡ t → a < b
    go true e = absurd (h (leb-true b a e))
    go false e = leb-false b a e

there : (links : List LinkTable) (k : ℕ) → k < length links → (l : LinkTable) × (slice_get links k ≡ Some l)
there [] k h = absurd (omega arith)
there (x ∷ xs) k h = (get_or (x ∷ xs) k x, slice_get-get_or (x ∷ xs) k x h)

-- the links between two consecutive first links
pub links_between : (links : List LinkTable) (from first end : ℕ) → IsBegin links from first → IsBegin links (from + 1) end → AreLinksFrom links from first end
links_between links from first end low high = record {
  ascend = unless end first (λ h. crossed h (there links end (omega (arith, h, low.within))));
  within = high.within;
  exactly = λ k l got. (
    λ is. (unless k first (λ h. omega (arith, (low.before k l got).0 h, is)), (high.before k l got).1 (omega (arith, is))),
    λ both. let few = (high.before k l got).0 both.1 in
        let more = unless l.from from (λ h. omega (arith, (low.before k l got).1 h, both.0)) in
        omega (arith, few, more),
  );
}
  where
    crossed : end < first → (l : LinkTable) × (slice_get links end ≡ Some l) → ⊥
    crossed h t =
        let less = (low.before end t.0 t.1).0 h in
        let again = (high.before end t.0 t.1).1 (omega (arith, less)) in
        omega (arith, again)

-- the links of a package that has an entry in `begins`
pub links_begun : (links : List LinkTable) (packages : ℕ) (begins : List ℕ) → AreAllBegun packages links begins → (from first end : ℕ) → from < packages
    → first ≡ get_or begins from first → end ≡ get_or begins (from + 1) end → AreLinksFrom links from first end
links_begun links packages begins all from first end h is_first is_end =
    let lf : from < length begins = omega (arith, all.long, h) in
    let le : from + 1 < length begins = omega (arith, all.long, h) in
    links_between links from first end
    (subst (IsBegin links from) (sym (get_or_read begins from first lf is_first 0)) (all.begun from lf))
    (subst (IsBegin links (from + 1)) (sym (get_or_read begins (from + 1) end le is_end 0)) (all.begun (from + 1) le))

-- more entries, all with one place
pub begun_up : (links : List LinkTable) (begins more : List ℕ) (last place : ℕ) → AreBegun links begins → place ≤ length links
    → ((k : ℕ) (l : LinkTable) → slice_get links k ≡ Some l → k < place → l.from < length begins)
    → ((k : ℕ) (l : LinkTable) → slice_get links k ≡ Some l → place ≤ k → last ≤ l.from)
    → length more ≡ max (length begins) (last + 1)
    → ((p : ℕ) → p < length begins → get_or more p 0 ≡ get_or begins p 0)
    → ((p : ℕ) → length begins ≤ p → p < length more → get_or more p 0 ≡ place) → AreBegun links more
begun_up links begins more last place begun h before behind long kept added p lp =
    elim (cases_lt p (length begins)) [
      | inl l ↦ rw (kept p l) (begun p l)
      | inr ge ↦
          let few : p ≤ last = omega (arith, lp, long, ge) in
          rw (added p ge lp)
          (record {
            within = h;
            before = λ k l got. (
              λ less. let one = before k l got less in omega (arith, one, ge),
              λ less. unless_le k place (λ le. let one = behind k l got le in omega (arith, one, less, few)),
            );
          })
    ]

-- the links after one leave its package or later ones
pub leaves_behind : (t : Tables) → AreTables t → (place : ℕ) (link : LinkTable) → slice_get t.links place ≡ Some link
    → (k : ℕ) (l : LinkTable) → slice_get t.links k ≡ Some l → place ≤ k → link.from ≤ l.from
leaves_behind t are place link at k l got le =
    let up = are.order place k l le (slice_get_within t.links k l got) in
    rw (get_or_from_slice_get t.links place link l at, get_or_from_slice_get t.links k l l got) at up
