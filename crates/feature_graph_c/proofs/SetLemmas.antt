-- Sets of the nodes in a list.
use Rattle.std.proofs.Common.{◌≡◌, ℕ, ◌+◌, ◌<◌, Bool, true, false, List, [], ◌∷◌, zero, suc, drop, replicate, arith, refl, ap, sym, subst, ◌∙◌}
use Rattle.std.specs.Prelude.{IsTrue, nat_lt, ◌==◌, ◌&&◌, ◌||◌}
use Rattle.std.proofs.lemmas.Bool.Decides.{nat_tests}
use Rattle.digraphs.specs.Bits.{has}
use Rattle.walk_engine.specs.Walks.{is_in}
use Rattle.feature_graph_c.specs.requests.Requests.{are_below}

pub none_in : (count n : ℕ) → has (replicate count false) n ≡ false
none_in zero n = refl
none_in (suc count) zero = refl
none_in (suc count) (suc n) = none_in count n

or_assoc : (a b c : Bool) → ((a || b) || c) ≡ (a || (b || c))
or_assoc true b c = refl
or_assoc false b c = refl

-- Nothing is inserted.
pub set_begins : (count : ℕ) (nodes : List ℕ) (set : List Bool) → set ≡ replicate count false → (n : ℕ) → (has set n || is_in nodes n) ≡ is_in nodes n
set_begins count nodes set e n =
    ap (λ (s : List Bool). has s n || is_in nodes n) e ∙ ap (λ b. b || is_in nodes n) (none_in count n)

-- A node is inserted.
pub set_more : (nodes : List ℕ) (i x : ℕ) (old new : List Bool) → drop i nodes ≡ x ∷ drop (i + 1) nodes → ((n : ℕ) → has new n ≡ (has old n || (x == n)))
    → ((n : ℕ) → (has old n || is_in (drop i nodes) n) ≡ is_in nodes n) → (n : ℕ) → (has new n || is_in (drop (i + 1) nodes) n) ≡ is_in nodes n
set_more nodes i x old new at inserted so_far n =
    ap (λ b. b || is_in (drop (i + 1) nodes) n) (inserted n) ∙ or_assoc (has old n) (x == n) (is_in (drop (i + 1) nodes) n) ∙ ap (λ z. has old n || is_in z n) (sym at) ∙ so_far n

or_false : (a : Bool) → (a || false) ≡ a
or_false true = refl
or_false false = refl

-- Each node is inserted.
pub set_ends : (nodes : List ℕ) (i : ℕ) (set : List Bool) → drop i nodes ≡ [] → ((n : ℕ) → (has set n || is_in (drop i nodes) n) ≡ is_in nodes n) → (n : ℕ) → has set n ≡ is_in nodes n
set_ends nodes i set at so_far n = sym (or_false (has set n)) ∙ ap (λ z. has set n || is_in z n) (sym at) ∙ so_far n

below_first : (a b : Bool) → IsTrue (a && b) → IsTrue a × IsTrue b
below_first true b h = (refl, h)
below_first false b h = absurd (cc)

less : (m n : ℕ) → IsTrue (nat_lt m n) → m < n
less m n h = grind (arith, nat_tests)

-- The first node of the rest is below the count, and so are the others.
pub below_at : (count : ℕ) (nodes : List ℕ) (i x : ℕ) → drop i nodes ≡ x ∷ drop (i + 1) nodes → IsTrue (are_below count (drop i nodes)) → (x < count) × IsTrue (are_below count (drop (i + 1) nodes))
below_at count nodes i x at h =
    let both = below_first (nat_lt x count) (are_below count (drop (i + 1) nodes)) (subst (λ z. IsTrue (are_below count z)) at h) in
    (less x count both.0, both.1)
