use Rattle.std.proofs.Common.{◌≡◌, ℕ, zero, suc, Bool, true, false, ◌&&◌, ◌||◌, ◌⊎◌, List, [], ◌∷◌, Some, refl, sym, ◌∙◌, subst, inl, inr}
use Rattle.std.specs.Prelude.{IsTrue, IsFalse, slice_get, ◌==◌, ◌↔◌}
use Rattle.std.proofs.lemmas.Bool.{eqb-true, eq-eqb}
use Rattle.walk_engine.specs.declared.walks.Half.{Half}
use Rattle.walk_engine.specs.declared.walks.Half.TheVariants.{Full, Required, Optional}
use Rattle.walk_engine.specs.declared.walks.Ask.{Ask}
use Rattle.walk_engine.specs.declared.walks.Ask.TheVariants as asks
use Rattle.walk_engine.specs.Walks.{Content, Way, IsWay, Path, Reach, is_open, is_gated, has_gate, Least}
use Rattle.walk_engine.specs.Laws.{every, only, Leads, AreReverse, IsUngated}
use Rattle.walk_engine.proofs.Answered.{clash, or_left, or_right, or_cases, and_both, and_intro}
use Rattle.walk_engine.proofs.Reaches.{reach_in, open_cases}

-- Whether a path over these ways, all of them open, leads from `a` to `b`.
abbrev pub leads : List Way → ℕ → ℕ → Bool
leads [] a b = a == b
leads (w ∷ ws) a b = leads ws a b || (leads ws a w.start && leads ws w.far b)

leads_refl : (ws : List Way) (a : ℕ) → IsTrue (leads ws a a)
leads_refl [] a = eq-eqb a a refl
leads_refl (w ∷ ws) a = or_left (leads ws a a) (leads ws a w.start && leads ws w.far a) (leads_refl ws a)

leads_trans : (ws : List Way) (a b d : ℕ) → IsTrue (leads ws a b) → IsTrue (leads ws b d) → IsTrue (leads ws a d)
leads_trans [] a b d p q = eq-eqb a d (eqb-true a b p ∙ eqb-true b d q)
leads_trans (w ∷ ws) a b d p q =
    let via = λ (x : IsTrue (leads ws a w.start)) (y : IsTrue (leads ws w.far d)). or_right (leads ws a d) (leads ws a w.start && leads ws w.far d) (and_intro (leads ws a w.start) (leads ws w.far d) x y) in
    elim (or_cases (leads ws a b) (leads ws a w.start && leads ws w.far b) p) [
      | inl p1 ↦ elim (or_cases (leads ws b d) (leads ws b w.start && leads ws w.far d) q) [
        | inl q1 ↦ or_left (leads ws a d) (leads ws a w.start && leads ws w.far d) (leads_trans ws a b d p1 q1)
        | inr q2 ↦ let y = and_both (leads ws b w.start) (leads ws w.far d) q2 in via (leads_trans ws a b w.start p1 y.0) y.1
      ]
      | inr p2 ↦
          let x = and_both (leads ws a w.start) (leads ws w.far b) p2 in
          elim (or_cases (leads ws b d) (leads ws b w.start && leads ws w.far d) q) [
            | inl q1 ↦ via x.0 (leads_trans ws w.far b d x.1 q1)
            | inr q2 ↦ let y = and_both (leads ws b w.start) (leads ws w.far d) q2 in via x.0 y.1
          ]
    ]

leads_edge : (ws : List Way) (e : ℕ) (w : Way) → slice_get ws e ≡ Some w → IsTrue (leads ws w.start w.far)
leads_edge [] e w h = absurd (cc)
leads_edge (v ∷ vs) zero w h =
    let same : v ≡ w = cc in
    subst (λ (x : Way). IsTrue (leads (v ∷ vs) x.start x.far)) same
    (or_right (leads vs v.start v.far) (leads vs v.start v.start && leads vs v.far v.far) (and_intro (leads vs v.start v.start) (leads vs v.far v.far) (leads_refl vs v.start) (leads_refl vs v.far)))
leads_edge (v ∷ vs) (suc e) w h = or_left (leads vs w.start w.far) (leads vs w.start v.start && leads vs v.far w.far) (leads_edge vs e w h)

-- Two paths in a row are a path.
pub path_append : (c : Content) (A : ℕ → Half → Bool) (a : ℕ) (es : List ℕ) (b : ℕ) (fs : List ℕ) (d : ℕ) → Path c A a es b → Path c A b fs d → (gs : List ℕ) × Path c A a gs d
path_append c A a [] b fs d p q = (fs, subst (λ (x : ℕ). Path c A x fs d) (sym p) q)
path_append c A a (e ∷ es) b fs d (w, is, st, op, rest) q = let r = path_append c A w.far es b fs d rest q in (e ∷ r.0, (w, is, st, op, r.1))

every_open : (e : ℕ) (ask : Ask) → IsTrue (is_open every e ask)
every_open e asks.Nobody = refl
every_open e asks.Full = refl
every_open e (asks.Weak required gated) = or_right (required && true) true refl

leads_path : (c : Content) (ws : List Way) → ((i : ℕ) (w : Way) → slice_get ws i ≡ Some w → (e : ℕ) × IsWay c e w) → (a b : ℕ) → IsTrue (leads ws a b) → (es : List ℕ) × Path c every a es b
leads_path c [] within a b t = ([], eqb-true a b t)
leads_path c (w ∷ ws) within a b t =
    let later = leads_path c ws (λ i v h. within (suc i) v h) in
    elim (or_cases (leads ws a b) (leads ws a w.start && leads ws w.far b) t) [
      | inl p ↦ later a b p
      | inr p ↦
          let both = and_both (leads ws a w.start) (leads ws w.far b) p in
          let one = later a w.start both.0 in
          let two = later w.far b both.1 in
          let e = within 0 w refl in
          let step : Path c every w.start (e.0 ∷ two.0) b = (w, e.1, refl, every_open e.0 w.ask, two.1) in
          path_append c every a one.0 w.start (e.0 ∷ two.0) b one.1 step
    ]

-- The test: a node that is reached from the start of a way that is initial.
abbrev from_some : (ℕ → Bool) → List Way → List Way → ℕ → Bool
from_some I every [] n = false
from_some I every (w ∷ ws) n = (I w.start && leads every w.start n) || from_some I every ws n

from_add : (I : ℕ → Bool) (every ws : List Way) (i : ℕ) (w : Way) (n : ℕ) → slice_get ws i ≡ Some w → IsTrue (I w.start) → IsTrue (leads every w.start n) → IsTrue (from_some I every ws n)
from_add I every [] i w n h p q = absurd (cc)
from_add I every (v ∷ vs) zero w n h p q =
    let same : v ≡ w = cc in
    or_left (I v.start && leads every v.start n) (from_some I every vs n) (subst (λ (x : Way). IsTrue (I x.start && leads every x.start n)) (sym same) (and_intro (I w.start) (leads every w.start n) p q))
from_add I every (v ∷ vs) (suc i) w n h p q = or_right (I v.start && leads every v.start n) (from_some I every vs n) (from_add I every vs i w n h p q)

from_get : (I : ℕ → Bool) (every ws : List Way) (n : ℕ) → IsTrue (from_some I every ws n) → (a : ℕ) × IsTrue (I a) × IsTrue (leads every a n)
from_get I every [] n t = absurd (clash t refl)
from_get I every (v ∷ vs) n t = elim (or_cases (I v.start && leads every v.start n) (from_some I every vs n) t) [
  | inl p ↦ let both = and_both (I v.start) (leads every v.start n) p in (v.start, both.0, both.1)
  | inr p ↦ from_get I every vs n p
]

-- Going on by a path keeps the test true.
from_more : (I : ℕ → Bool) (every ws : List Way) (n m : ℕ) → IsTrue (leads every n m) → IsTrue (from_some I every ws n) → IsTrue (from_some I every ws m)
from_more I every [] n m q t = absurd (clash t refl)
from_more I every (v ∷ vs) n m q t = elim (or_cases (I v.start && leads every v.start n) (from_some I every vs n) t) [
  | inl p ↦ let both = and_both (I v.start) (leads every v.start n) p in or_left (I v.start && leads every v.start m) (from_some I every vs m) (and_intro (I v.start) (leads every v.start m) both.0 (leads_trans every v.start n m both.1 q))
  | inr p ↦ or_right (I v.start && leads every v.start m) (from_some I every vs m) (from_more I every vs n m q p)
]

-- Each least set is within the reach over all edges.
pub least_within : (c : Content) (I : ℕ → Bool) (A : ℕ → Half → Bool) (n : ℕ) → Least c I A n → Reach c I every n
least_within c I A n least =
    let S = λ (k : ℕ). I k || from_some I c.ways c.ways k in
    let grow = λ (e : ℕ) (w : Way) (is : IsWay c e w) (t : IsTrue (S w.start)).
    let r : IsTrue (S w.far) = or_right (I w.far) (from_some I c.ways c.ways w.far) (elim (or_cases (I w.start) (from_some I c.ways c.ways w.start) t) [
      | inl p ↦ from_add I c.ways c.ways e w w.far is p (leads_edge c.ways e w is)
      | inr p ↦ from_more I c.ways c.ways w.start w.far (leads_edge c.ways e w is) p
    ]) in r in
    let t : IsTrue (S n) = least S (record {
      initial = λ k i. or_left (I k) (from_some I c.ways c.ways k) i;
      unasked = λ e w is p s. grow e w is s;
      offered = λ e h w is half a s g. grow e w is s;
    }) in
    elim (or_cases (I n) (from_some I c.ways c.ways n) t) [
      | inl p ↦ (n, [], p, refl)
      | inr p ↦ let g = from_get I c.ways c.ways n p in let q = leads_path c c.ways (λ i w h. (i, h)) g.0 n g.2 in (g.0, q.0, g.1, q.1)
    ]

-- A path can be followed back over the reverse edges.
leads_back : (c d : Content) → AreReverse c d → (a : ℕ) (es : List ℕ) (b : ℕ) → Path c every a es b → Leads d b a
leads_back c d r a [] b p = ([], sym p)
leads_back c d r a (e ∷ es) b (w, is, st, op, rest) =
    let before = leads_back c d r w.far es b rest in
    let v = r.forth e w is in
    let last : Path d every w.far (e ∷ []) a = (v.0, v.1, v.2, every_open e v.0.ask, v.3 ∙ st) in
    path_append d every b before.0 w.far (e ∷ []) a before.1 last

reversed : (c d : Content) → AreReverse c d → AreReverse d c
reversed c d r = record { nodes = sym r.nodes; forth = r.back; back = r.forth }

pub leads_reach : (c : Content) (a b : ℕ) → Leads c a b → Reach c (only a) every b
leads_reach c a b (es, p) = (a, es, eq-eqb a a refl, p)

pub reach_leads : (c : Content) (a b : ℕ) → Reach c (only a) every b → Leads c a b
reach_leads c a b (k, es, t, p) = (es, subst (λ (x : ℕ). Path c every x es b) (sym (eqb-true a k t)) p)

pub leads_reverse : (c d : Content) → AreReverse c d → (a b : ℕ) → Leads c a b → Reach d (only b) every a
leads_reverse c d r a b (es, p) = leads_reach d b a (leads_back c d r a es b p)

pub reverse_leads : (c d : Content) → AreReverse c d → (a b : ℕ) → Reach d (only b) every a → Leads c a b
reverse_leads c d r a b q = let l = reach_leads d b a q in leads_back d c (reversed c d r) b l.0 a l.1

pub reach_apart : (c : Content) (A : ℕ → Half → Bool) (I J : ℕ → Bool) (n : ℕ) → Reach c (λ k. I k || J k) A n → Reach c I A n ⊎ Reach c J A n
reach_apart c A I J n (a, es, t, p) = elim (or_cases (I a) (J a) t) [ inl i ↦ inl (a, es, i, p) | inr j ↦ inr (a, es, j, p) ]

pub reach_joined : (c : Content) (A : ℕ → Half → Bool) (I J : ℕ → Bool) (n : ℕ) → Reach c I A n ⊎ Reach c J A n → Reach c (λ k. I k || J k) A n
reach_joined c A I J n (inl (a, es, i, p)) = (a, es, or_left (I a) (J a) i, p)
reach_joined c A I J n (inr (a, es, j, p)) = (a, es, or_right (I a) (J a) j, p)

pub reach_again : (c : Content) (A : ℕ → Half → Bool) (I M : ℕ → Bool) → ((n : ℕ) → IsTrue (M n) ↔ Reach c I A n) → (n : ℕ) → Reach c M A n ↔ Reach c I A n
reach_again c A I M m n = (
  (λ (k, es, t, p). let first = (m k).0 t in let whole = path_append c A first.0 first.1 k es n first.3 p in (first.0, whole.0, first.2, whole.1)),
  (λ r. (n, [], (m n).1 r, refl)),
)

pub least_grows : (c : Content) (I J : ℕ → Bool) (A B : ℕ → Half → Bool) → ((n : ℕ) → IsTrue (I n) → IsTrue (J n)) → ((e : ℕ) (h : Half) → IsTrue (A e h) → IsTrue (B e h)) → (n : ℕ) → Least c I A n → Least c J B n
least_grows c I J A B i a n least S closed =
    least S (record {
      initial = λ k t. closed.initial k (i k t);
      unasked = closed.unasked;
      offered = λ e h w is half t st gt. closed.offered e h w is half (a e h t) st gt;
    })

pub least_again : (c : Content) (I M : ℕ → Bool) (A : ℕ → Half → Bool) → ((n : ℕ) → IsTrue (M n) ↔ Least c I A n) → (n : ℕ) → Least c M A n ↔ Least c I A n
least_again c I M A m n = (
  (λ least S closed. least S (record { initial = λ k t. (m k).0 t S closed; unasked = closed.unasked; offered = closed.offered })),
  (λ least S closed. closed.initial n ((m n).1 least)),
)

-- No half of an ungated ask waits.
no_wait : (ask : Ask) (h : Half) → IsFalse (is_gated ask) → IsTrue (has_gate ask h) → ⊥
no_wait asks.Nobody h f t = clash t refl
no_wait asks.Full h f t = clash t refl
no_wait (asks.Weak required gated) Full f t = clash t refl
no_wait (asks.Weak required gated) Required f t = clash t refl
no_wait (asks.Weak required gated) Optional f t = clash t f

pub reach_least : (c : Content) (I : ℕ → Bool) → IsUngated c → (n : ℕ) → Reach c I every n → Least c I every n
reach_least c I free n r S closed =
    reach_in c I every (λ k. IsTrue (S k)) closed.initial (λ e w is op s. elim (open_cases every e w.ask op) [
      | inl p ↦ closed.unasked e w is p s
      | inr p ↦ closed.offered e p.0 w is p.1 refl s (λ t. absurd (no_wait w.ask p.0 (free e w is) t))
    ]) n r
