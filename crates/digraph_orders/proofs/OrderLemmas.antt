-- A digraph has at most one order.
use Rattle.std.proofs.Common.{◌≡◌, ℕ, zero, suc, ◌<◌, ◌≤◌, inl, inr, List, length, take, get_or, refl, sym, ◌∙◌, subst, arith, add-one, Contains, ◌≢◌}
use Rattle.std.proofs.lemmas.Bool.{cases_order, cases_lt}
use Rattle.std.proofs.lemmas.List.{take_more_same, take_all, get_or-take, length-take, get_or_default}
use Rattle.std.proofs.lemmas.List.Elements.{Contains-get_or}
use Rattle.digraphs.specs.declared.digraph.Edge.{Edge}
use Rattle.digraph_orders.specs.Orders.{IsNext, IsOrder}

pub same_next : {es : List Edge} {n : ℕ} {listed : List ℕ} {u v : ℕ} → IsNext es n listed u → IsNext es n listed v → u ≡ v
same_next {u = u} {v = v} p q =
    elim (cases_order u v) [
      | inl e ↦ e
      | inr r ↦ elim r [ inl l ↦ absurd (q.least u l p.available) | inr l ↦ absurd (p.least v l q.available) ]
    ]

same_front : {es : List Edge} {n : ℕ} {xs ys : List ℕ} → IsOrder es n xs → IsOrder es n ys → (k : ℕ) → k ≤ n → take k xs ≡ take k ys
same_front {xs = xs} {ys = ys} p q zero h = refl
same_front {es = es} {n = n} {xs = xs} {ys = ys} p q (suc k) h =
    let lx : k < length xs = omega (arith, p.long) in
    let ly : k < length ys = omega (arith, q.long) in
    let before : take k xs ≡ take k ys = same_front p q k (omega arith) in
    let other : IsNext es n (take k xs) (get_or ys k 0) = subst (λ t. IsNext es n t (get_or ys k 0)) (sym before) (q.next k h) in
    let here : get_or xs k 0 ≡ get_or ys k 0 = same_next (p.next k h) other in
    rw add-one at (take_more_same xs ys k 0 lx ly before here)

pub same_order : {es : List Edge} {n : ℕ} {xs ys : List ℕ} → IsOrder es n xs → IsOrder es n ys → xs ≡ ys
same_order {n = n} {xs = xs} {ys = ys} p q =
    sym (take_all n xs (omega (arith, p.long))) ∙ same_front p q n (omega arith) ∙ take_all n ys (omega (arith, q.long))

-- ---- the list of an order

pub listed_before : {es : List Edge} {n : ℕ} {list : List ℕ} → IsOrder es n list → (i j : ℕ) → i < j → j < n → Contains (take j list) (get_or list i 0)
listed_before {n = n} {list = list} o i j l h =
    let few : i < length (take j list) = omega (arith, length-take j list, o.long) in
    let read : get_or (take j list) i 0 ≡ get_or list i 0 = get_or-take j list i 0 l in
    rw read at (Contains-get_or (take j list) i 0 few)

pub order_below : {es : List Edge} {n : ℕ} {list : List ℕ} → IsOrder es n list → (i : ℕ) → i < n → get_or list i 0 < n
order_below o i h = (o.next i h).available.node

-- Each element of an order is below the number of nodes.
pub order_within : {es : List Edge} {n : ℕ} {list : List ℕ} → IsOrder es n list → (long : ℕ) → long ≡ n → (i : ℕ) → i < length list → get_or list i 0 < long
order_within {n = n} o long e i h =
    let below = order_below o i (omega (arith, h, o.long)) in
    omega (arith, below, e)

pub order_apart : {es : List Edge} {n : ℕ} {list : List ℕ} → IsOrder es n list → (i j : ℕ) → i < j → j < length list → get_or list i 0 ≢ get_or list j 0
order_apart {n = n} {list = list} o i j l h =
    λ e.
    let hn : j < n = omega (arith, o.long) in
    (o.next j hn).available.fresh (rw e at (listed_before o i j l hn))

-- If node `i` of an order is among the first `j`, then `i` is below `j`.
pub place_before : {es : List Edge} {n : ℕ} {list : List ℕ} → IsOrder es n list → (i j : ℕ) → i < n → Contains (take j list) (get_or list i 0) → i < j
place_before {list = list} o i j h c =
    elim (cases_lt i j) [
      | inl l ↦ l
      | inr ge ↦
          let few : c.0 < j = omega (arith, c.1, length-take j list) in
          let long : c.0 < length list = omega (arith, c.1, length-take j list) in
          let read : get_or list c.0 0 ≡ get_or list i 0 = sym (get_or-take j list c.0 0 few) ∙ get_or_default (take j list) c.0 0 (get_or list i 0) c.1 ∙ c.2 in
          absurd (order_apart o c.0 i (omega arith) (omega (arith, o.long)) read)
    ]
