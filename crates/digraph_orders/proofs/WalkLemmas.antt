-- The sets of the nodes whose component is known.
use Rattle.std.proofs.Common.{◌≡◌, ◌∙◌, ℕ, ◌+◌, ◌-◌, ◌<◌, ◌≤◌, ◌⊎◌, inl, inr, Bool, true, false, List, length, get_or, set, sym, arith, replicate, get_or-set_same, get_or-set_other}
use Rattle.std.proofs.lemmas.Bool.{cases_eq, cases_lt, cases_Bool}
use Rattle.std.proofs.lemmas.List.{length-replicate}
use Rattle.digraphs.specs.Bits.{has}
use Rattle.digraphs.specs.Graph.{Graph}
use Rattle.digraph_orders.specs.inner.ComponentWalk.{IsWalking, AreFinished, AreGiven, IsInOrFrom}
use Rattle.digraph_orders.specs.inner.ComponentWalk.IsInOrFrom.{was, at_place}
use Rattle.digraph_orders.proofs.FirstLemmas.{none_done}
use Rattle.digraphs.proofs.SetLemmas.{has_inside}

on_off : {x : Bool} → x ≡ true → ¬ (x ≡ false)
on_off on off = absurd (let c : true ≡ false = sym on ∙ off in cc)

-- One more node of the list is inserted.
pub inserted_only : (old new : List Bool) (list : List ℕ) (from place : ℕ) → from ≤ place → place < length list → ((v : ℕ) → has new v ≡ true → IsInOrFrom old list from v)
    → (v : ℕ) → has (set new (get_or list place 0) true) v ≡ true → IsInOrFrom old list from v
inserted_only old new list from place le inside f v h =
    elim (cases_eq v (get_or list place 0)) [
      | inl e ↦ at_place place le inside (sym e)
      | inr ne ↦ f v (sym (get_or-set_other new (get_or list place 0) v true false ne) ∙ h)
    ]

pub inserted_kept : (s : List Bool) (k v : ℕ) → has s v ≡ true → has (set s k true) v ≡ true
inserted_kept s k v h =
    elim (cases_eq v k) [
      | inl e ↦ rw e (get_or-set_same s k true false (let i = has_inside s v h in omega (arith, i, e)))
      | inr ne ↦ get_or-set_other s k v true false ne ∙ h
    ]

pub inserted_all : (new : List Bool) (list : List ℕ) (from place : ℕ) → get_or list place 0 < length new → ((i : ℕ) → from ≤ i → i < place → has new (get_or list i 0) ≡ true)
    → (i : ℕ) → from ≤ i → i < place + 1 → has (set new (get_or list place 0) true) (get_or list i 0) ≡ true
inserted_all new list from place room f i le h =
    elim (cases_eq i place) [
      | inl e ↦ rw e (get_or-set_same new (get_or list place 0) true false room)
      | inr ne ↦ inserted_kept new (get_or list place 0) (get_or list i 0) (f i le (omega (arith, h, ne)))
    ]

-- At first the sets are empty.
pub finished_none : (n : ℕ) (m : List ℕ) → ((v : ℕ) → get_or m v 0 ≡ 0) → AreFinished n m (replicate n false) (replicate n false)
finished_none n m zero_marks =
    record {
      long = length-replicate n false;
      several_long = length-replicate n false;
      levels = λ v h. absurd (none_done n v h);
      alone = λ v u big. absurd (omega (arith, big, zero_marks v));
    }

-- A node is entered.
pub finished_entered : (n : ℕ) (m : List ℕ) (finished several : List Bool) (node x : ℕ) → node < length m → x ≤ n → get_or m node 0 ≡ 0 → AreFinished n m finished several → AreFinished n (set m node x) finished several
finished_entered n m finished several node x inside low new f =
    let mine : get_or (set m node x) node 0 ≡ x = get_or-set_same m node x 0 inside in
    record {
      long = f.long;
      several_long = f.several_long;
      levels = λ v h.
          let l = f.levels v h in
          elim (cases_eq v node) [
            | inl e ↦ absurd (let l' : n < get_or m node 0 = rw e at l in omega (arith, l', new))
            | inr ne ↦ rw (get_or-set_other m node v x 0 ne) l
          ];
      alone = λ v u big same off.
          elim (cases_eq v node) [
            | inl e ↦ absurd (let big' : n < get_or (set m node x) node 0 = rw e at big in omega (arith, big', mine, low))
            | inr nv ↦
                let at : get_or (set m node x) v 0 ≡ get_or m v 0 = get_or-set_other m node v x 0 nv in
                elim (cases_eq u node) [
                  | inl e ↦ absurd (let same' : get_or (set m node x) v 0 ≡ get_or (set m node x) node 0 = rw e at same in omega (arith, big, same', mine, low))
                  | inr nu ↦ f.alone v u (omega (arith, big, at)) (sym at ∙ same ∙ get_or-set_other m node u x 0 nu) off
                ]
          ];
    }

-- The last pending nodes get a level.
module _ (g : Graph) (m m' ps bs os ls : List ℕ) (s level : ℕ) (w : IsWalking g m ps bs os ls level) (given : AreGiven m m' s (length ps) level) (some : s < length ps) where
  big : g.nodes < level
  big = omega (arith, w.room, some)

  few : length ps ≤ g.nodes
  few = omega (arith, w.room, w.level_high)

  changed : (v : ℕ) → ((s < get_or m v 0) × (get_or m v 0 ≤ length ps) × (get_or m' v 0 ≡ level)) ⊎ (get_or m' v 0 ≡ get_or m v 0)
  changed v =
      elim (cases_lt s (get_or m v 0)) [
        | inr low ↦ inr (given.low v low)
        | inl more_than ↦ elim (cases_lt (length ps) (get_or m v 0)) [ inl far ↦ inr (given.high v far) | inr within ↦ inl (more_than, within, given.given v more_than within) ]
      ]

  pub finished_given : (finished finished' several several' : List Bool) → AreFinished g.nodes m finished several → length finished' ≡ length finished → length several' ≡ length several
      → ((v : ℕ) → has finished' v ≡ true → IsInOrFrom finished ps s v) → ((v : ℕ) → has several v ≡ true → has several' v ≡ true)
      → (s + 1 < length ps → (i : ℕ) → s ≤ i → i < length ps → has several' (get_or ps i 0) ≡ true) → AreFinished g.nodes m' finished' several'
  finished_given finished finished' several several' f long several_long only kept all =
      let old_off : (v : ℕ) → has several' v ≡ false → has several v ≡ false =
      λ v off. elim (cases_Bool (has several v)) [ inl on ↦ absurd (on_off (kept v on) off) | inr o ↦ o ]
      in
      let at_place_of : (v : ℕ) → s < get_or m v 0 → get_or m v 0 ≤ length ps → get_or ps (get_or m v 0 - 1) 0 ≡ v = λ v a b. (w.known v (omega (arith, a)) (omega (arith, b, few))).1 in
      record {
        long = long ∙ f.long;
        several_long = several_long ∙ f.several_long;
        levels = λ v h.
            elim (only v h) [
              | was q ↦ let l = f.levels v q in rw (given.high v (omega (arith, l, few))) l
              | at_place i a b e ↦
                  let at : get_or m v 0 ≡ i + 1 = rw e at (w.placed i b).1 in
                  rw (given.given v (omega (arith, at, a)) (omega (arith, at, b))) big
            ];
        alone = λ v u high same off.
            elim (changed v) [
              | inr stays ↦
                  elim (changed u) [
                    | inr too ↦ f.alone v u (omega (arith, high, stays)) (sym stays ∙ same ∙ too) (old_off v off)
                    | inl now ↦ absurd (omega (arith, w.below v (omega (arith, high, stays)), stays, same, now.2))
                  ]
              | inl now ↦
                  elim (changed u) [
                    | inr stays ↦ absurd (omega (arith, w.below u (omega (arith, now.2, same, stays, big)), now.2, same, stays))
                    | inl too ↦
                        let pv = at_place_of v now.0 now.1 in
                        let pu = at_place_of u too.0 too.1 in
                        elim (cases_lt (s + 1) (length ps)) [
                          | inl more_than ↦
                              absurd (on_off (let h = all more_than (get_or m v 0 - 1) (omega (arith, now.0)) (omega (arith, now.0, now.1)) in rw pv at h) off)
                          | inr one ↦ let e : get_or m u 0 - 1 ≡ get_or m v 0 - 1 = omega (arith, one, now.0, now.1, too.0, too.1) in sym pu ∙ (rw e pv)
                        ]
                  ]
            ];
      }
