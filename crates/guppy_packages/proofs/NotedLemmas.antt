-- The link of a pair is the one that is noted at its target.
use Rattle.std.proofs.Common.{◌≡◌, ◌≢◌, ◌⊎◌, ◌↔◌, inl, inr, ℕ, zero, suc, ◌+◌, ◌<◌, ◌≤◌, List, [], ◌∷◌, ◌++◌, Bool, true, false, cond, ◌||◌, not, Option, None, Some, Ok, Err, Result, map, get_or, length, refl, ap, sym, ◌∙◌, subst, arith}
use Rattle.std.specs.Prelude.{slice_get, slice_set, OnOk, ◌==◌, ◌&&◌}
use Rattle.std.specs.List.{list_any, position_or_len}
use Rattle.std.specs.Option.{option_map_or}
use Rattle.std.proofs.lemmas.Bool.{eq-eqb, eqb-true}
use Rattle.std.proofs.lemmas.List.{length-append, length-map, length-set}
use Rattle.std.proofs.lemmas.Option.{slice_get_read, slice_get_within}
use Rattle.guppy_packages.specs.Stored.{link_table}
use Rattle.guppy_packages.specs.Tables.{LinkTable}
use Rattle.guppy_packages.specs.declared.contents.LinkData.{LinkData}
use Rattle.guppy_packages.proofs.Lists.{slice_get-map}
use Rattle.guppy_packages.specs.inner.Begins.{IsBegin}
use Rattle.guppy_packages.specs.inner.Noted.{AreNoted}
use Rattle.guppy_packages.specs.inner.Steps.{joins}

-- the place of the only item that passes
first_at : {X : Type 0} (p : X → Bool) (xs : List X) (i : ℕ) (x : X) → slice_get xs i ≡ Some x → p x ≡ true → ((k : ℕ) (y : X) → slice_get xs k ≡ Some y → p y ≡ true → k ≡ i) → position_or_len p xs ≡ i
first_at p [] i x g t only = cc
first_at p (y ∷ ys) zero x g t only =
    let here : y ≡ x = cc in
    rw (here, t)
first_at p (y ∷ ys) (suc i) x g t only = go (p y) refl (first_at p ys i x g t (λ k z h q. let s : suc k ≡ suc i = only (suc k) z h q in omega arith))
  where
    go : (b : Bool) → p y ≡ b → position_or_len p ys ≡ i → cond (not b) (1 + position_or_len p ys) 0 ≡ suc i
    go true e more =
        let z : 0 ≡ suc i = only zero y refl e in
        absurd (omega arith)
    go false e more = omega arith

none_at : {X : Type 0} (p : X → Bool) (xs : List X) → ((k : ℕ) (x : X) → slice_get xs k ≡ Some x → p x ≡ true → ⊥) → list_any p xs ≡ false
none_at p [] h = refl
none_at p (x ∷ xs) h = go (p x) refl (none_at p xs (λ k y g t. h (suc k) y g t))
  where
    go : (b : Bool) → p x ≡ b → list_any p xs ≡ false → b || list_any p xs ≡ false
    go true e more = absurd (h zero x refl e)
    go false e more = more

-- an item of a list that was appended or written to
pushed_at : {X : Type 0} (xs : List X) (x : X) (k : ℕ) (y : X) → slice_get (xs ++ x ∷ []) k ≡ Some y → (slice_get xs k ≡ Some y) ⊎ ((k ≡ length xs) × (y ≡ x))
pushed_at [] x zero y h =
    let same : y ≡ x = cc in
    inr (refl, same)
pushed_at [] x (suc k) y h = cc
pushed_at (z ∷ zs) x zero y h = inl h
pushed_at (z ∷ zs) x (suc k) y h = go (pushed_at zs x k y h)
  where
    go : (slice_get zs k ≡ Some y) ⊎ ((k ≡ length zs) × (y ≡ x)) → (slice_get zs k ≡ Some y) ⊎ ((suc k ≡ suc (length zs)) × (y ≡ x))
    go (inl g) = inl g
    go (inr e) = inr (ap suc e.0, e.1)

set_at : {X : Type 0} (xs : List X) (i : ℕ) (x : X) (k : ℕ) (y : X) → slice_get (slice_set xs i x) k ≡ Some y → (slice_get xs k ≡ Some y) ⊎ ((k ≡ i) × (y ≡ x))
set_at [] i x k y h = inl h
set_at (z ∷ zs) zero x zero y h =
    let same : y ≡ x = cc in
    inr (refl, same)
set_at (z ∷ zs) zero x (suc k) y h = inl h
set_at (z ∷ zs) (suc i) x zero y h = inl h
set_at (z ∷ zs) (suc i) x (suc k) y h = go (set_at zs i x k y h)
  where
    go : (slice_get zs k ≡ Some y) ⊎ ((k ≡ i) × (y ≡ x)) → (slice_get zs k ≡ Some y) ⊎ ((suc k ≡ suc i) × (y ≡ x))
    go (inl g) = inl g
    go (inr e) = inr (ap suc e.0, e.1)

read_set : {X : Type 0} (xs : List X) (i : ℕ) (x : X) → i < length xs → slice_get (slice_set xs i x) i ≡ Some x
read_set [] i x h = absurd (omega arith)
read_set (z ∷ zs) zero x h = refl
read_set (z ∷ zs) (suc i) x h = read_set zs i x (omega arith)

read_other : {X : Type 0} (xs : List X) (i j : ℕ) (x : X) → j ≢ i → slice_get (slice_set xs i x) j ≡ slice_get xs j
read_other [] i j x h = refl
read_other (z ∷ zs) zero zero x h = absurd (h refl)
read_other (z ∷ zs) zero (suc j) x h = refl
read_other (z ∷ zs) (suc i) zero x h = refl
read_other (z ∷ zs) (suc i) (suc j) x h = read_other zs i j x (λ e. h (ap suc e))

joins_ends : (from to : ℕ) (l : LinkTable) → joins from to l ≡ true → (from ≡ l.from) × (to ≡ l.to)
joins_ends from to l h = go (from == l.from) refl (to == l.to) refl h
  where
    go : (b : Bool) → (from == l.from) ≡ b → (c : Bool) → (to == l.to) ≡ c → (b && c) ≡ true → (from ≡ l.from) × (to ≡ l.to)
    go true p true q h = (eqb-true from l.from p, eqb-true to l.to q)
    go true p false q h = cc
    go false p c q h = cc

-- the link at a number, which passes
pub link_there : (p : LinkTable → Bool) (es : List ((ℕ × ℕ) × LinkData)) (at : ℕ) (e : (ℕ × ℕ) × LinkData) → option_map_or p (slice_get (map link_table es) at) false ≡ true → e ≡ get_or es at e
    → (slice_get (map link_table es) at ≡ Some (link_table e)) × (p (link_table e) ≡ true)
link_there p es at e h is = go (slice_get (map link_table es) at) refl h
  where
    go : (o : Option LinkTable) → slice_get (map link_table es) at ≡ o → option_map_or p o false ≡ true → (slice_get (map link_table es) at ≡ Some (link_table e)) × (p (link_table e) ≡ true)
    go None g t = cc
    go (Some l) g t =
        let within : at < length es = subst (λ n. at < n) (length-map es link_table) (slice_get_within (map link_table es) at l g) in
        let there : slice_get (map link_table es) at ≡ Some (link_table e) = slice_get-map link_table es at e (slice_get_read es (length es) at e refl within is) in
        let same : l ≡ link_table e = cc in
        (there, ap p (sym same) ∙ t)

-- the rows of a later package follow, and its links begin at `next`
pub noted_later : (from later : ℕ) (links : List LinkTable) (last : List ℕ) (first next : ℕ) → from ≤ later → AreNoted from links last first → IsBegin links later next → AreNoted later links last next
noted_later from later links last first next le noted begin = record {
  each = λ k l h.
      let p = noted.each k l h in
      let below : l.from ≤ from = p.0 in
      let within : l.from ≤ later = omega arith in
      (within, λ e. let same : l.from ≡ from = omega arith in p.1 same);
  begin = begin;
}

pub on_ok : {A E : Type 0} (r : Result A E) (P : Type 0) → P → OnOk r P
on_ok (Ok x) P h = h
on_ok (Err e) P h = tt

-- the notes after a call that returned these links and notes
pub noted_given : {A E : Type 0} (r : Result A E) (from first : ℕ) (links new_links : List LinkTable) (last new_last : List ℕ) → OnOk r (new_links ≡ links) → OnOk r (new_last ≡ last) → AreNoted from links last first → OnOk r (AreNoted from new_links new_last first)
noted_given (Ok x) from first links new_links last new_last h e noted = rw (h, e) noted
noted_given (Err f) from first links new_links last new_last h e noted = tt

module _ (from to : ℕ) (links : List LinkTable) (last : List ℕ) (first : ℕ) (noted : AreNoted from links last first) (at : ℕ) (is : slice_get last to ≡ Some at) where
  only : (k : ℕ) (l : LinkTable) → slice_get links k ≡ Some l → joins from to l ≡ true → k ≡ at
  only k l g t =
      let e = joins_ends from to l t in
      let there : slice_get last to ≡ Some k = subst (λ n. slice_get last n ≡ Some k) (sym e.1) ((noted.each k l g).1 (sym e.0)) in
      cc

  -- the link at that number joins the pair
  pub noted_link : (l : LinkTable) → slice_get links at ≡ Some l → joins from to l ≡ true → position_or_len (joins from to) links ≡ at
  noted_link l g t = first_at (joins from to) links at l g t only

  -- the link keeps its ends
  pub noted_joined : (l new : LinkTable) → slice_get links at ≡ Some l → new.from ≡ l.from → new.to ≡ l.to → AreNoted from (slice_set links at new) last first
  noted_joined l new g f t = record {
    each = λ k m h. go k m (set_at links at new k m h);
    begin = record {
      within = omega (arith, noted.begin.within, length-set links at new);
      before = λ k m h. ends k m (set_at links at new k m h);
    };
  }
    where
      ends : (k : ℕ) (m : LinkTable) → (slice_get links k ≡ Some m) ⊎ ((k ≡ at) × (m ≡ new)) → (k < first) ↔ (m.from < from)
      ends k m (inl h) = noted.begin.before k m h
      ends k m (inr e) = rw (e.0, e.1, f) (noted.begin.before at l g)

      go : (k : ℕ) (m : LinkTable) → (slice_get links k ≡ Some m) ⊎ ((k ≡ at) × (m ≡ new)) → (m.from ≤ from) × (m.from ≡ from → slice_get last m.to ≡ Some k)
      go k m (inl h) = noted.each k m h
      go k m (inr e) = rw (e.0, e.1, f, t) (noted.each at l g)

  -- no link joins the pair
  module _ (missing : option_map_or (joins from to) (slice_get links at) false ≡ false) where
    never : (k : ℕ) (l : LinkTable) → slice_get links k ≡ Some l → joins from to l ≡ true → ⊥
    never k l g t =
        let same : k ≡ at = only k l g t in
        let there : slice_get links at ≡ Some l = subst (λ n. slice_get links n ≡ Some l) same g in
        let found : option_map_or (joins from to) (slice_get links at) false ≡ true = ap (λ o. option_map_or (joins from to) o false) there ∙ t in
        cc

    pub missing_link : list_any (joins from to) links ≡ false
    missing_link = none_at (joins from to) links never

    pub noted_new : (new : LinkTable) → new.from ≡ from → new.to ≡ to → to < length last → AreNoted from (links ++ new ∷ []) (slice_set last to (length links)) first
    noted_new new f t within = record {
      each = λ k m h. go k m (pushed_at links new k m h);
      begin = record {
        within = omega (arith, noted.begin.within, length-append links (new ∷ []));
        before = λ k m h. ends k m (pushed_at links new k m h);
      };
    }
      where
        ends : (k : ℕ) (m : LinkTable) → (slice_get links k ≡ Some m) ⊎ ((k ≡ length links) × (m ≡ new)) → (k < first) ↔ (m.from < from)
        ends k m (inl h) = noted.begin.before k m h
        ends k m (inr e) =
            let same : m.from ≡ from = ap (λ (l : LinkTable). l.from) e.1 ∙ f in
            (λ less. absurd (omega (arith, less, e.0, noted.begin.within)), λ less. absurd (omega (arith, less, same)))

        other : (k : ℕ) (m : LinkTable) → slice_get links k ≡ Some m → m.from ≡ from → m.to ≢ to
        other k m g e = λ same. never k m g (rw (eq-eqb from m.from (sym e), eq-eqb to m.to (sym same)))

        go : (k : ℕ) (m : LinkTable) → (slice_get links k ≡ Some m) ⊎ ((k ≡ length links) × (m ≡ new)) → (m.from ≤ from) × (m.from ≡ from → slice_get (slice_set last to (length links)) m.to ≡ Some k)
        go k m (inl h) = ((noted.each k m h).0, λ e. read_other last to m.to (length links) (other k m h e) ∙ (noted.each k m h).1 e)
        go k m (inr e) =
            let low : new.from ≤ from = omega (arith, f) in
            rw (e.0, e.1) (low, λ _. rw t (read_set last to (length links) within))
