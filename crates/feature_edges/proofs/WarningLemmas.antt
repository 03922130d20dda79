-- Warnings, appended one after another.
use Rattle.std.proofs.Common.{◌≡◌, ℕ, zero, suc, ◌+◌, ◌<◌, ◌≤◌, List, [], ◌∷◌, ◌++◌, Bool, true, false, cond, length, map, take, Some, refl, ap, sym, ◌∙◌, arith, if◌then◌else◌}
use Rattle.std.specs.Prelude.{slice_get, flat_map, filter, ◌==◌, ◌&&◌}
use Rattle.std.specs.List.{enumerate_from}
use Rattle.std.specs.Option.{option_map_or}
use Rattle.std.specs.Str.{bytes_eq}
use Rattle.std.proofs.lemmas.Bool.Decides.{nat_tests}
use Rattle.std.proofs.lemmas.List.{flat_map_more, take_all}
use Rattle.std.proofs.lemmas.List.FromFn.{length-enumerate_from}
use Rattle.guppy_packages.specs.Rows.{Text}
use Rattle.guppy_packages.specs.Tables.{PackageTable, LinkTable, Tables}
use Rattle.feature_links.specs.Links.{numbered, links_named}
use Rattle.feature_links.specs.NamedLinks.{link_numbers}
use Rattle.feature_edges.specs.inner.Collects.{lack_by}
use Rattle.feature_edges.specs.Warnings.{Warning, missing_feature, lack_of, lack_over, lacks_over}
use Rattle.feature_edges.proofs.NodeLemmas.{append-none, take-next}

module _ {X Y : Type 0} (f : X → List Y) where
  -- one more element adds its warnings
  pub added-more : (xs ys : List X) (x : X) (start before after : List Y) → ys ≡ xs ++ x ∷ [] → before ≡ start ++ flat_map f xs → after ≡ before ++ f x → after ≡ start ++ flat_map f ys
  added-more xs ys x start before after e b a = a ∙ ap (λ z. z ++ f x) b ∙ flat_map_more f start xs x ∙ ap (λ z. start ++ flat_map f z) (sym e)

  pub added-next : (xs : List X) (i : ℕ) (x : X) (start before after : List Y) → slice_get xs i ≡ Some x → before ≡ start ++ flat_map f (take i xs) → after ≡ before ++ f x → after ≡ start ++ flat_map f (take (i + 1) xs)
  added-next xs i x start before after at b a = added-more (take i xs) (take (i + 1) xs) x start before after (take-next xs i x at) b a

  -- the elements before the end are all elements
  pub added-all : (xs : List X) (n : ℕ) (start end : List Y) → length xs ≤ n → end ≡ start ++ flat_map f (take n xs) → end ≡ start ++ flat_map f xs
  added-all xs n start end l e = e ∙ ap (λ z. start ++ flat_map f z) (take_all n xs l)

-- an element with its number
enumerated_from : {X : Type 0} (q : ℕ) (xs : List X) (i : ℕ) (x : X) → slice_get xs i ≡ Some x → slice_get (enumerate_from q xs) i ≡ Some (q + i, x)
enumerated_from q [] i x h = cc
enumerated_from q (y ∷ ys) zero x h =
    let e : y ≡ x = cc in
    let n : q ≡ q + 0 = omega arith in
    ap (λ z. Some (q, z)) e ∙ ap (λ z. Some (z, x)) n
enumerated_from q (y ∷ ys) (suc i) x h =
    let n : q + 1 + i ≡ q + suc i = omega arith in
    enumerated_from (q + 1) ys i x h ∙ ap (λ z. Some (z, x)) n

pub enumerated_at : {X : Type 0} (xs : List X) (i : ℕ) (x : X) → slice_get xs i ≡ Some x → slice_get (enumerate_from 0 xs) i ≡ Some (i, x)
enumerated_at xs i x h = let n : 0 + i ≡ i = omega arith in enumerated_from 0 xs i x h ∙ ap (λ z. Some (z, x)) n

pub enumerated_end : {X : Type 0} (xs : List X) (n : ℕ) → n ≡ length xs → length (enumerate_from 0 xs) ≤ n
enumerated_end xs n e = let l : length (enumerate_from 0 xs) ≡ length xs = length-enumerate_from 0 xs in omega (arith, l, e)

-- a list that isn't empty
pub not_empty : {X : Type 0} (xs : List X) (b : Bool) → b ≡ (length xs == 0) → b ≡ false → 0 < length xs
not_empty xs b e f = grind (arith, nat_tests)

pub is_empty : {X : Type 0} (xs : List X) (b : Bool) → b ≡ (length xs == 0) → b ≡ true → length xs ≡ 0
is_empty xs b e f = grind (arith, nat_tests)

-- a warning if a test fails, and none if it passes
pub warned : (test : Bool) (start end : List Warning) (x : Warning) → test ≡ false → end ≡ start ++ x ∷ [] → end ≡ start ++ (if test then [] else x ∷ [])
warned test start end x t e = e ∙ ap (λ b. start ++ (if b then [] else x ∷ [])) (sym t)

pub unwarned : (test : Bool) (start : List Warning) (x : Warning) → test ≡ true → start ≡ start ++ (if test then [] else x ∷ [])
unwarned test start x t = sym (append-none start) ∙ ap (λ b. start ++ (if b then [] else x ∷ [])) (sym t)

pub lack_at : (t : Tables) (g : Text) (k : ℕ) (link : LinkTable) → slice_get t.links k ≡ Some link → lack_over t link g ≡ lack_by t g k
lack_at t g k link h = sym (ap (λ o. option_map_or (λ link. lack_over t link g) o []) h)

pub lack_of_target : (t : Tables) (g : Text) (link : LinkTable) (table : PackageTable) → slice_get t.packages link.to ≡ Some table → lack_of table g ≡ lack_over t link g
lack_of_target t g link table h = sym (ap (λ o. option_map_or (λ target. lack_of target g) o []) h)

module _ (h : ℕ → List Warning) (f : LinkTable → List Warning) (test : ℕ × LinkTable → Bool) where
  -- the results of links are those of their numbers
  by_numbers : (q : ℕ) (ls : List LinkTable) → ((j : ℕ) (link : LinkTable) → slice_get ls j ≡ Some link → h (q + j) ≡ f link)
      → flat_map h (map (λ l. l.0) (filter test (numbered q ls))) ≡ flat_map (λ l. f l.1) (filter test (numbered q ls))
  by_numbers q [] same = refl
  by_numbers q (l ∷ ls) same = go (test (q, l)) (by_numbers (q + 1) ls later)
    where
      rest : List (ℕ × LinkTable)
      rest = filter test (numbered (q + 1) ls)

      first : h q ≡ f l
      first = let e : q ≡ q + 0 = omega arith in ap h e ∙ same 0 l refl

      later : (j : ℕ) (link : LinkTable) → slice_get ls j ≡ Some link → h (q + 1 + j) ≡ f link
      later j link at = let e : q + 1 + j ≡ q + suc j = omega arith in ap h e ∙ same (suc j) link at

      go : (b : Bool) → flat_map h (map (λ l. l.0) (filter test (numbered (q + 1) ls))) ≡ flat_map (λ l. f l.1) (filter test (numbered (q + 1) ls))
          → flat_map h (map {A = ℕ × LinkTable} (λ l. l.0) (cond b ((q, l) ∷ filter test (numbered (q + 1) ls)) (filter test (numbered (q + 1) ls)))) ≡ flat_map {X = ℕ × LinkTable} (λ l. f l.1) (cond b ((q, l) ∷ filter test (numbered (q + 1) ls)) (filter test (numbered (q + 1) ls)))
      go true more = ap (λ z. z ++ flat_map h (map (λ l. l.0) (filter test (numbered (q + 1) ls)))) first ∙ ap (λ z. f l ++ z) more
      go false more = more

lacked_by_numbers : (t : Tables) (p : ℕ) (d g : Text) → flat_map (lack_by t g) (link_numbers t p d) ≡ flat_map (λ l. lack_over t l.1 g) (links_named t p d)
lacked_by_numbers t p d g = by_numbers (lack_by t g) (λ link. lack_over t link g) (λ l. (l.1.from == p) && bytes_eq l.1.name d) 0 t.links (λ j link at. let e : 0 + j ≡ j = omega arith in ap (lack_by t g) e ∙ sym (lack_at t g j link at))

module _ (t : Tables) (table : PackageTable) (d g : Text) where
  none_named : (ls : List (ℕ × LinkTable)) → map {A = ℕ × LinkTable} (λ l. l.0) ls ≡ [] → lacks_over t table d g ls ≡ missing_feature table.id d ∷ []
  none_named [] h = refl
  none_named (l ∷ ls) h = cc

  some_named : (ls : List (ℕ × LinkTable)) → 0 < length (map {A = ℕ × LinkTable} (λ l. l.0) ls) → lacks_over t table d g ls ≡ flat_map (λ l. lack_over t l.1 g) ls
  some_named [] h = absurd (omega (arith, h))
  some_named (l ∷ ls) h = refl

  empty_list : (numbers : List ℕ) → length numbers ≡ 0 → numbers ≡ []
  empty_list [] h = refl
  empty_list (x ∷ xs) h = absurd (omega (arith, h))

  -- no link has the name
  pub without_links : (p : ℕ) (numbers : List ℕ) → numbers ≡ link_numbers t p d → length numbers ≡ 0 → missing_feature table.id d ∷ [] ≡ lacks_over t table d g (links_named t p d)
  without_links p numbers e l = sym (none_named (links_named t p d) (sym e ∙ empty_list numbers l))

  -- the links of these numbers have the name
  pub with_links : (p : ℕ) (numbers : List ℕ) → numbers ≡ link_numbers t p d → 0 < length numbers → flat_map (lack_by t g) numbers ≡ lacks_over t table d g (links_named t p d)
  with_links p numbers e l = ap (flat_map (lack_by t g)) e ∙ lacked_by_numbers t p d g ∙ sym (some_named (links_named t p d) (omega (arith, ap length e)))
