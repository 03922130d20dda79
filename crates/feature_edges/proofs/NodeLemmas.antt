-- Nodes, package by package.
use Rattle.std.proofs.Common.{◌≡◌, ℕ, zero, suc, ◌+◌, List, ◌∷◌, [], ◌++◌, length, map, take, Some, refl, ap, sym, ◌∙◌, arith, replicate, append_assoc, length-append, add-one}
use Rattle.std.specs.Prelude.{slice_get, flat_map}
use Rattle.std.specs.List.{range_with_len}
use Rattle.std.proofs.lemmas.List.{length-map, map-append, replicate-append-replicate}
use Rattle.guppy_packages.specs.Tables.{PackageTable, Tables}
use Rattle.feature_labels.specs.Names.LabelName.{named, optional}
use Rattle.feature_edges.specs.Nodes.{labels_of, spread, first_node, node_packages}

pub replicate-next : {X : Type 0} (n : ℕ) (x : X) → replicate n x ++ x ∷ [] ≡ replicate (n + 1) x
replicate-next n x = replicate-append-replicate n 1 x

take-suc-next : {X : Type 0} (xs : List X) (i : ℕ) (x : X) → slice_get xs i ≡ Some x → take (suc i) xs ≡ take i xs ++ x ∷ []
take-suc-next [] i x h = cc
take-suc-next (y ∷ ys) zero x h =
    let e : y ≡ x = cc in
    ap (λ z. z ∷ []) e
take-suc-next (y ∷ ys) (suc i) x h = ap (λ z. y ∷ z) (take-suc-next ys i x h)

pub take-next : {X : Type 0} (xs : List X) (i : ℕ) (x : X) → slice_get xs i ≡ Some x → take (i + 1) xs ≡ take i xs ++ x ∷ []
take-next xs i x h = ap (λ n. take n xs) (add-one i) ∙ take-suc-next xs i x h

-- one more copy of the element that is pushed repeatedly
pub pushed-next : {X : Type 0} (start before after : List X) (n : ℕ) (x : X) → before ≡ start ++ replicate n x → after ≡ before ++ x ∷ [] → after ≡ start ++ replicate (n + 1) x
pushed-next start before after n x b a = a ∙ ap (λ z. z ++ x ∷ []) b ∙ append_assoc start (replicate n x) (x ∷ []) ∙ ap (λ z. start ++ z) (replicate-next n x)

module _ {A B : Type 0} (f : A → List B) where
  pub spread-append : (q : ℕ) (xs ys : List A) → spread f q (xs ++ ys) ≡ spread f q xs ++ spread f (q + length xs) ys
  spread-append q [] ys = ap (λ z. spread f z ys) (omega arith)
  spread-append q (x ∷ xs) ys = ap (λ z. map (λ y. (q, y)) (f x) ++ z) (spread-append (q + 1) xs ys ∙ ap (λ z. spread f (q + 1) xs ++ spread f z ys) (omega arith)) ∙ sym (append_assoc (map (λ y. (q, y)) (f x)) (spread f (q + 1) xs) (spread f (q + length (x ∷ xs)) ys))

  pub length-spread : (q : ℕ) (xs : List A) → length (spread f q xs) ≡ length (flat_map f xs)
  length-spread q [] = refl
  length-spread q (x ∷ xs) =
      length-append (map {B = ℕ × B} (λ y. (q, y)) (f x)) (spread f (q + 1) xs)
      ∙ ap (λ n. n + length (spread f (q + 1) xs)) (length-map (f x) (λ y. (q, y)))
      ∙ ap (λ n. length (f x) + n) (length-spread (q + 1) xs)
      ∙ sym (length-append (f x) (flat_map f xs))

numbers_alone : {B : Type 0} (q : ℕ) (ys : List B) → map {A = ℕ × B} (λ x. x.0) (map (λ y. (q, y)) ys) ≡ replicate (length ys) q
numbers_alone q [] = refl
numbers_alone q (y ∷ ys) = ap (λ z. q ∷ z) (numbers_alone q ys)

pub append-none : {X : Type 0} (xs : List X) → xs ++ [] ≡ xs
append-none [] = refl
append-none (x ∷ xs) = ap (λ z. x ∷ z) (append-none xs)

-- the package numbers of the nodes of the packages before `p`
abbrev pub packages_before : Tables → ℕ → List ℕ
packages_before t p = map (λ x. x.0) (spread labels_of 0 (take p t.packages))

length-take-there : {X : Type 0} (xs : List X) (i : ℕ) (x : X) → slice_get xs i ≡ Some x → length (take i xs) ≡ i
length-take-there [] i x h = cc
length-take-there (y ∷ ys) zero x h = refl
length-take-there (y ∷ ys) (suc i) x h = ap suc (length-take-there ys i x h)

-- the nodes of one more package
pub packages_next : (t : Tables) (p : ℕ) (table : PackageTable) → slice_get t.packages p ≡ Some table → packages_before t (p + 1) ≡ packages_before t p ++ replicate (length (labels_of table)) p
packages_next t p table h =
    ap (λ z. map (λ x. x.0) (spread labels_of 0 z)) (take-next t.packages p table h)
    ∙ ap (map (λ x. x.0)) (spread-append labels_of 0 (take p t.packages) (table ∷ []) ∙ ap (λ z. spread labels_of 0 (take p t.packages) ++ z) (one_spread (0 + length (take p t.packages)) (omega (arith, length-take-there t.packages p table h))))
    ∙ map-append (λ x. x.0) (spread labels_of 0 (take p t.packages)) (map (λ y. (p, y)) (labels_of table))
    ∙ ap (λ z. packages_before t p ++ z) (numbers_alone p (labels_of table))
  where
    one_spread : (q : ℕ) → q ≡ p → spread labels_of q (table ∷ []) ≡ map (λ y. (p, y)) (labels_of table)
    one_spread q e = append-none (map (λ y. (q, y)) (labels_of table)) ∙ ap (λ z. map (λ y. (z, y)) (labels_of table)) e

-- their number is the first node of the next package
pub length_before : (t : Tables) (p : ℕ) → length (packages_before t p) ≡ first_node t p
length_before t p = length-map (spread labels_of 0 (take p t.packages)) (λ x. x.0) ∙ length-spread labels_of 0 (take p t.packages)

pub length_labels : (table : PackageTable) → length (labels_of table) ≡ 1 + length table.features + length table.optional_names
length_labels table =
    let named_ones : length (map (λ f. named f.name) table.features) ≡ length table.features = length-map table.features (λ f. named f.name) in
    let optional_ones : length (map (λ d. optional d) table.optional_names) ≡ length table.optional_names = length-map table.optional_names (λ d. optional d) in
    let all : length (map (λ f. named f.name) table.features ++ map (λ d. optional d) table.optional_names) ≡ length (map (λ f. named f.name) table.features) + length (map (λ d. optional d) table.optional_names) = length-append (map (λ f. named f.name) table.features) (map (λ d. optional d) table.optional_names) in
    omega arith

-- a node for the base, one for each named feature, one for each optional name
pub labels_pushed : (table : PackageTable) (p q features names : ℕ) (a b c d : List ℕ) → features ≡ length table.features → names ≡ length table.optional_names → q ≡ p
    → b ≡ a ++ replicate 1 q → c ≡ b ++ replicate features q → d ≡ c ++ replicate names q → d ≡ a ++ replicate (length (labels_of table)) p
labels_pushed table p q features names a b c d f n same first second third =
    let count : 1 + (features + names) ≡ length (labels_of table) = omega (arith, length_labels table) in
    third ∙ ap (λ z. z ++ replicate names q) second ∙ append_assoc b (replicate features q) (replicate names q)
    ∙ ap (λ z. b ++ z) (replicate-append-replicate features names q)
    ∙ ap (λ z. z ++ replicate (features + names) q) first ∙ append_assoc a (replicate 1 q) (replicate (features + names) q)
    ∙ ap (λ z. a ++ z) (replicate-append-replicate 1 (features + names) q)
    ∙ ap (λ z. a ++ replicate z q) count ∙ ap (λ z. a ++ replicate (length (labels_of table)) z) same

range-next : (a n : ℕ) → range_with_len a (suc n) ≡ range_with_len a n ++ (a + n) ∷ []
range-next a zero = ap (λ z. z ∷ []) (omega arith)
range-next a (suc n) = ap (λ z. a ∷ z) (range-next (a + 1) n ∙ ap (λ z. range_with_len (a + 1) n ++ z ∷ []) (omega arith))

-- the first node of one more package
pub firsts_next : (t : Tables) (p n : ℕ) (before after : List ℕ) → before ≡ map (first_node t) (range_with_len 0 p) → after ≡ before ++ n ∷ [] → n ≡ first_node t p → after ≡ map (first_node t) (range_with_len 0 (p + 1))
firsts_next t p n before after b a e =
    let next : 0 + p ≡ p = omega arith in
    a ∙ ap (λ z. z ++ n ∷ []) b ∙ ap (λ z. map (first_node t) (range_with_len 0 p) ++ z ∷ []) (e ∙ ap (first_node t) (sym next)) ∙ sym (map-append (first_node t) (range_with_len 0 p) ((0 + p) ∷ [])) ∙ ap (map (first_node t)) (sym (range-next 0 p)) ∙ ap (λ z. map (first_node t) (range_with_len 0 z)) (sym (add-one p))

-- the nodes of one more package are appended
pub packages_pushed : (t : Tables) (p q : ℕ) (table : PackageTable) (before after : List ℕ) → before ≡ packages_before t p → after ≡ before ++ replicate (length (labels_of table)) q → q ≡ p → slice_get t.packages p ≡ Some table → after ≡ packages_before t (p + 1)
packages_pushed t p q table before after b a same at = a ∙ ap (λ z. before ++ replicate (length (labels_of table)) z) same ∙ ap (λ z. z ++ replicate (length (labels_of table)) p) b ∙ sym (packages_next t p table at)

pub take-all : {X : Type 0} (xs : List X) → take (length xs) xs ≡ xs
take-all [] = refl
take-all (x ∷ xs) = ap (λ z. x ∷ z) (take-all xs)

-- the nodes before the end are all nodes
pub packages_all : (t : Tables) (n : ℕ) → n ≡ length t.packages → packages_before t n ≡ node_packages t
packages_all t n e = ap (packages_before t) e ∙ ap (λ z. map (λ x. x.0) (spread labels_of 0 z)) (take-all t.packages)

-- there are as many nodes before `p` as the number of its first node
pub count_before : (t : Tables) (p : ℕ) (before : List ℕ) → before ≡ packages_before t p → length before ≡ first_node t p
count_before t p before b = ap length b ∙ length_before t p
