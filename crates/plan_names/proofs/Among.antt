-- Parts in packages.
use Rattle.std.proofs.Common.{◌≡◌, ℕ, ◌+◌, ◌<◌, ◌≤◌, List, [], ◌∷◌, ◌++◌, Bool, true, false, cond, ◌&&◌, Some, length, map, get_or, replicate, refl, ap, sym, subst, ◌∙◌, arith}
use Rattle.std.specs.Prelude.{Result, Ok, Err, IfOk, IfErr, nat_eq, nat_lt}
use Rattle.std.specs.List.{after_last, before_last, list_all, list_any}
use Rattle.std.proofs.lemmas.List.{get_or-replicate}
use Rattle.std.proofs.lemmas.Bool.{lt-ltb, ltb-true}
use Rattle.cargo_workspaces.specs.Workspaces.{PackageText, Text}
use Rattle.plan_words.specs.FeatureWords.{is_slash}
use Rattle.plan_words.specs.PackageWords.{has_id, is_named, numbers_from, packages_of_word}
use Rattle.plan_words.specs.PackageWords as words
use Rattle.plan_names.specs.Faults.{NameRefusal, several, unknown, out_of_memory, Gives, IfNotMemory, candidates_of, named_of, refusal_of, the_package}
use Rattle.plan_names.specs.Names.{NamedText, PartText, candidates, has_star, of_package, or_else, parts_among, parts_anywhere, parts_by_name, parts_called, parts_from, whole, whole_packages}
use Rattle.plan_names.specs.declared.fault.NameFault.{NameFault}
use Rattle.plan_names.specs.inner.Cuts.{CutText, cut_of}
use Rattle.plan_names.specs.inner.Marks.{Marks}
use Rattle.plan_names.proofs.Cuts.{cut_is}

-- tests that agree on the numbers of the packages
parts_same : (s t : ℕ → Bool) (name : Text) (k : ℕ) (ps : List PackageText) → ((n : ℕ) → k ≤ n → n < k + length ps → s n ≡ t n) → parts_from s name k ps ≡ parts_from t name k ps
parts_same s t name k [] h = refl
parts_same s t name k (p ∷ ps) h =
    ap (λ b. cond b (map (of_package k) (parts_called name p)) [] ++ parts_from s name (k + 1) ps) (h k (omega arith) (omega arith))
    ∙ ap (λ rest. cond (t k) (map (of_package k) (parts_called name p)) [] ++ rest) (parts_same s t name (k + 1) ps (λ n low high. h n (omega (arith, low)) (omega (arith, high))))

pub among_is : {V E : Type 0} (r : Result V E) (items : V → List NamedText) (n : ℕ) (list xs : List Bool) (numbers : List ℕ) (name : Text) (ps qs : List PackageText)
    → n ≡ length qs → xs ≡ list → Marks n list numbers → ps ≡ qs → IfOk r (λ v. items v ≡ parts_from (λ k. get_or xs k false) name 0 ps) → IfOk r (λ v. items v ≡ parts_among qs numbers name)
among_is (Ok v) items n list xs numbers name ps qs count same marks is h =
    h ∙ ap (parts_from (λ k. get_or xs k false) name 0) is
    ∙ parts_same (λ k. get_or xs k false) (λ k. list_any (nat_eq k) numbers) name 0 qs (λ k low high. ap (λ (l : List Bool). get_or l k false) same ∙ marks.at k (omega (arith, count, high)))
among_is (Err e) items n list xs numbers name ps qs count same marks is h = tt

pub anywhere_is : {V E : Type 0} (r : Result V E) (items : V → List NamedText) (n : ℕ) (list xs : List Bool) (name : Text) (ps qs : List PackageText)
    → n ≡ length qs → xs ≡ list → list ≡ replicate n true → ps ≡ qs → IfOk r (λ v. items v ≡ parts_from (λ k. get_or xs k false) name 0 ps) → IfOk r (λ v. items v ≡ parts_anywhere qs name)
anywhere_is (Ok v) items n list xs name ps qs count same marks is h =
    h ∙ ap (parts_from (λ k. get_or xs k false) name 0) is
    ∙ parts_same (λ k. get_or xs k false) (λ k. true) name 0 qs (λ k low high. ap (λ (l : List Bool). get_or l k false) (same ∙ marks) ∙ get_or-replicate n k true false (omega (arith, count, high)))
anywhere_is (Err e) items n list xs name ps qs count same marks is h = tt

-- a word that is cut
pub by_cut : {V E : Type 0} (r : Result V E) (items : V → List NamedText) (packages : List PackageText) (selected : List ℕ) (word : Text) (x : CutText) → Some x ≡ cut_of word
    → IfOk r (λ v. items v ≡ parts_among packages (packages_of_word packages x.front) x.name) → IfOk r (λ v. items v ≡ parts_by_name packages selected word)
by_cut (Ok v) items packages selected word x e h =
    let facts = cut_is word x e in
    h ∙ ap (λ (t : Text). parts_among packages (packages_of_word packages t) x.name) facts.1
    ∙ ap (λ (t : Text). parts_among packages (packages_of_word packages (before_last is_slash word)) t) facts.2
    ∙ sym (ap (λ b. cond b (parts_among packages (packages_of_word packages (before_last is_slash word)) (after_last is_slash word)) (or_else (parts_among packages selected word) (parts_anywhere packages word))) facts.0)
by_cut (Err d) items packages selected word x e h = tt

-- every candidate is in a package of the workspace
below : ℕ → NamedText → Bool
below count n = nat_lt n.owner count

go_append : (b c d : Bool) → (b && c) ≡ true → (c ≡ true → d ≡ true) → (b && d) ≡ true
go_append true c d e k = k e
go_append false c d e k = cc

all_append : (p : NamedText → Bool) (xs ys : List NamedText) → list_all p xs ≡ true → list_all p ys ≡ true → list_all p (xs ++ ys) ≡ true
all_append p [] ys h k = k
all_append p (x ∷ xs) ys h k = go_append (p x) (list_all p xs) (list_all p (xs ++ ys)) h (λ e. all_append p xs ys e k)

wholes_below : {X : Type 0} (test : X → Bool) (k count : ℕ) (xs : List X) → k + length xs ≤ count → list_all (below count) (map (λ (n : ℕ). of_package n whole) (numbers_from test k xs)) ≡ true
unfolding below
wholes_below test k count [] h = refl
wholes_below test k count (x ∷ xs) h = go (test x) (wholes_below test (k + 1) count xs (omega (arith, h)))
  where
    go : (b : Bool) → list_all (below count) (map (λ (n : ℕ). of_package n whole) (numbers_from test (k + 1) xs)) ≡ true
        → list_all (below count) (map (λ (n : ℕ). of_package n whole) (cond b (k ∷ numbers_from test (k + 1) xs) (numbers_from test (k + 1) xs))) ≡ true
    go true more = ap (λ b. b && list_all (below count) (map (λ (n : ℕ). of_package n whole) (numbers_from test (k + 1) xs))) (lt-ltb k count (omega (arith, h))) ∙ more
    go false more = more

either_below : (count : ℕ) (xs ys : List ℕ) → list_all (below count) (map (λ (n : ℕ). of_package n whole) xs) ≡ true → list_all (below count) (map (λ (n : ℕ). of_package n whole) ys) ≡ true
    → list_all (below count) (map (λ (n : ℕ). of_package n whole) (words.or_else xs ys)) ≡ true
either_below count [] ys h k = k
either_below count (x ∷ xs) ys h k = h

packages_below : (packages : List PackageText) (word : Text) → list_all (below (length packages)) (whole_packages packages word) ≡ true
packages_below packages word =
    either_below (length packages) (numbers_from (has_id word) 0 packages) (numbers_from (is_named word) 0 packages)
    (wholes_below (has_id word) 0 (length packages) packages (omega arith)) (wholes_below (is_named word) 0 (length packages) packages (omega arith))

owned_below : (k count : ℕ) (parts : List PartText) → k < count → list_all (below count) (map (of_package k) parts) ≡ true
unfolding below
owned_below k count [] h = refl
owned_below k count (part ∷ parts) h = ap (λ b. b && list_all (below count) (map (of_package k) parts)) (lt-ltb k count h) ∙ owned_below k count parts h

chosen_below : (b : Bool) (k count : ℕ) (parts : List PartText) → k < count → list_all (below count) (cond b (map (of_package k) parts) []) ≡ true
chosen_below true k count parts h = owned_below k count parts h
chosen_below false k count parts h = refl

parts_below : (test : ℕ → Bool) (name : Text) (k count : ℕ) (ps : List PackageText) → k + length ps ≤ count → list_all (below count) (parts_from test name k ps) ≡ true
parts_below test name k count [] h = refl
parts_below test name k count (p ∷ ps) h =
    all_append (below count) (cond (test k) (map (of_package k) (parts_called name p)) []) (parts_from test name (k + 1) ps)
    (chosen_below (test k) k count (parts_called name p) (omega (arith, h))) (parts_below test name (k + 1) count ps (omega (arith, h)))

or_else_below : (p : NamedText → Bool) (xs ys : List NamedText) → list_all p xs ≡ true → list_all p ys ≡ true → list_all p (or_else xs ys) ≡ true
or_else_below p [] ys h k = k
or_else_below p (x ∷ xs) ys h k = h

cond_below : (p : NamedText → Bool) (b : Bool) (xs ys : List NamedText) → list_all p xs ≡ true → list_all p ys ≡ true → list_all p (cond b xs ys) ≡ true
cond_below p true xs ys h k = h
cond_below p false xs ys h k = k

pub candidates_below : (packages : List PackageText) (selected : List ℕ) (word : Text) → list_all (λ (n : NamedText). nat_lt n.owner (length packages)) (candidates packages selected word) ≡ true
unfolding below
candidates_below packages selected word =
    let count = length packages in
    let cut = packages_of_word packages (before_last is_slash word) in
    or_else_below (below count) (whole_packages packages word) (parts_by_name packages selected word) (packages_below packages word)
    (cond_below (below count) (list_any is_slash word) (parts_among packages cut (after_last is_slash word)) (or_else (parts_among packages selected word) (parts_anywhere packages word))
    (parts_below (λ k. list_any (nat_eq k) cut) (after_last is_slash word) 0 count packages (omega arith))
    (or_else_below (below count) (parts_among packages selected word) (parts_anywhere packages word)
    (parts_below (λ k. list_any (nat_eq k) selected) word 0 count packages (omega arith))
    (parts_below (λ k. true) word 0 count packages (omega arith))))

pub whole_below : (packages : List PackageText) (word : Text) → list_all (λ (n : NamedText). nat_lt n.owner (length packages)) (whole_packages packages word) ≡ true
unfolding below
whole_below packages word = packages_below packages word

-- what is named passes a test that all candidates pass
Kept : (NamedText → Bool) → Result (List NamedText) NameRefusal → Type 0
Kept p (Ok xs) = list_all p xs ≡ true
Kept p (Err e) = list_all p (candidates_of e) ≡ true

named_kept : (p : NamedText → Bool) (word : Text) (xs : List NamedText) → list_all p xs ≡ true → Kept p (named_of word xs)
unfolding Kept
named_kept p word [] h = refl
named_kept p word (x ∷ []) h = h
named_kept p word (x ∷ y ∷ more) h = go (has_star word)
  where
    go : (b : Bool) → Kept p (cond b (Ok (x ∷ y ∷ more)) (Err (several word (x ∷ y ∷ more))))
    go true = h
    go false = h

memory_kept : {V : Type 0} (view : V → List NamedText) (p : NamedText → Bool) (e : NameRefusal) (given : Result (List NamedText) NameRefusal) → Kept p given → IfNotMemory e (given ≡ Err e) → list_all p (candidates_of e) ≡ true
unfolding Kept
memory_kept view p (unknown word) given h is = refl
memory_kept view p (several word xs) given h is = subst (Kept p) is h
memory_kept view p out_of_memory given h is = refl

pub named_below : {V : Type 0} (view : V → List NamedText) (p : NamedText → Bool) (word : Text) (xs : List NamedText) (r : Result V NameFault) → list_all p xs ≡ true → Gives view r (named_of word xs) → IfOk r (λ v. list_all p (view v) ≡ true)
unfolding Kept
named_below view p word xs (Ok v) h is = subst (Kept p) is (named_kept p word xs h)
named_below view p word xs (Err e) h is = tt

pub listed_below : {V : Type 0} (view : V → List NamedText) (p : NamedText → Bool) (word : Text) (xs : List NamedText) (r : Result V NameFault) → list_all p xs ≡ true → Gives view r (named_of word xs) → IfErr r (λ e. list_all p (candidates_of (refusal_of e)) ≡ true)
listed_below view p word xs (Ok v) h is = tt
listed_below view p word xs (Err e) h is = memory_kept view p (refusal_of e) (named_of word xs) (named_kept p word xs h) is

-- the same of one package
KeptOne : ℕ → Result ℕ NameRefusal → Type 0
KeptOne count (Ok n) = n < count
KeptOne count (Err e) = list_all (λ (n : NamedText). nat_lt n.owner count) (candidates_of e) ≡ true

first_below : (a b : Bool) → (a && b) ≡ true → a ≡ true
first_below true b h = refl
first_below false b h = cc

one_kept : (count : ℕ) (word : Text) (xs : List NamedText) → list_all (λ (n : NamedText). nat_lt n.owner count) xs ≡ true → KeptOne count (the_package word xs)
unfolding KeptOne
one_kept count word [] h = refl
one_kept count word (x ∷ []) h = ltb-true x.owner count (first_below (nat_lt x.owner count) _ h)
one_kept count word (x ∷ y ∷ more) h = h

one_listed : (count : ℕ) (e : NameRefusal) (given : Result ℕ NameRefusal) → KeptOne count given → IfNotMemory e (given ≡ Err e) → list_all (λ (n : NamedText). nat_lt n.owner count) (candidates_of e) ≡ true
unfolding KeptOne
one_listed count (unknown word) given h is = refl
one_listed count (several word xs) given h is = subst (KeptOne count) is h
one_listed count out_of_memory given h is = refl

pub package_below : (count : ℕ) (word : Text) (xs : List NamedText) (r : Result ℕ NameFault) → list_all (λ (n : NamedText). nat_lt n.owner count) xs ≡ true → Gives (λ p. p) r (the_package word xs) → IfOk r (λ p. p < count)
unfolding KeptOne
package_below count word xs (Ok n) h is = subst (KeptOne count) is (one_kept count word xs h)
package_below count word xs (Err e) h is = tt

pub package_listed : (count : ℕ) (word : Text) (xs : List NamedText) (r : Result ℕ NameFault) → list_all (λ (n : NamedText). nat_lt n.owner count) xs ≡ true → Gives (λ p. p) r (the_package word xs) → IfErr r (λ e. list_all (λ (n : NamedText). nat_lt n.owner count) (candidates_of (refusal_of e)) ≡ true)
package_listed count word xs (Ok n) h is = tt
package_listed count word xs (Err e) h is = one_listed count (refusal_of e) (the_package word xs) (one_kept count word xs h) is
