-- Numbers of packages.
use Rattle.std.proofs.Common.{◌≡◌, ℕ, ◌+◌, ◌<◌, ◌≤◌, List, [], ◌∷◌, ◌++◌, Bool, true, false, cond, ◌&&◌, length, refl, ap, sym, ◌∙◌, append_assoc, arith}
use Rattle.std.specs.Prelude.{Result, Ok, Err, IfOk, nat_lt}
use Rattle.std.specs.List.{list_all, AllByRecursion}
use Rattle.std.proofs.lemmas.Bool.{lt-ltb}
use Rattle.cargo_workspaces.specs.Workspaces.{Text, PackageText, WorkspaceText}
use Rattle.plan_words.proofs.Lists.{list_all-filter}
use Rattle.plan_words.specs.Refusals.{Gives, Refusal, ◌>>=◌}
use Rattle.plan_words.specs.declared.fault.WordFault.{WordFault}
use Rattle.plan_words.specs.PackageWords.{has_fitting_name, has_id, is_named, members_fitting, numbers_from, or_else, packages_of_word, selected_by, selected_by_words, selected_of}

Within : ℕ → List ℕ → Type 0
Within n xs = AllByRecursion (λ x. x < n) xs

numbers_more : (n k : ℕ) (rest : List ℕ) (b : Bool) → k < n → Within n rest → Within n (cond b (k ∷ rest) rest)
unfolding Within
numbers_more n k rest true l h = (l, h)
numbers_more n k rest false l h = h

numbers_within : {X : Type 0} (test : X → Bool) (k n : ℕ) (xs : List X) → k + length xs ≤ n → Within n (numbers_from test k xs)
unfolding Within
numbers_within test k n [] h = tt
numbers_within test k n (x ∷ xs) h = numbers_more n k (numbers_from test (k + 1) xs) (test x) (omega arith) (numbers_within test (k + 1) n xs (omega arith))

or_else_within : (n : ℕ) (xs ys : List ℕ) → Within n xs → Within n ys → Within n (or_else xs ys)
or_else_within n [] ys h k = k
or_else_within n (x ∷ xs) ys h k = h

all_below : (n : ℕ) (xs : List ℕ) → Within n xs → list_all (λ p. nat_lt p n) xs ≡ true
unfolding Within
all_below n [] h = refl
all_below n (x ∷ xs) h = ap (λ b. b && list_all (λ p. nat_lt p n) xs) (lt-ltb x n h.0) ∙ all_below n xs h.1

-- the packages that a word names are some of the packages
named_below : (packages : List PackageText) (word : Text) → list_all (λ p. nat_lt p (length packages)) (packages_of_word packages word) ≡ true
named_below packages word =
    let n = length packages in
    all_below n (packages_of_word packages word)
    (or_else_within n (numbers_from (has_id word) 0 packages) (numbers_from (is_named word) 0 packages) (numbers_within (has_id word) 0 n packages (omega arith)) (numbers_within (is_named word) 0 n packages (omega arith)))

-- what a word selects passes a test that all that it names or fits pass
selected_pass : (p : ℕ → Bool) (word : Text) (named fitting ns : List ℕ) → list_all p named ≡ true → list_all p fitting ≡ true → selected_of word named fitting ≡ Ok ns → list_all p ns ≡ true
selected_pass p word (x ∷ []) fitting ns h k e = let same : x ∷ [] ≡ ns = cc in ap (list_all p) (sym same) ∙ h
selected_pass p word (x ∷ y ∷ more) fitting ns h k e = absurd (cc)
selected_pass p word [] [] ns h k e = absurd (cc)
selected_pass p word [] (m ∷ ms) ns h k e = let same : m ∷ ms ≡ ns = cc in ap (list_all p) (sym same) ∙ k

pub selected_below : {V : Type 0} (items : V → List ℕ) (w : WorkspaceText) (word : Text) (r : Result V WordFault) → list_all (λ p. nat_lt p (length w.packages)) w.members ≡ true
    → Gives items r (selected_by w word) → IfOk r (λ v. list_all (λ p. nat_lt p (length w.packages)) (items v) ≡ true)
selected_below items w word (Ok v) h e = selected_pass (λ p. nat_lt p (length w.packages)) word (packages_of_word w.packages word) (members_fitting w word) (items v) (named_below w.packages word)
    (list_all-filter (λ p. nat_lt p (length w.packages)) (has_fitting_name w word) w.members h) e
selected_below items w word (Err d) h e = tt

-- one more word
pub one_more_word : (w : WorkspaceText) (word : Text) (words : List Text) (items more : List ℕ) → selected_by w word ≡ Ok more
    → (selected_by_words w (word ∷ words) >>= λ rest. Ok (items ++ rest)) ≡ (selected_by_words w words >>= λ rest. Ok ((items ++ more) ++ rest))
one_more_word w word words items more e =
    ap (λ (r : Result (List ℕ) Refusal). (r >>= λ ps. selected_by_words w words >>= λ qs. Ok (ps ++ qs)) >>= λ rest. Ok (items ++ rest)) e
    ∙ go (selected_by_words w words)
  where
    go : (r : Result (List ℕ) Refusal) → ((r >>= λ qs. Ok (more ++ qs)) >>= λ rest. Ok (items ++ rest)) ≡ (r >>= λ rest. Ok ((items ++ more) ++ rest))
    go (Ok qs) = ap (λ (xs : List ℕ). Ok xs) (sym (append_assoc items more qs))
    go (Err d) = refl
