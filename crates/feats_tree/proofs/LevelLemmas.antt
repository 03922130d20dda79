-- The levels above the branches of trees.
use Rattle.std.proofs.Common.{◌≡◌, ◌∙◌, ap, sym, refl, subst, append_assoc, ℕ, zero, suc, ◌+◌, ◌-◌, ◌<◌, ◌≤◌, List, [], ◌∷◌, ◌++◌, take, drop, length, get_or, flat_map, Bool, true, false, cond, not, nat_eq, arith, ⊎_elim, ◌⊎◌}
use Rattle.std.proofs.lemmas.Bool.{lt-ltb}
use Rattle.std.proofs.lemmas.List.{drop_more, length_push, take-append-drop, take-append-le, take_all}
use Rattle.feats_tree.specs.trees.Branches.{AreTrees, StepsFrom, goes_on}
use Rattle.feats_tree.specs.trees.Lines.{bar, gap, line_of, lines_from, levels, marks, shown_title, star, tee}
use Rattle.feats_tree.specs.trees.Titles.{TitleText}
use Rattle.feats_tree.specs.trees.inner.Levels.{above, line_by, marks_by, with_level}
use Rattle.feats_tree.specs.declared.trees.trees.Branch.{Branch}

length_levels : (n : ℕ) (after : List Branch) → length (levels n after) ≡ n
length_levels zero after = refl
length_levels (suc n) after = let e : length (levels n after) ≡ n = length_levels n after in let k : length (levels n after ++ goes_on (suc n) after ∷ []) ≡ length (levels n after) + 1 = length_push (levels n after) (goes_on (suc n) after) in omega arith

below_or_all : (m n : ℕ) → m ≤ suc n → (m ≤ n) ⊎ (m ≡ suc n)
below_or_all m n h = grind arith

take_levels : (m n : ℕ) (after : List Branch) → m ≤ n → take m (levels n after) ≡ levels m after
take_levels m zero after h = let e : m ≡ 0 = omega arith in ap (λ k. take k []) e ∙ ap (λ k. levels k after) (sym e)
take_levels m (suc n) after h = ⊎_elim (λ k. lower k (take_levels m n after k)) whole (below_or_all m n h)
  where
    lower : m ≤ n → take m (levels n after) ≡ levels m after → take m (levels n after ++ goes_on (suc n) after ∷ []) ≡ levels m after
    lower k h = let e : length (levels n after) ≡ n = length_levels n after in let le : m ≤ length (levels n after) = omega arith in
        take-append-le m (levels n after) (goes_on (suc n) after ∷ []) le ∙ h

    whole : m ≡ suc n → take m (levels (suc n) after) ≡ levels m after
    whole e = let l : length (levels (suc n) after) ≡ suc n = length_levels (suc n) after in let le : length (levels (suc n) after) ≤ m = omega arith in
        take_all m (levels (suc n) after) le ∙ ap (λ k. levels k after) (sym e)

-- a branch doesn't change the levels above it
levels_past : (n : ℕ) (b : Branch) (after : List Branch) → n < b.depth → levels n (b ∷ after) ≡ levels n after
levels_past zero b after h = refl
levels_past (suc n) b after h =
    let k : n < b.depth = omega arith in
    ap (λ z. z ++ goes_on (suc n) (b ∷ after) ∷ []) (levels_past n b after k)
    ∙ ap (λ t. levels n after ++ cond t (goes_on (suc n) after) (nat_eq b.depth (suc n)) ∷ []) (lt-ltb (suc n) b.depth h)

not_not : (t : Bool) → not (not t) ≡ t
not_not true = refl
not_not false = refl

above_is : (n : ℕ) (b : Branch) (after : List Branch) (kept : List Bool) → b.depth ≡ suc n → n ≤ length kept → kept ≡ levels (length kept) (b ∷ after) → above (suc n) kept ≡ levels n after
above_is n b after kept d le is =
    let e : suc n - 1 ≡ n = omega arith in
    ap (λ k. take k kept) e ∙ ap (take n) is ∙ take_levels n (length kept) (b ∷ after) le ∙ levels_past n b after (let h : n < b.depth = omega arith in h)

-- the marks before the title of a branch, by the levels of the branch before it
marks_are : (d room : ℕ) (b : Branch) (after : List Branch) (kept : List Bool) → b.depth ≡ d → d ≤ room → room ≤ length kept + 1
    → kept ≡ levels (length kept) (b ∷ after) → b.is_last ≡ not (goes_on d after) → marks_by d (above d kept) b.is_last ≡ marks d after
marks_are zero room b after kept e le le_room is last = refl
marks_are (suc n) room b after kept e le le_room is last =
    let k : n ≤ length kept = omega arith in
    ap (λ z. flat_map bar z ++ tee (not b.is_last)) (above_is n b after kept e k is) ∙ ap (λ t. flat_map bar (levels n after) ++ tee (not t)) last ∙ ap (λ t. flat_map bar (levels n after) ++ tee t) (not_not (goes_on (suc n) after))

levels_are : (d room : ℕ) (b : Branch) (after : List Branch) (kept : List Bool) → b.depth ≡ d → d ≤ room → room ≤ length kept + 1
    → kept ≡ levels (length kept) (b ∷ after) → b.is_last ≡ not (goes_on d after) → with_level d (above d kept) b.is_last ≡ levels d after
levels_are zero room b after kept e le le_room is last = let z : 0 - 1 ≡ 0 = omega arith in ap (λ k. take k kept) z
levels_are (suc n) room b after kept e le le_room is last =
    let k : n ≤ length kept = omega arith in
    ap (λ z. z ++ not b.is_last ∷ []) (above_is n b after kept e k is) ∙ ap (λ t. levels n after ++ not t ∷ []) last ∙ ap (λ t. levels n after ++ t ∷ []) (not_not (goes_on (suc n) after))

-- the levels that are kept fit the branches that follow
pub record FitLevels (kept : List Bool) (rest : List Branch) : Type 0 where
  pub room : ℕ
  pub within : room ≤ length kept + 1
  pub steps : StepsFrom room rest
  pub are_levels : kept ≡ levels (length kept) rest

pub fits_first : (branches : List Branch) → AreTrees branches → FitLevels [] branches
fits_first branches are = record { room = 0; within = let h : 0 ≤ 0 + 1 = omega arith in h; steps = are.steps; are_levels = refl }

step_fits : (b : Branch) (after : List Branch) (kept new : List Bool) → FitLevels kept (b ∷ after) → b.is_last ≡ not (goes_on b.depth after)
    → new ≡ with_level b.depth (above b.depth kept) b.is_last → FitLevels new after
step_fits b after kept new fits last is = record {
  room = b.depth + 1;
  within = let l : length new ≡ b.depth = long in let h : b.depth + 1 ≤ length new + 1 = omega arith in h;
  steps = fits.steps.1;
  are_levels = are ∙ ap (λ n. levels n after) (sym long);
}
  where
    are : new ≡ levels b.depth after
    are = is ∙ levels_are b.depth fits.room b after kept refl fits.steps.0 fits.within fits.are_levels last

    long : length new ≡ b.depth
    long = ap length are ∙ length_levels b.depth after

line_is : (titles : List TitleText) (first : Bool) (b : Branch) (after : List Branch) (kept : List Bool) → FitLevels kept (b ∷ after) → b.is_last ≡ not (goes_on b.depth after)
    → line_by titles first b kept ≡ line_of titles first b after
line_is titles first b after kept fits last =
    ap (λ z. gap first b.depth ++ (z ++ (shown_title titles b.node ++ (star b.is_again ++ 10 ∷ [])))) (marks_are b.depth fits.room b after kept refl fits.steps.0 fits.within fits.are_levels last)

split_at : (branches : List Branch) (i : ℕ) (d : Branch) → i < length branches → branches ≡ take i branches ++ get_or branches i d ∷ drop (i + 1) branches
split_at branches i d h = sym (take-append-drop i branches) ∙ ap (λ z. take i branches ++ z) (drop_more branches i d h)

last_is : (branches : List Branch) (i : ℕ) (d : Branch) → AreTrees branches → i < length branches → (get_or branches i d).is_last ≡ not (goes_on (get_or branches i d).depth (drop (i + 1) branches))
last_is branches i d are h = are.is_last (take i branches) (drop (i + 1) branches) (get_or branches i d) (split_at branches i d h)

-- one more line: the levels
pub fits_more : (branches : List Branch) (i : ℕ) (d : Branch) (kept new : List Bool) → AreTrees branches → i < length branches → FitLevels kept (drop i branches)
    → new ≡ with_level (get_or branches i d).depth (above (get_or branches i d).depth kept) (get_or branches i d).is_last → FitLevels new (drop (i + 1) branches)
fits_more branches i d kept new are h fits now =
    step_fits (get_or branches i d) (drop (i + 1) branches) kept new (subst (FitLevels kept) (drop_more branches i d h) fits) (last_is branches i d are h) now

-- one more line: the text
pub lines_more : (titles : List TitleText) (branches : List Branch) (i : ℕ) (d : Branch) (kept : List Bool) (first : Bool) (all old new : List ℕ) → AreTrees branches → i < length branches
    → FitLevels kept (drop i branches) → old ++ lines_from titles first (drop i branches) ≡ all → new ≡ old ++ line_by titles first (get_or branches i d) kept
    → new ++ lines_from titles false (drop (i + 1) branches) ≡ all
lines_more titles branches i d kept first all old new are h fits text now =
    ap (λ z. z ++ lines_from titles false (drop (i + 1) branches)) now
    ∙ append_assoc old (line_by titles first (get_or branches i d) kept) (lines_from titles false (drop (i + 1) branches))
    ∙ ap (λ z. old ++ (z ++ lines_from titles false (drop (i + 1) branches)))
    (line_is titles first (get_or branches i d) (drop (i + 1) branches) kept (subst (FitLevels kept) (drop_more branches i d h) fits) (last_is branches i d are h))
    ∙ ap (λ z. old ++ lines_from titles first z) (sym (drop_more branches i d h))
    ∙ text
