-- What is shown of the differences.
use Rattle.std.proofs.Common.{◌≡◌, ◌∙◌, sym, ap, ℕ, ◌+◌, ◌<◌, Bool, true, false, List, [], ◌∷◌, ◌++◌, cond, append_assoc, drop, get_or, length, map, add-one, drop-cons, refl, String}
use Rattle.std.proofs.lemmas.List.{drop-map, length-map}
use Rattle.std.specs.Borrow.{Bor}
use Rattle.std.specs.String.{string_bytes}
use Rattle.std.specs.declared.alloc.Global.{Global}
use Rattle.cargo_workspaces.specs.Views.{texts}
use Rattle.cargo_workspaces.specs.Workspaces.{Text}
use Rattle.feats_diff.specs.texts.Shown.{DifferenceText, gone}
use Rattle.feats_diff.specs.texts.Views.{difference_text}
use Rattle.feats_diff.specs.declared.texts.shown.Difference.{Difference}
use Rattle.feats.specs.comparisons.differences.Shown.{all_shown, change_shown, changes_shown, comes_from, is_shown, shown_of}
use Rattle.feats.specs.comparisons.differences.Views.{whys_text}
use Rattle.feats.specs.declared.comparisons.differences.whys.Whys.{Whys}
use Rattle.feats_diff.specs.changes.Views.{change_text, differences_text, part_text}
use Rattle.feats_diff.specs.declared.changes.comparing.Differences.{Differences}
use Rattle.feats_diff.specs.declared.changes.feature_changes.Change.{Change}
use Rattle.feats_diff.specs.declared.changes.parts.Part.{Part}

rest_texts : (left : List (String Global)) (names : List (Bor Text)) → map string_bytes (drop (length names) left) ≡ drop (length (texts names)) (map string_bytes left)
rest_texts left names = sym (ap (λ n. drop n (map string_bytes left)) (length-map names (λ t. t.now)) ∙ drop-map string_bytes (length names) left)

-- one more change
pub changes_more : (all : Bool) (changes : List Change) (i : ℕ) (x : Change) (left rest : List (String Global)) (names : List (Bor Text)) (whole shown new : List DifferenceText) → i < length changes → x ≡ get_or changes i x
    → whole ≡ shown ++ changes_shown all (map string_bytes left) (map change_text (drop i changes)) → new ≡ shown ++ cond (is_shown all (change_text x)) (change_shown (map string_bytes left) (change_text x) ∷ []) []
    → names ≡ x.comes.items → rest ≡ drop (length names) left
    → whole ≡ new ++ changes_shown all (map string_bytes rest) (map change_text (drop (i + 1) changes))
changes_more all changes i x left rest names whole shown new within is so grown named is_rest =
    let at : drop i changes ≡ x ∷ drop (i + 1) changes = (rw (add-one, drop-cons changes i x within) refl) ∙ ap (λ (y : Change). y ∷ drop (i + 1) changes) (sym is) in
    let later : List Text → List DifferenceText = λ ws. changes_shown all ws (map change_text (drop (i + 1) changes)) in
    let one : List DifferenceText = cond (is_shown all (change_text x)) (change_shown (map string_bytes left) (change_text x) ∷ []) [] in
    let ws : map string_bytes rest ≡ drop (length (texts x.comes.items)) (map string_bytes left) = ap (map string_bytes) is_rest ∙ rest_texts left names ∙ ap (λ (ns : List (Bor Text)). drop (length (texts ns)) (map string_bytes left)) named in
    so ∙ ap (λ (cs : List Change). shown ++ changes_shown all (map string_bytes left) (map change_text cs)) at
    ∙ sym (append_assoc shown one (later (drop (length (texts x.comes.items)) (map string_bytes left))))
    ∙ ap (λ (z : List DifferenceText). z ++ later (drop (length (texts x.comes.items)) (map string_bytes left))) (sym grown)
    ∙ ap (λ (t : List Text). new ++ later t) (sym ws)

-- all lists, read through references
pub shown_all : (d : Differences) (w : Whys) (comes went : List Part) (moved kept : List Change) (parts_whys moved_whys kept_whys : List (String Global)) → comes ≡ d.comes.items → went ≡ d.gone.items → moved ≡ d.moved.items → kept ≡ d.kept.items
    → parts_whys ≡ w.parts.items → moved_whys ≡ w.moved.items → kept_whys ≡ w.kept.items → (a b c e : List DifferenceText)
    → (start : List Difference) → start ≡ [] → a ≡ map difference_text start ++ comes_from (map string_bytes parts_whys) 0 (map part_text comes) → b ≡ a ++ map (λ p. gone (shown_of p)) (map part_text went)
    → c ≡ b ++ changes_shown true (map string_bytes moved_whys) (map change_text moved) → e ≡ c ++ changes_shown false (map string_bytes kept_whys) (map change_text kept)
    → e ≡ all_shown (differences_text d) (whys_text w)
shown_all d w comes went moved kept parts_whys moved_whys kept_whys h1 h2 h3 h4 h5 h6 h7 a b c e start none is_a is_b is_c is_e =
    let la : List DifferenceText = comes_from (map string_bytes w.parts.items) 0 (map part_text d.comes.items) in
    let lb : List DifferenceText = map (λ p. gone (shown_of p)) (map part_text d.gone.items) in
    let lc : List DifferenceText = changes_shown true (map string_bytes w.moved.items) (map change_text d.moved.items) in
    let le : List DifferenceText = changes_shown false (map string_bytes w.kept.items) (map change_text d.kept.items) in
    let ea : a ≡ la = is_a ∙ ap (λ (ds : List Difference). map difference_text ds ++ comes_from (map string_bytes parts_whys) 0 (map part_text comes)) none ∙ ap (λ (ws : List (String Global)). comes_from (map string_bytes ws) 0 (map part_text comes)) h5 ∙ ap (λ (ps : List Part). comes_from (map string_bytes w.parts.items) 0 (map part_text ps)) h1 in
    let eb : b ≡ la ++ lb = is_b ∙ ap (λ (z : List DifferenceText). z ++ map (λ p. gone (shown_of p)) (map part_text went)) ea ∙ ap (λ (ps : List Part). la ++ map (λ p. gone (shown_of p)) (map part_text ps)) h2 in
    let ec : c ≡ (la ++ lb) ++ lc = is_c ∙ ap (λ (z : List DifferenceText). z ++ changes_shown true (map string_bytes moved_whys) (map change_text moved)) eb
    ∙ ap (λ (ws : List (String Global)). (la ++ lb) ++ changes_shown true (map string_bytes ws) (map change_text moved)) h6 ∙ ap (λ (cs : List Change). (la ++ lb) ++ changes_shown true (map string_bytes w.moved.items) (map change_text cs)) h3 in
    let ee : e ≡ ((la ++ lb) ++ lc) ++ le = is_e ∙ ap (λ (z : List DifferenceText). z ++ changes_shown false (map string_bytes kept_whys) (map change_text kept)) ec
    ∙ ap (λ (ws : List (String Global)). ((la ++ lb) ++ lc) ++ changes_shown false (map string_bytes ws) (map change_text kept)) h7 ∙ ap (λ (cs : List Change). ((la ++ lb) ++ lc) ++ changes_shown false (map string_bytes w.kept.items) (map change_text cs)) h4 in
    ee ∙ append_assoc (la ++ lb) lc le ∙ append_assoc la lb (lc ++ le)
