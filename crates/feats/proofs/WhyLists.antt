-- The last steps of several answers.
use Rattle.std.proofs.Common.{ℕ, zero, suc, ◌≡◌, ◌∙◌, ◌≢◌, ◌+◌, ◌-◌, ◌≤◌, List, [], ◌∷◌, ◌++◌, Bool, true, false, Option, Some, None, Result, Ok, Err, ap, ap₂, arith, drop, length, map, refl, sym, take}
use Rattle.std.proofs.lemmas.List.{take-append-drop}
use Rattle.std.specs.Cmp.Lexicographic.{bytes_decides}
use Rattle.std.specs.List.{ends_with}
use Rattle.std.specs.Option.{option_map_or}
use Rattle.std.specs.Prelude.{IfOk, nat_eq, slice_get}
use Rattle.cargo_workspaces.specs.Workspaces.{Text}
use Rattle.feats.specs.comparisons.differences.Builds.{BuildText}
use Rattle.feats.specs.comparisons.differences.LastSteps.{line_of, list_of}
use Rattle.feats.specs.comparisons.differences.Whys.{AreWhys, last_found, last_of, without_feed}
use Rattle.plan_whys.specs.LastSteps.{AreLastStepsBy, last_step}
use Rattle.plan_whys.specs.Steps.{SpotText, WhyText}
use Rattle.feats_why.specs.Lines.{why_lines}
use Rattle.feats_why.specs.Settings.{SettingsText}
use Rattle.feats_why.specs.Settings.{settings_of}
use mathlib.Core.List.{map-map}

-- the last step of a list, as a list
one_left : (whys : List WhyText) (k : ℕ) → length whys ≤ k + 1 → option_map_or (λ step. step ∷ []) (slice_get whys k) [] ≡ drop k whys
one_left [] zero short = refl
one_left [] (suc k) short = refl
one_left (x ∷ []) zero short = refl
one_left (x ∷ y ∷ whys) zero short = absurd (omega (arith, short))
one_left (x ∷ whys) (suc k) short = one_left whys k (omega (arith, short))

last_list : (found : Option (List WhyText)) → list_of (last_step found) ≡ last_of found
last_list None = refl
last_list (Some whys) = one_left whys (length whys - 1) (omega arith)

last_lists : (b : BuildText) (founds : List (Option (List WhyText))) → map (line_of b) (map last_step founds) ≡ map (last_found b) founds
last_lists b [] = refl
last_lists b (found ∷ founds) = ap₂ (λ x xs. x ∷ xs) (ap (λ steps. without_feed (why_lines b.workspace.packages (settings_of b.words) steps)) (last_list found)) (last_lists b founds)

pub whys_from : (b : BuildText) (spots : List SpotText) (lasts read : List (Option WhyText)) (whys : List Text) → read ≡ lasts → AreLastStepsBy b.workspace b.words b.plan.on spots lasts
    → whys ≡ map (line_of b) read → AreWhys b spots whys
whys_from b spots lasts read whys same are lines = record {
  founds = are.holds.founds;
  are_found = record { chosen = are.chosen; are_accepted = are.are_accepted; holds = are.holds.are_found };
  are_whys = lines ∙ ap (map (line_of b)) (same ∙ are.holds.are_last) ∙ last_lists b are.holds.founds;
}

-- what follows from a value
pub ok_with : {X E : Type 0} (P Q : X → Type 0) (r : Result X E) → IfOk r P → ((x : X) → P x → Q x) → IfOk r Q
ok_with P Q (Ok x) p f = f x p
ok_with P Q (Err e) p f = tt

-- a line with no line feed at its end
pub unfed : (line : Text) → ((front : List ℕ) → line ≢ front ++ (10 ∷ [])) → line ≡ without_feed line
unfed line h = rw (plain) refl
  where
    false_of : (b : Bool) → (b ≡ true → ⊥) → b ≡ false
    false_of true k = absurd (k refl)
    false_of false k = refl

    plain : ends_with nat_eq line (10 ∷ []) ≡ false
    plain = false_of _ (λ e. h (take (length line - 1) line) (sym (ap (λ l. take (length line - 1) line ++ l) ((bytes_decides (10 ∷ []) (drop (length line - 1) line)).0 e) ∙ take-append-drop (length line - 1) line)))

-- the lines of steps, from those of lists of one step
pub last_lines : (b : BuildText) (s : SettingsText) (lasts : List (Option WhyText)) (lists : List (List WhyText)) (lines whys : List Text)
    → s ≡ settings_of b.words → lists ≡ map list_of lasts → lines ≡ map (why_lines b.workspace.packages s) lists → whys ≡ map without_feed lines
    → whys ≡ map (line_of b) lasts
last_lines b s lasts lists lines whys same are lined shown =
    let line : List WhyText → Text = why_lines b.workspace.packages (settings_of b.words) in
    shown
    ∙ ap (map without_feed) (lined ∙ ap (λ z. map (why_lines b.workspace.packages z) lists) same ∙ ap (map line) are ∙ map-map line list_of lasts)
    ∙ map-map without_feed (λ last. line (list_of last)) lasts
