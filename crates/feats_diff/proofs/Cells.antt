-- The texts of cells.
use Rattle.std.proofs.Common.{◌≡◌, ◌∙◌, ap, refl, List, [], ◌∷◌, ◌++◌, map}
use Rattle.cargo_workspaces.specs.Workspaces.{Text}
use Rattle.feats_diff.specs.texts.inner.Words.{word_text}
use Rattle.feats_diff.specs.declared.texts.columns.Word.{Word}

unmarked : (names : List Text) → map (λ (name : Text). [] ++ name) names ≡ names
unmarked [] = refl
unmarked (n ∷ ns) = ap (λ rest. n ∷ rest) (unmarked ns)

-- names after an empty mark
pub plain : (start all : List Word) (names : List Text) → start ≡ [] → map word_text all ≡ map word_text start ++ map (λ (name : Text). [] ++ name) names → map word_text all ≡ names
plain start all names none h = h ∙ ap (λ ws. map word_text ws ++ map (λ (name : Text). [] ++ name) names) none ∙ unmarked names
