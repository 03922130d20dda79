-- Words that are split at marks.
use Rattle.std.proofs.Common.{◌≡◌, ◌∙◌, refl, ap, List, [], ◌∷◌, true, false, cond, map, Bor}
use Rattle.std.specs.List.{slice_split, onto_first}
use Rattle.clap.specs.Words.{Text}
use Rattle.feats.specs.comparisons.CommandLines.{is_mark}
use Rattle.feats_words.specs.Requests.{texts}

texts_onto : (w : Bor Text) (parts : List (List (Bor Text))) → map texts (onto_first w parts) ≡ onto_first w.now (map texts parts)
texts_onto w [] = refl
texts_onto w (part ∷ parts) = refl

-- the texts of the parts are the parts of the texts
pub texts_split : (words : List (Bor Text)) → map texts (slice_split (λ w. is_mark w.now) words) ≡ slice_split is_mark (texts words)
texts_split [] = refl
texts_split (w ∷ words) =
    let parts = slice_split (λ w. is_mark w.now) words in
    elim (is_mark w.now) as (λ yes. map texts (cond yes ([] ∷ parts) (onto_first w parts)) ≡ cond yes ([] ∷ slice_split is_mark (texts words)) (onto_first w.now (slice_split is_mark (texts words)))) [
      | true ↦ ap (λ ps. [] ∷ ps) (texts_split words)
      | false ↦ texts_onto w parts ∙ ap (onto_first w.now) (texts_split words)
    ]

each : (parts : List (Bor (List (Bor Text)))) → map (λ p. texts p.now) parts ≡ map texts (map (λ p. p.now) parts)
each [] = refl
each (p ∷ ps) = ap (λ rest. texts p.now ∷ rest) (each ps)

-- the same, where the parts are borrowed
pub borrowed : (parts : List (Bor (List (Bor Text)))) (words : List (Bor Text)) → map (λ p. p.now) parts ≡ slice_split (λ w. is_mark w.now) words
    → map (λ p. texts p.now) parts ≡ slice_split is_mark (texts words)
borrowed parts words h = each parts ∙ ap (map texts) h ∙ texts_split words
