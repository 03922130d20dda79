-- The uses of a package, one after the other.
use Rattle.std.proofs.Common.{◌≡◌, ◌∙◌, sym, ap, refl, ℕ, ◌+◌, ◌<◌, List, ◌∷◌, Bool, true, false, cond, drop, length, get_or, Bor}
use Rattle.std.specs.Prelude.{◌||◌, Option, Some, None, Result, Ok, Err}
use Rattle.std.specs.List.{list_any}
use Rattle.std.specs.Ordering.{is_eq}
use Rattle.std.proofs.lemmas.Map.Text.{is_eq-slice_cmp}
use Rattle.std.specs.declared.alloc.Global.{Global}
use Rattle.json.specs.Value.{value_view, items_view}
use Rattle.json.specs.declared.value.Value.{Value}
use Rattle.json.specs.Json.{Json}
use Rattle.cargo_json.specs.Faults.{Text, Refusal, ◌>>=◌}
use Rattle.workspace_documents.specs.Lists.{id_cmp, each}
use Rattle.workspace_documents.specs.Packages.{UseText, same_platform, same_use}
use Rattle.workspace_documents.specs.Views.{platforms_view}
use Rattle.workspace_documents.specs.declared.uses.Platforms.{Platforms}
use Rattle.workspace_documents.proofs.Entries.{item_at}

-- a set with one more name
either : (a b : Bool) → cond a true b ≡ (a || b)
either true b = refl
either false b = refl

name_more : (name : Bor Text) (q : Text) (old new : Bool) → new ≡ cond (is_eq (id_cmp name.now q)) true old → new ≡ (same_platform (Some name.now) (Some q) || old)
name_more name q old new grown = grown ∙ either (is_eq (id_cmp name.now q)) old ∙ ap (λ b. b || old) (is_eq-slice_cmp name.now q)

-- a text in a key
abbrev pub lent : Text → Bor Text
lent t = record { ref_ptr = (0, 0); now = t }

-- one more name
pub named_more : (name : Bor Text) (old new : Platforms) → new.every ≡ old.every → ((q : Bor Text) → list_any (λ k. is_eq (id_cmp q.now k.now)) new.named.keys ≡ cond (is_eq (id_cmp name.now q.now)) true (list_any (λ k. is_eq (id_cmp q.now k.now)) old.named.keys))
    → (asked : Option Text) → platforms_view new asked ≡ (same_platform (Some name.now) asked || platforms_view old asked)
named_more name old new every grown None = every
named_more name old new every grown (Some q) = name_more name q (platforms_view old (Some q)) (platforms_view new (Some q)) (grown (lent q))

-- the uses that were read, and those that the rest of the items are
abbrev pub with_rest : (UseText → Bool) → Result (List UseText) Refusal → Result (UseText → Bool) Refusal
with_rest has rest = rest >>= λ us. Ok (λ asked. has asked || list_any (λ u. same_use u asked) us)

moved : (a b c : Bool) → (a || (b || c)) ≡ ((b || a) || c)
moved true true c = refl
moved true false c = refl
moved false true c = refl
moved false false c = refl

-- one more item, read as `x`, moves from the rest to the uses
module _ (old new : UseText → Bool) (x : UseText) (grown : (u : UseText) → new u ≡ (same_use x u || old u)) where
  has_more : (us : List UseText) (asked : UseText) → (old asked || list_any (λ u. same_use u asked) (x ∷ us)) ≡ (new asked || list_any (λ u. same_use u asked) us)
  has_more us asked = moved (old asked) (same_use x asked) (list_any (λ u. same_use u asked) us) ∙ ap (λ b. b || list_any (λ u. same_use u asked) us) (sym (grown asked))

  rest_more : (rest : Result (List UseText) Refusal) → with_rest old (rest >>= λ us. Ok (x ∷ us)) ≡ with_rest new rest
  rest_more (Ok us) = λ i. Ok (λ asked. has_more us asked i)
  rest_more (Err e) = refl

  pub uses_more : (read : ℕ → Json → Result UseText Refusal) (vs : List (Value Global)) (i : ℕ) (v : Value Global) (whole : Result (UseText → Bool) Refusal) → i < length vs → v ≡ get_or vs i v → read i (value_view v) ≡ Ok x → whole ≡ with_rest old (each read i (items_view (drop i vs))) → whole ≡ with_rest new (each read (i + 1) (items_view (drop (i + 1) vs)))
  uses_more read vs i v whole within is was_read so = so ∙ rw (item_at vs i v within is, was_read) (rest_more (each read (i + 1) (items_view (drop (i + 1) vs))))
