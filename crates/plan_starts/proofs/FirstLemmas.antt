-- The first word that fits no target.
use Rattle.std.proofs.Common.{◌≡◌, ◌∙◌, ap, sym, ℕ, ◌+◌, ◌<◌, Bool, true, List, drop, get_or, length, map, if◌then◌else◌}
use Rattle.std.specs.Prelude.{None, Option, Some}
use Rattle.std.specs.List.{list_any}
use Rattle.std.specs.Option.{option_or}
use Rattle.std.proofs.lemmas.List.{drop_more}
use Rattle.cargo_workspaces.specs.Workspaces.{PackageText, Text}
use Rattle.plan_words.specs.TargetChoices.{is_called}
use Rattle.plan_starts.specs.Lists.{first_some}
use Rattle.plan_starts.specs.UnfitWords.{any_target, unfit_name}

-- an item that has no value is passed over
first_later : {X V Y : Type 0} (view : X → V) (f : V → Option Y) (xs : List X) (i : ℕ) (d : X) (all : Option Y)
    → i < length xs → f (view (get_or xs i d)) ≡ None → all ≡ first_some f (map view (drop i xs)) → all ≡ first_some f (map view (drop (i + 1) xs))
first_later {X} {V} {Y} view f xs i d all within none was =
    was ∙ ap (λ ys. first_some f (map view ys)) (drop_more xs i d within) ∙ ap (λ (y : Option Y). option_or y (first_some f (map view (drop (i + 1) xs)))) none

-- a word that fits a target is passed over
pub word_fits : {X : Type 0} (view : X → Text) (packages : List PackageText) (selected : List ℕ) (kind : Text) (words : List X) (i : ℕ) (d : X) (fitting : Bool) (all : Option Text)
    → i < length words → fitting ≡ list_any (any_target packages (λ t. is_called kind t (view (get_or words i d)))) selected → fitting ≡ true
    → all ≡ first_some (unfit_name packages selected kind) (map view (drop i words)) → all ≡ first_some (unfit_name packages selected kind) (map view (drop (i + 1) words))
word_fits view packages selected kind words i d fitting all within is fits was =
    let word : Text = view (get_or words i d) in
    first_later view (unfit_name packages selected kind) words i d all within (ap (λ (b : Bool). if b then None else Some word) (sym is ∙ fits)) was
