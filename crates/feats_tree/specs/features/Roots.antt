-- The roots of trees of features, ascending.
use Rattle.std.specs.Prelude.{ℕ, ◌==◌, List, [], ◌∷◌, Bool, not, ◌&&◌, if◌then◌else◌}
use Rattle.std.specs.Bool.{beq}
use Rattle.std.specs.List.{list_any}
use Rattle.feature_labels.specs.Orders.{label_eq}
use Rattle.plan_whys.specs.links.Links.{indexes_of}
use Rattle.plan_whys.specs.links.SpotLinks.{is_command}
use Rattle.plan_rows.specs.Steps.{is_host}
use Rattle.cargo_plans.specs.plan_starts.Lists.{joined_from}
use Rattle.plan_whys.specs.Steps.{SpotText}
use Rattle.feats_tree.specs.features.Links.{is_command_at}

-- Whether a link leads from a command feature to spot `k`.
abbrev pub is_asked_by : List SpotText → ℕ → ℕ × ℕ → Bool
is_asked_by spots k link = is_command_at spots link.0 && link.1 == k

abbrev pub is_asked : List SpotText → List (ℕ × ℕ) → ℕ → Bool
is_asked spots links k = list_any (is_asked_by spots k) links

-- The numbers of the spots that pass, and aren't command features.
abbrev pub numbers_in : (ℕ → Bool) → List SpotText → List ℕ
numbers_in test spots = joined_from (λ (k : ℕ) (s : SpotText). if test k && not (is_command s.label) then k ∷ [] else []) 0 spots

-- THE ROOTS of trees: what the command line turns on, which is each spot to which a link leads from a command feature.
abbrev pub asked_spots : List SpotText → List (ℕ × ℕ) → List ℕ
asked_spots spots links = numbers_in (is_asked spots links) spots

abbrev pub is_same : SpotText → SpotText → Bool
is_same a b = a.number == b.number && (beq (is_host a.side) (is_host b.side) && label_eq a.label b.label)

-- THE ROOTS of inverted trees: each spot that is wanted. A command feature never is.
abbrev pub wanted_spots : List SpotText → List SpotText → List ℕ
wanted_spots wanted spots = indexes_of (λ s. list_any (is_same s) wanted && not (is_command s.label)) spots
