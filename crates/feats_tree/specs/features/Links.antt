-- The links between spots that are shown.
use Rattle.std.specs.Prelude.{ℕ, List, filter, Bool, false, not, ◌&&◌, slice_get}
use Rattle.std.specs.Option.{option_map_or}
use Rattle.plan_whys.specs.links.SpotLinks.{is_command}
use Rattle.plan_whys.specs.Steps.{SpotText}

-- Whether spot `k` is a command feature.
abbrev pub is_command_at : List SpotText → ℕ → Bool
is_command_at spots k = option_map_or (λ s. is_command s.label) (slice_get spots k) false

-- Whether a link is shown: neither of its spots is a command feature.
abbrev pub is_shown : List SpotText → ℕ × ℕ → Bool
is_shown spots link = not (is_command_at spots link.0) && not (is_command_at spots link.1)

abbrev pub shown_links : List SpotText → List (ℕ × ℕ) → List (ℕ × ℕ)
shown_links spots links = filter (is_shown spots) links
