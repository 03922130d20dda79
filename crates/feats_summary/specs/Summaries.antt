-- The summary of a plan.
use Rattle.std.specs.Prelude.{◌≡◌, ℕ, ◌==◌, ◌&&◌, List, Bool, false, true, Ok, slice_get}
use Rattle.std.specs.List.{list_any}
use Rattle.std.specs.Option.{option_map_or}
use Rattle.build_summaries.specs.Orders.{IsSummary}
use Rattle.cargo_plans.specs.plan_steps.Plans.{PlanText}
use Rattle.cargo_plans.specs.plan_units.Units.{UnitText}
use Rattle.cargo_workspaces.specs.Workspaces.{Text, WorkspaceText}
use Rattle.feats_summary.specs.Packages.{KnownText, is_among, packages_by}
use Rattle.feats_summary.specs.Places.{places_in}
use Rattle.json.specs.Json.{Json}
use Rattle.plan_whys.specs.links.UnitLinks.{AreUnitLinks}
use Rattle.plan_words.specs.Choices.{ChosenText, choose}
use Rattle.plan_words.specs.Selections.{SelectionText}

-- Whether unit `k` is that of a member.
abbrev pub is_of_member : List ℕ → List UnitText → ℕ → Bool
is_of_member members units k = option_map_or (λ u. is_among members u.number) (slice_get units k) false

-- Whether the link leads from a member to unit `k`.
abbrev pub is_from_member : List ℕ → List UnitText → ℕ → ℕ × ℕ → Bool
is_from_member members units k link = is_of_member members units link.0 && link.1 == k

-- Whether a member depends on unit `k`.
abbrev pub is_direct : List ℕ → List UnitText → List (ℕ × ℕ) → ℕ → Bool
is_direct members units links k = list_any (is_from_member members units k) links

-- The summary of units, where these are the links between them: the packages for the target, and those for the host.
abbrev pub IsSummaryWith : KnownText → List (ℕ × ℕ) → List UnitText → Text → Type 0
IsSummaryWith known links units text =
    IsSummary (packages_by known (is_direct known.members units links) false units) (packages_by known (is_direct known.members units links) true units) text

abbrev pub known_by : Json → WorkspaceText → SelectionText → List ℕ → PlanText → KnownText
known_by d w selection selected plan = record {
  packages = w.packages;
  members = w.members;
  selected = selected;
  places = places_in d;
  on = plan.on;
  split = selection.split;
}

-- THE SUMMARY of a plan of what the words select, by the document.
pub record IsPlanSummary (d : Json) (w : WorkspaceText) (selection : SelectionText) (plan : PlanText) (text : Text) : Type 0 where
  pub chosen : ChosenText
  pub are_chosen : choose w selection ≡ Ok chosen
  pub links : List (ℕ × ℕ)
  pub are_links : AreUnitLinks plan links
  pub is_summary : IsSummaryWith (known_by d w selection chosen.selected plan) links plan.units text
