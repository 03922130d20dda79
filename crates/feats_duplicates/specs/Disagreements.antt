-- The packages that members build differently although they have got lines for them.
use Rattle.std.specs.Prelude.{◌≡◌, ℕ, List, [], ◌∷◌, Bool, true, false, ◌&&◌, map, nat_eq, not}
use Rattle.std.specs.List.{filter, list_all, list_any}
use Rattle.cargo_workspaces.specs.Workspaces.{Text, PackageText, WorkspaceText}
use Rattle.cargo_plans.specs.Plans.{WordsText}
use Rattle.feats_duplicates.specs.Alone.{AloneText, MemberUnitText, alone_of, same_place}
use Rattle.feats_duplicates.specs.MemberPlans.{ArePlansAlone, MemberPlanText, OutcomeText, built, not_planned}
use Rattle.cargo_plans.specs.declared.plan_units.unit.Place.{Place}
use Rattle.feats_duplicates.specs.Joined.{joined_workspace}

-- A package and a place for which members don't agree.
pub record DisagreementText : Type 0 where
  pub number : ℕ
  pub place : Place

abbrev pub is_plan : OutcomeText → Bool
is_plan (built units) = true
is_plan (not_planned message) = false

abbrev pub is_plan_of : ℕ → MemberPlanText → Bool
is_plan_of m p = nat_eq m p.member && is_plan p.outcome

abbrev pub has_plan : List MemberPlanText → MemberUnitText → Bool
has_plan plans r = list_any (is_plan_of r.member) plans

-- Whether both are of one package and one place.
abbrev pub is_same : AloneText → AloneText → Bool
is_same a b = nat_eq a.number b.number && same_place a.place b.place

-- Whether the members agree on the package for the place: each of those that built it has a plan, and the package isn't among those
-- with different features for one place.
abbrev pub agrees : List AloneText → List MemberPlanText → AloneText → Bool
agrees after plans a = list_all (has_plan plans) a.units && not (list_any (is_same a) after)

abbrev pub disagreement : AloneText → DisagreementText
disagreement a = record { number = a.number; place = a.place }

-- Those of `alone` on which the members don't agree in these plans.
abbrev pub disagreements : List PackageText → List Text → List MemberPlanText → List AloneText → List DisagreementText
disagreements packages names plans alone = map disagreement (filter (λ a. not (agrees (alone_of packages names plans) plans a)) alone)

-- These are those of `alone` on which the members that the words select don't agree if each is planned alone in this workspace.
pub record AreDisagreementsIn (w : WorkspaceText) (words : WordsText) (names : List Text) (alone : List AloneText) (list : List DisagreementText) : Type 0 where
  pub plans : List MemberPlanText
  pub are_plans : ArePlansAlone w words plans
  pub are_listed : list ≡ disagreements w.packages names plans alone

-- THE DISAGREEMENTS: those in the joined workspace. Without packages to agree on there are none.
abbrev pub AreDisagreements : WorkspaceText → WordsText → List Text → List AloneText → List DisagreementText → Type 0
AreDisagreements w words names [] list = list ≡ []
AreDisagreements w words names (a ∷ more) list = AreDisagreementsIn (joined_workspace w (a ∷ more)) words names (a ∷ more) list

abbrev pub is_of : AloneText → DisagreementText → Bool
is_of a d = nat_eq a.number d.number && same_place a.place d.place

-- Whether none of the disagreements is of the package and the place of `a`.
abbrev pub is_agreed : List DisagreementText → AloneText → Bool
is_agreed disagreements a = not (list_any (is_of a) disagreements)
