-- Denies that no choice breaks.
use Rattle.std.specs.Prelude.{◌≡◌, Contains, IsTrue}
use Rattle.cargo_workspaces.specs.Workspaces.{IsWorkspace, Text, WorkspaceText}
use Rattle.cargo_plans.specs.plan_units.Units.{UnitText}
use Rattle.cargo_plans.specs.plan_steps.Plans.{PlanText}
use Rattle.cargo_plans.specs.Plans.{IsPlanOf, WordsText}
use Rattle.laws.specs.plans.Widening.{IsCovered, IsOnIn, IsWidest}
use Rattle.feats_policies.specs.checks.Builds.{BuildText, is_every, is_platform}
use Rattle.feats_policies.specs.checks.Found.{denied, denied_on, kept}

-- The words of rules mean the same in two builds, and all that is on in the first is on in the second.
pub record HasNoMoreOn (c b : BuildText) : Type 0 where
  pub packages : c.packages ≡ b.packages
  pub selected : c.selected ≡ b.selected
  pub on : IsOnIn c.plan b.plan

-- And all that is built in the first is built in the second, in the same places.
pub record HasNoMoreBuilt (c b : BuildText) : Type 0 where
  pub split : c.split ≡ b.split
  pub host : c.host ≡ b.host
  pub targets : c.targets ≡ b.targets
  pub units : (u : UnitText) → Contains c.plan.units u → (v : UnitText) × Contains b.plan.units v × (v.place ≡ u.place) × (v.number ≡ u.number)

-- A DENY STAYS KEPT where no more is on than in a build for every choice, in which all that is on counts.
abbrev pub DenyStaysKept : Type 0
DenyStaysKept = (c b : BuildText) (word : Text) → HasNoMoreOn c b → IsTrue (is_every b.judged) → denied b word ≡ kept → denied c word ≡ kept

abbrev pub DenyForPlatformStaysKept : Type 0
DenyForPlatformStaysKept = (c b : BuildText) (word triple : Text) → HasNoMoreOn c b → HasNoMoreBuilt c b → denied_on b word triple ≡ kept → denied_on c word triple ≡ kept

-- Two builds of a workspace, by two plans, of which the second is for every choice. The words of rules mean the same in both.
pub record AreBuilds (w : WorkspaceText) (c b : BuildText) (p q : PlanText) : Type 0 where
  pub first : c.plan ≡ p
  pub second : b.plan ≡ q
  pub first_packages : c.packages ≡ w.packages
  pub second_packages : b.packages ≡ w.packages
  pub selected : c.selected ≡ b.selected
  pub is_every : IsTrue (is_every b.judged)

-- NO CHOICE of members, features of members, tests and platforms BREAKS A DENY that is kept in the plan of the widest words.
abbrev pub NoChoiceBreaksDeny : Type 0
NoChoiceBreaksDeny = (w : WorkspaceText) (words widest : WordsText) (p q : PlanText) → IsWorkspace w
    → IsWidest w widest → IsCovered w words widest → IsPlanOf w words p → IsPlanOf w widest q
    → (c b : BuildText) → AreBuilds w c b p q → (word : Text) → denied b word ≡ kept → denied c word ≡ kept

-- Nor the same deny for a platform.
abbrev pub NoChoiceBreaksDenyForPlatform : Type 0
NoChoiceBreaksDenyForPlatform = (w : WorkspaceText) (words widest : WordsText) (p q : PlanText) → IsWorkspace w
    → IsWidest w widest → IsCovered w words widest → IsPlanOf w words p → IsPlanOf w widest q
    → (c b : BuildText) → AreBuilds w c b p q → (word triple : Text) → IsTrue (is_platform c triple) → denied b word ≡ kept → denied_on c word triple ≡ kept
