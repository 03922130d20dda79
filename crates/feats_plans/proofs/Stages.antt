-- What is known of a plan as what is known of its workspace.
use Rattle.std.proofs.Common.{◌≡◌, List, Bool, subst, sym}
use Rattle.cargo_workspaces.specs.Workspaces.{Text, WorkspaceText}
use Rattle.cargo_plans.specs.Plans.{WordsText}
use Rattle.platform_specs.specs.Expressions.{Target}
use Rattle.plan_rows.specs.platforms.DeclaredSpecs.{DeclaredText, declared_specs}
use Rattle.plan_rows.specs.platforms.HeldSpecs.{AreHeld}
use Rattle.feats_files.specs.Platforms.{AreHeldOnEach}
use Rattle.feats_plans.specs.Bases.{BasisText}
use Rattle.feats_plans.specs.Inputs.{InputsText}
use Rattle.feats_plans.specs.Planned.{PlannedText}
use Rattle.feats_plans.specs.Planning.{AfterPlan, AfterPlatforms, AreHolding, IsPlanRefusal, IsPlatformRefusal, of_words}
use Rattle.feats_plans.specs.Selections.{words_of}

-- the specs and the targets are known under other names
module _ (inputs : InputsText) (basis : BasisText) (w : WorkspaceText) (host : Text → Bool) (targets : List (Text → Bool)) where
  pub are_holding :
      (specs : List DeclaredText) → specs ≡ declared_specs w.packages → AreHeld basis.host specs host
      → (others : List DeclaredText) → others ≡ declared_specs w.packages → (on : List Target) → on ≡ basis.targets
      → (each : List (Text → Bool)) → targets ≡ each → AreHeldOnEach on others each → AreHolding w basis host targets
  are_holding specs are held others same on all each named are_held =
      let by_targets : AreHeldOnEach basis.targets others each = subst (λ ts. AreHeldOnEach ts others each) all are_held in
      let by_specs : AreHeldOnEach basis.targets (declared_specs w.packages) each = subst (λ s. AreHeldOnEach basis.targets s each) same by_targets in
      record {
        on_host = subst (λ s. AreHeld basis.host s host) are held;
        on_targets = subst (λ ts. AreHeldOnEach basis.targets (declared_specs w.packages) ts) (sym named) by_specs;
      }

  pub held_refused :
      (R : PlannedText → Text → Type 0) (words : WordsText) → words ≡ words_of inputs.arguments basis.version host targets → AreHolding w basis host targets
      → (m : Text) → IsPlanRefusal inputs w words R m → IsPlatformRefusal inputs basis w R m
  held_refused R words by holding m h = of_words host targets holding (subst (λ (s : WordsText). IsPlanRefusal inputs w s R m) by h)

  pub held_planned :
      (Q : PlannedText → Type 0) (words : WordsText) → words ≡ words_of inputs.arguments basis.version host targets → AreHolding w basis host targets
      → AfterPlan inputs w words Q → AfterPlatforms inputs basis w Q
  held_planned Q words by holding h = record {
    host = host;
    targets = targets;
    are_holding = holding;
    holds = subst (λ (s : WordsText). AfterPlan inputs w s Q) by h;
  }
