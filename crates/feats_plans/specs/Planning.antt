-- From the arguments and the bytes of files to a plan with a property, or to the message why there is none.
use Rattle.std.specs.Prelude.{◌≡◌, List, [], ◌∷◌, Bool, IsFalse, None, Ok, IsErrAnd, IsSomeAnd, IsUtf8, codes}
use Rattle.json.specs.Json.{Json}
use Rattle.cargo_workspaces.specs.Workspaces.{Text, WorkspaceText}
use Rattle.feats_plans.specs.numbered_workspaces.Faults.{workspace_in}
use Rattle.plan_rows.specs.platforms.DeclaredSpecs.{declared_specs}
use Rattle.plan_rows.specs.platforms.HeldSpecs.{AreHeld}
use Rattle.feats_files.specs.plan_messages.Messages.{plan_message}
use Rattle.cargo_plans.specs.plan_steps.Plans.{PlanText}
use Rattle.cargo_plans.specs.Plans.{WordsText, IsPlanOf}
use Rattle.cargo_plans.specs.Refusals.{IsRefusal, is_memory}
use Rattle.cargo_plans.specs.declared.fault.PlanFault.{PlanFault}
use Rattle.feats_files.specs.Documents.{document, not_json_message}
use Rattle.feats_files.specs.Messages.{joined}
use Rattle.feats_files.specs.Platforms.{AreHeldOnEach, IsSpecRefusal}
use Rattle.feats_plans.specs.Bases.{BasisText, IsBasis, IsBasisRefusal}
use Rattle.feats_plans.specs.DocumentMessages.{document_message}
use Rattle.feats_plans.specs.Inputs.{InputsText}
use Rattle.feats_plans.specs.Planned.{PlannedText}
use Rattle.feats_plans.specs.Selections.{words_of}

abbrev pub planned : InputsText → WorkspaceText → WordsText → PlanText → PlannedText
planned inputs w words plan = record { inputs = inputs; workspace = w; words = words; plan = plan }

-- A plan for the words has the property.
pub record AfterPlan (inputs : InputsText) (w : WorkspaceText) (words : WordsText) (Q : PlannedText → Type 0) : Type 0 where
  pub plan : PlanText
  pub is_plan : IsPlanOf w words plan
  pub holds : Q (planned inputs w words plan)

-- The message why there is none: the words have no plan, or the plan is refused.
pub data IsPlanRefusal (inputs : InputsText) (w : WorkspaceText) (words : WordsText) (R : PlannedText → Text → Type 0) (message : Text) : Type 0 where
  no_plan : (fault : PlanFault) → IsRefusal w words fault → IsFalse (is_memory fault) → message ≡ plan_message w.packages fault → IsPlanRefusal inputs w words R message
  of_plan : (plan : PlanText) → IsPlanOf w words plan → R (planned inputs w words plan) message → IsPlanRefusal inputs w words R message

-- Which platform specs of the workspace hold for the host, and for each of the targets.
pub record AreHolding (w : WorkspaceText) (basis : BasisText) (host : Text → Bool) (targets : List (Text → Bool)) : Type 0 where
  pub on_host : AreHeld basis.host (declared_specs w.packages) host
  pub on_targets : AreHeldOnEach basis.targets (declared_specs w.packages) targets

-- The same for a workspace, with the specs that hold.
pub record AfterPlatforms (inputs : InputsText) (basis : BasisText) (w : WorkspaceText) (Q : PlannedText → Type 0) : Type 0 where
  pub host : Text → Bool
  pub targets : List (Text → Bool)
  pub are_holding : AreHolding w basis host targets
  pub holds : AfterPlan inputs w (words_of inputs.arguments basis.version host targets) Q

-- The message why the workspace has none: a malformed spec, or the fault of the plan.
pub data IsPlatformRefusal (inputs : InputsText) (basis : BasisText) (w : WorkspaceText) (R : PlannedText → Text → Type 0) (message : Text) : Type 0 where
  of_specs : IsSpecRefusal w.packages (declared_specs w.packages) message → IsPlatformRefusal inputs basis w R message
  of_words :
      (host : Text → Bool) (targets : List (Text → Bool)) → AreHolding w basis host targets
      → IsPlanRefusal inputs w (words_of inputs.arguments basis.version host targets) R message → IsPlatformRefusal inputs basis w R message

-- The same for the workspace that a document describes.
pub record AfterWorkspace (inputs : InputsText) (basis : BasisText) (Q : PlannedText → Type 0) (d : Json) : Type 0 where
  pub w : WorkspaceText
  pub is_workspace : workspace_in d ≡ Ok w
  pub holds : AfterPlatforms inputs basis w Q

-- The message why the document has none: it describes no workspace, or the workspace has none.
pub data IsWorkspaceRefusal (inputs : InputsText) (basis : BasisText) (R : PlannedText → Text → Type 0) (d : Json) (message : Text) : Type 0 where
  no_workspace : IsErrAnd (workspace_in d) (λ reason. message ≡ document_message reason) → IsWorkspaceRefusal inputs basis R d message
  of_workspace : (w : WorkspaceText) → workspace_in d ≡ Ok w → IsPlatformRefusal inputs basis w R message → IsWorkspaceRefusal inputs basis R d message

abbrev pub not_text_message : Text
not_text_message = joined (codes "the document isn't UTF-8: make it by `cargo metadata --format-version 1 --all-features`" ∷ [])

-- The same for the bytes of a document.
pub record AfterDocument (inputs : InputsText) (basis : BasisText) (bytes : Text) (Q : PlannedText → Type 0) : Type 0 where
  pub are_text : IsUtf8 bytes
  pub holds : IsSomeAnd (document bytes) (AfterWorkspace inputs basis Q)

-- The message why the bytes have none: they aren't UTF-8, aren't JSON, or the document has none.
pub data IsDocumentRefusal (inputs : InputsText) (basis : BasisText) (bytes : Text) (R : PlannedText → Text → Type 0) (message : Text) : Type 0 where
  not_text : (IsUtf8 bytes → ⊥) → message ≡ not_text_message → IsDocumentRefusal inputs basis bytes R message
  not_json : IsUtf8 bytes → document bytes ≡ None → message ≡ not_json_message → IsDocumentRefusal inputs basis bytes R message
  of_json : IsUtf8 bytes → IsSomeAnd (document bytes) (λ d. IsWorkspaceRefusal inputs basis R d message) → IsDocumentRefusal inputs basis bytes R message

-- THE PLAN for the arguments, the files and the bytes of the document has the property.
pub record AfterPlanning (inputs : InputsText) (bytes : Text) (Q : PlannedText → Type 0) : Type 0 where
  pub basis : BasisText
  pub is_basis : IsBasis inputs basis
  pub holds : AfterDocument inputs basis bytes Q

-- The message why there is none: the first file at fault, then the document, and then the plan.
pub data IsPlanningRefusal (inputs : InputsText) (bytes : Text) (R : PlannedText → Text → Type 0) (message : Text) : Type 0 where
  of_basis : IsBasisRefusal inputs message → IsPlanningRefusal inputs bytes R message
  of_document : (basis : BasisText) → IsBasis inputs basis → IsDocumentRefusal inputs basis bytes R message → IsPlanningRefusal inputs bytes R message
