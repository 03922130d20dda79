-- The summary of a plan, or why it has none.
use Rattle.std.specs.Prelude.{◌≡◌, List, [], ◌∷◌, Bool, IsFalse, IsTrue, Some, codes, length, nat_lt}
use Rattle.cargo_plans.specs.Plans.{WordsText}
use Rattle.cargo_plans.specs.plan_steps.Plans.{PlanText}
use Rattle.cargo_workspaces.specs.Workspaces.{Text, WorkspaceText}
use Rattle.feats_files.specs.Documents.{document}
use Rattle.feats_files.specs.Messages.{joined}
use Rattle.feats_summary.specs.Summaries.{IsPlanSummary}
use Rattle.json.specs.Json.{Json}
use Rattle.plan_words.specs.Selections.{SelectionText}

-- Whether there are several target platforms.
abbrev pub are_several : List (Text → Bool) → Bool
are_several targets = nat_lt 1 (length targets)

-- The text is the summary of the plan, where the document has these bytes.
pub record IsSummaryOf (bytes : Text) (w : WorkspaceText) (selection : SelectionText) (plan : PlanText) (text : Text) : Type 0 where
  pub described : Json
  pub is_document : document bytes ≡ Some described
  pub is_summary : IsPlanSummary described w selection plan text

-- The same for a plan that has no more than one target platform.
pub record IsSummaryText (bytes : Text) (w : WorkspaceText) (words : WordsText) (plan : PlanText) (text : Text) : Type 0 where
  pub has_one : IsFalse (are_several words.targets)
  pub is_summary : IsSummaryOf bytes w words.selection plan text

abbrev pub summary_message : Text
summary_message = joined (codes "a summary has the packages of one target platform: name one --target, and ask for each platform on its own" ∷ [])

-- The message why there is none: a summary has one target platform, and the build has several.
pub record IsNoSummary (targets : List (Text → Bool)) (message : Text) : Type 0 where
  pub has_several : IsTrue (are_several targets)
  pub is_message : message ≡ summary_message
