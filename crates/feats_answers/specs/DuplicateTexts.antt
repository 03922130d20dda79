-- The text about what is built several times.
use Rattle.std.specs.Prelude.{◌≡◌, ℕ, List, [], Bool, true, false}
use Rattle.cargo_workspaces.specs.Workspaces.{Text, PackageText, WorkspaceText}
use Rattle.cargo_plans.specs.Plans.{WordsText}
use Rattle.feats_duplicate_lines.specs.Lines.{duplicate_lines}
use Rattle.feats_duplicate_lines.specs.Objects.{duplicate_objects}
use Rattle.feats_duplicate_lines.specs.Shown.{ShownText, all_shown}
use Rattle.feats_files.specs.Files.{FileText}
use Rattle.feats_words.specs.declared.command_arguments.Format.{Format}
use Rattle.feats_words.specs.declared.command_arguments.Format.TheVariants as format
use Rattle.feats_duplicate_lines.specs.feats_duplicates.Duplicates.{AreDuplicates, DuplicatesText}
use Rattle.feats_duplicate_lines.specs.feats_duplicates.MemberPlans.{ArePlansAlone, MemberPlanText}
use Rattle.feats_duplicate_lines.specs.feats_duplicates.Disagreements.{AreDisagreements, DisagreementText}
use Rattle.cargo_plans.specs.plan_steps.Plans.{PlanText}
use Rattle.plan_whys.specs.links.UnitLinks.{AreUnitLinks}
use Rattle.feats_answers.specs.PlanTexts.{target_names}

abbrev pub duplicates_text : Format → List PackageText → List ShownText → Text
duplicates_text format.Text packages shown = duplicate_lines packages shown
duplicates_text format.Json packages shown = duplicate_objects shown

-- The text about these duplicates, with what the members disagree on after they have got lines for it.
pub record IsTextOfFound (form : Format) (names : List Text) (w : WorkspaceText) (words : WordsText) (found : DuplicatesText) (plans : List MemberPlanText) (text : Text) : Type 0 where
  pub disagreements : List DisagreementText
  pub are_disagreements : AreDisagreements w words names found.alone disagreements
  pub is_text : text ≡ duplicates_text form w.packages (all_shown names w.packages found disagreements plans)

-- The text about the duplicates of a plan, beside the plans of members alone. With `places` it is also about packages with the same features
-- in several places.
pub record IsTextOfPlan (form : Format) (places : Bool) (names : List Text) (w : WorkspaceText) (words : WordsText) (plan : PlanText) (plans : List MemberPlanText) (text : Text) : Type 0 where
  pub links : List (ℕ × ℕ)
  pub are_links : AreUnitLinks plan links
  pub found : DuplicatesText
  pub are_found : AreDuplicates w.packages names places plan.units links plans found
  pub is_text : IsTextOfFound form names w words found plans text

-- With `alone` the selected members are planned alone too, and otherwise no plans are beside that of the words.
abbrev pub ArePlansBeside : Bool → WorkspaceText → WordsText → List MemberPlanText → Type 0
ArePlansBeside true w words plans = ArePlansAlone w words plans
ArePlansBeside false w words plans = plans ≡ []

-- The text about the duplicates of a plan. With `alone` it is also about the plans of the selected members alone, and with `places` about
-- packages with the same features in several places.
pub record IsDuplicatesText (form : Format) (alone places : Bool) (files : List FileText) (w : WorkspaceText) (words : WordsText) (plan : PlanText) (text : Text) : Type 0 where
  pub plans : List MemberPlanText
  pub are_plans : ArePlansBeside alone w words plans
  pub is_text : IsTextOfPlan form places (target_names files) w words plan plans text
