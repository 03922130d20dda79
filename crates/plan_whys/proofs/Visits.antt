-- What a visit of step `on` reached, and why.
use Rattle.std.proofs.Common.{◌≡◌, ◌∙◌, ℕ, ◌+◌, Bool, true, false, ◌&&◌, List, ◌∷◌, [], Option, Some, None, map, refl, ap, sym, subst}
use Rattle.std.specs.Prelude.{◌↔◌, IsTrue, nat_lt, if◌then◌else◌}
use Rattle.std.specs.Global.{Vec}
use Rattle.std.specs.List.{AllZip}
use Rattle.std.specs.Option.{option_map_or}
use Rattle.guppy_packages.specs.declared.direction.DependencyDirection.{DependencyDirection}
use Rattle.guppy_packages.specs.declared.direction.DependencyDirection.TheVariants.{Forward}
use Rattle.digraphs.specs.Bits.{has}
use Rattle.cargo_workspaces.specs.Workspaces.{WorkspaceText}
use Rattle.feature_core.specs.Built.{Built, IsBuilt}
use Rattle.feature_core.specs.Offers.{content_of}
use Rattle.feature_labels.specs.Names.{LabelName}
use Rattle.feature_labels.specs.declared.feature_label.FeatureLabel.{FeatureLabel}
use Rattle.guppy_packages.specs.Tables.{Tables}
use Rattle.cargo_plans.specs.plan_rows.Steps.{SettingsText, is_host, side_base}
use Rattle.cargo_plans.specs.plan_rows.declared.side.Side.{Side}
use Rattle.cargo_plans.specs.plan_rows.declared.side.Side.TheVariants.{Target, Host}
use Rattle.cargo_plans.specs.plan_starts.PackageVisits.{PairVisit, first_entry, is_on}
use Rattle.cargo_plans.specs.plan_steps.Plans.{IsOn}
use Rattle.cargo_plans.specs.plan_units.Commands.{on_starts}
use Rattle.plan_starts.specs.step_visits.Visits.{IsVisit, Visit, is_start, node_at, reaches, place_view}
use Rattle.walk_engine.specs.Laws.{every}
use Rattle.walk_engine.specs.Walks.{Content, Least}
use Rattle.plan_whys.specs.AllSteps.{AreAllSteps, ExplainsOn}
use Rattle.plan_whys.specs.Steps.{SpotText, WhyText}
use Rattle.plan_whys.specs.NodeWhys.{IsWhyOf, node_of}
use Rattle.plan_whys.specs.Whys.{Answers, AnswersEach, IsOnBy}
use Rattle.plan_whys.specs.inner.Nodes.{AnswersAt, IsLeast, NodeAnswers, SpotAnswers}
use Rattle.plan_whys.specs.StepViews.{found_text, spot_text}
use Rattle.plan_whys.specs.declared.steps.Spot.{Spot}
use Rattle.plan_whys.specs.declared.steps.WhyStep.{WhyStep}

-- the content of one build is that of each
abbrev pub OneContent : Tables → Type 0
OneContent t = (a b : Built) (direction : DependencyDirection) → IsBuilt t a → IsBuilt t b → content_of direction a ≡ content_of direction b

visit_least : (t : Tables) (starts : List (ℕ × LabelName)) (v : Visit) (I : ℕ → Bool) → OneContent v.tables → IsVisit t starts v → ((n : ℕ) → I n ≡ is_start v.tables starts n) → (b : Built) → IsBuilt v.tables b → (n : ℕ) → IsTrue (has v.members n) ↔ Least (content_of Forward b) I every n
visit_least t starts v I one is same b is_built n = (
  (λ h. subst (λ (J : ℕ → Bool). Least (content_of Forward b) J every n) (sym alike) ((is.members n).0 h b (subst (λ (z : Tables). IsBuilt z b) is.tables is_built))),
  (λ h. (is.members n).1 (λ a is_too.
      subst (λ (c : Content). Least c (is_start t starts) every n) (one b a Forward is_built (subst (λ (z : Tables). IsBuilt z a) (sym is.tables) is_too))
      (subst (λ (J : ℕ → Bool). Least (content_of Forward b) J every n) alike h))),
)
  where
    alike : I ≡ is_start t starts
    alike = λ i k. (same k ∙ ap (λ (z : Tables). is_start z starts k) is.tables) i

-- the visit of step `on` is the least that has the nodes at which it starts
pub on_least : (w : WorkspaceText) (s : SettingsText) (on : PairVisit) (I : ℕ → Bool) → OneContent on.visit.tables → IsOnBy w s on → ((n : ℕ) → I n ≡ is_start on.visit.tables (on_starts w s) n) → IsLeast on I
unfolding IsOn
on_least w s on I one by same = visit_least by.1.1.rows_tables (on_starts w s) on.visit I one by.1.1.is_visit same

base_is : (count : ℕ) (side : Side) → first_entry (is_host side) count ≡ side_base count side
base_is count Target = refl
base_is count Host = refl

-- whether a label is on, by its node
found_on : (v : Visit) (inside : Bool) (k : ℕ) (label : LabelName) → (inside && reaches v k label) ≡ option_map_or (has v.members) (if inside then node_at v.tables k label else None) false
found_on v true k label = refl
found_on v false k label = refl

spot_on : (on : PairVisit) (spot : SpotText) → is_on on spot.side spot.number spot.label ≡ option_map_or (has on.visit.members) (node_of on spot) false
spot_on on spot =
    ap (λ base. nat_lt spot.number on.count && reaches on.visit (base + spot.number) spot.label) (base_is on.count spot.side)
    ∙ found_on on.visit (nat_lt spot.number on.count) (side_base on.count spot.side + spot.number) spot.label

pub off_without_node : (w : WorkspaceText) (s : SettingsText) (on : PairVisit) (spot : SpotText) (found : Option ℕ) → found ≡ None → found ≡ node_of on spot → Answers w s on spot None
off_without_node w s on spot found none same = spot_on on spot ∙ ap (λ o. option_map_or (has on.visit.members) o false) (sym same ∙ none)

pub answers_by_node : (w : WorkspaceText) (s : SettingsText) (on : PairVisit) (spot : SpotText) (I : ℕ → Bool) (n : ℕ) (found : Option (List WhyText)) → Some n ≡ node_of on spot → ((k : ℕ) → I k ≡ is_start on.visit.tables (on_starts w s) k) → NodeAnswers on I n found → Answers w s on spot found
answers_by_node w s on spot I n None same starts off = spot_on on spot ∙ ap (λ o. option_map_or (has on.visit.members) o false) (sym same) ∙ off
answers_by_node w s on spot I n (Some whys) same starts answer = record {
  is_on = spot_on on spot ∙ ap (λ o. option_map_or (has on.visit.members) o false) (sym same) ∙ answer.0;
  node = n;
  is_node = sym same;
  is_why = subst (λ (J : ℕ → Bool). IsWhyOf on J n whys) (λ i k. starts k i) answer.1;
}

-- the nodes of the places where step `on` starts
pub starts_are : (w : WorkspaceText) (s : SettingsText) (on : PairVisit) (v : Visit) (places taken : List (ℕ × FeatureLabel)) (I : ℕ → Bool) → v ≡ on.visit → map place_view places ≡ on_starts w s → taken ≡ places
    → ((n : ℕ) → I n ≡ is_start v.tables (map place_view taken) n) → (n : ℕ) → I n ≡ is_start on.visit.tables (on_starts w s) n
starts_are w s on v places taken I visit are same nodes n =
    nodes n ∙ ap (λ (u : Visit). is_start u.tables (map place_view taken) n) visit ∙ ap (λ ps. is_start on.visit.tables (map place_view ps) n) same ∙ ap (λ starts. is_start on.visit.tables starts n) are

pub spot_answered : (w : WorkspaceText) (s : SettingsText) (on : PairVisit) (I : ℕ → Bool) (spot : SpotText) (node : Option ℕ) (found : Option (List WhyText)) → node ≡ node_of on spot → ((k : ℕ) → I k ≡ is_start on.visit.tables (on_starts w s) k)
    → AnswersAt on I node found → Answers w s on spot found
spot_answered w s on I spot None found same starts answer = subst (Answers w s on spot) (sym answer) (off_without_node w s on spot None refl same)
spot_answered w s on I spot (Some n) found same starts answer = answers_by_node w s on spot I n found same starts answer

pub each_answered : (w : WorkspaceText) (s : SettingsText) (on : PairVisit) (I : ℕ → Bool) (spots : List Spot) (founds : List (Option (Vec WhyStep))) → ((k : ℕ) → I k ≡ is_start on.visit.tables (on_starts w s) k)
    → AllZip (SpotAnswers on I) spots founds → AnswersEach w s on spots founds
each_answered w s on I [] [] starts zip = tt
each_answered w s on I [] (found ∷ founds) starts zip = absurd zip
each_answered w s on I (at ∷ spots) [] starts zip = absurd zip
each_answered w s on I (at ∷ spots) (found ∷ founds) starts zip =
    (spot_answered w s on I (spot_text at) (node_of on (spot_text at)) (found_text found) refl starts zip.0, each_answered w s on I spots founds starts zip.1)

-- all steps, from the places where step `on` starts
pub steps_by_starts : (w : WorkspaceText) (s : SettingsText) (on : PairVisit) (I : ℕ → Bool) (whys : List WhyText) → ((k : ℕ) → I k ≡ is_start on.visit.tables (on_starts w s) k) → AreAllSteps on I whys → ExplainsOn w s on whys
steps_by_starts w s on I whys starts all = subst (λ (J : ℕ → Bool). AreAllSteps on J whys) (λ i k. starts k i) all
