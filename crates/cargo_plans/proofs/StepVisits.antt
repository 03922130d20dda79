-- The tables of the steps, and their visits.
use Rattle.std.proofs.Common.{◌≡◌, ℕ, Bool, List, Result, Ok, length, map, refl, subst, sym}
use Rattle.std.specs.Prelude.{IfOk}
use Rattle.std.proofs.lemmas.Result.{IfOk-weaker}
use Rattle.cargo_workspaces.specs.Workspaces.{WorkspaceText}
use Rattle.plan_starts.specs.feature_labels.Names.{LabelName}
use Rattle.plan_starts.specs.feature_labels.declared.feature_label.FeatureLabel.{FeatureLabel}
use Rattle.plan_starts.specs.guppy_packages.Graph.{tables_of}
use Rattle.plan_starts.specs.guppy_packages.Rows.{RowText}
use Rattle.plan_starts.specs.guppy_packages.Tables.{Tables}
use Rattle.plan_rows.specs.Steps.{SettingsText, resolved_entries, on_entries, built_entries}
use Rattle.plan_rows.specs.Tables.{flag_at, rows_of}
use Rattle.plan_starts.specs.PackageVisits.{PairVisit, is_kept}
use Rattle.plan_starts.specs.Starts.{Starts, dev_flags, start_places}
use Rattle.cargo_plans.specs.plan_units.Commands.{resolved_starts, on_starts}
use Rattle.plan_starts.specs.step_visits.Visits.{IsVisit, IsVisitOf, Visit, place_view}
use Rattle.cargo_plans.specs.plan_steps.Plans.{IsResolved, IsOn, IsBuiltFrom, turned_on}
use Rattle.cargo_plans.specs.plan_steps.inner.StepTables.{AreResolvedTables, AreOnTables, AreBuiltTables}

visit_of : (rows : List RowText) (starts given : List (ℕ × LabelName)) (t : Tables) (v : Visit) → tables_of rows ≡ Ok t → given ≡ starts → IsVisit t given v → IsVisitOf rows starts v
visit_of rows starts given t v are from is = record { rows_tables = t; are_tables = are; is_visit = subst (λ s. IsVisit t s v) from is }

given_as : (starts : List (ℕ × LabelName)) (places taken : List (ℕ × FeatureLabel)) → map place_view places ≡ starts → taken ≡ places → map place_view taken ≡ starts
given_as starts places taken are same = subst (λ ps. map place_view ps ≡ starts) (sym same) are

-- a visit of as many packages
pub counted : (Q : PairVisit → Type 0) (n m : ℕ) (v : Visit) (made : PairVisit) → made ≡ record { count = n; visit = v } → n ≡ m → Q (record { count = m; visit = v }) → Q made
counted Q n m v made is same q = subst Q (sym is) (subst (λ k. Q (record { count = k; visit = v })) (sym same) q)

module _ {E : Type 0} where
  -- Step `resolved`.
  pub resolved_tables : (w : WorkspaceText) (s : SettingsText) (rows : List RowText) (r : Result Tables E) → rows ≡ rows_of (resolved_entries w s) → IfOk r (λ t. tables_of rows ≡ Ok t) → IfOk r (λ t. AreResolvedTables w s t)
  unfolding AreResolvedTables
  resolved_tables w s rows r are = IfOk-weaker r _ _ (λ t is. subst (λ z. tables_of z ≡ Ok t) are is)

  pub resolved_visit : (w : WorkspaceText) (s : SettingsText) (places taken : List (ℕ × FeatureLabel)) (t : Tables) (r : Result Visit E) → AreResolvedTables w s t → map place_view places ≡ resolved_starts w s → taken ≡ places
      → IfOk r (λ v. IsVisit t (map place_view taken) v) → IfOk r (λ v. IsResolved w s (record { count = length w.packages; visit = v }))
  unfolding IsResolved AreResolvedTables
  resolved_visit w s places taken t r are from same =
      IfOk-weaker r _ _ (λ v is. (refl, visit_of (rows_of (resolved_entries w s)) (resolved_starts w s) (map place_view taken) t v are (given_as _ places taken from same) is))

  -- Step `on`.
  pub on_tables : (w : WorkspaceText) (s : SettingsText) (kept : PairVisit) (rows : List RowText) (r : Result Tables E) → rows ≡ rows_of (on_entries w s (is_kept kept)) → IfOk r (λ t. tables_of rows ≡ Ok t) → IfOk r (λ t. AreOnTables w s kept t)
  unfolding AreOnTables
  on_tables w s kept rows r are = IfOk-weaker r _ _ (λ t is. subst (λ z. tables_of z ≡ Ok t) are is)

  pub on_visit : (w : WorkspaceText) (s : SettingsText) (kept : PairVisit) (places taken : List (ℕ × FeatureLabel)) (t : Tables) (r : Result Visit E) → AreOnTables w s kept t → map place_view places ≡ on_starts w s → taken ≡ places
      → IfOk r (λ v. IsVisit t (map place_view taken) v) → IfOk r (λ v. IsOn w s kept (record { count = length w.packages; visit = v }))
  unfolding IsOn AreOnTables
  on_visit w s kept places taken t r are from same =
      IfOk-weaker r _ _ (λ v is. (refl, visit_of (rows_of (on_entries w s (is_kept kept))) (on_starts w s) (map place_view taken) t v are (given_as _ places taken from same) is))

  -- Step `built`.
  pub built_tables : (w : WorkspaceText) (s : SettingsText) (on : PairVisit) (from : Starts) (flags : List Bool) (rows : List RowText) (r : Result Tables E) → flags ≡ dev_flags (length s.targets) from
      → rows ≡ rows_of (built_entries w s (turned_on on) (flag_at flags)) → IfOk r (λ t. tables_of rows ≡ Ok t) → IfOk r (λ t. AreBuiltTables w s on from t)
  unfolding AreBuiltTables
  built_tables w s on from flags rows r same are =
      IfOk-weaker r _ _ (λ t is. subst (λ z. tables_of (rows_of (built_entries w s (turned_on on) (flag_at z))) ≡ Ok t) same (subst (λ z. tables_of z ≡ Ok t) are is))

  pub built_visit : (w : WorkspaceText) (s : SettingsText) (on : PairVisit) (from : Starts) (places : List (ℕ × FeatureLabel)) (t : Tables) (r : Result Visit E) → AreBuiltTables w s on from t
      → map place_view places ≡ start_places (length s.targets) from → IfOk r (λ v. IsVisit t (map place_view places) v) → IfOk r (λ v. IsBuiltFrom w s on from v)
  unfolding IsBuiltFrom AreBuiltTables
  built_visit w s on from places t r are starts =
      IfOk-weaker r _ _ (λ v is. visit_of (rows_of (built_entries w s (turned_on on) (flag_at (dev_flags (length s.targets) from)))) (start_places (length s.targets) from) (map place_view places) t v are starts is)
