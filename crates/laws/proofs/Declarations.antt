-- Plans follow declarations.
use Rattle.std.proofs.Common.{◌≡◌, ℕ, List, Some, length, refl, sym, subst}
use Rattle.std.specs.Prelude.{Contains, IsTrue, Bool, slice_get}
use Rattle.guppy_packages.specs.Tables.{LinkTable}
use Rattle.feature_labels.specs.Names.{LabelName}
use Rattle.feature_labels.specs.Names.LabelName.{base}
use Rattle.cargo_workspaces.specs.Workspaces.{IsWorkspace, WorkspaceText}
use Rattle.plan_rows.specs.Steps.{SettingsText, built_entries}
use Rattle.plan_rows.specs.Tables.{flag_at, rows_of}
use Rattle.cargo_plans.specs.plan_starts.PackageVisits.{PairVisit}
use Rattle.cargo_plans.specs.plan_starts.Starts.{Starts, dev_flags, start_places, starts_of}
use Rattle.cargo_plans.specs.plan_starts.Targets.{TargetRules}
use Rattle.plan_starts.specs.step_visits.Visits.{IsVisitOf, Visit, reaches}
use Rattle.cargo_plans.specs.plan_steps.Plans.{IsBuiltFrom, starts_by, turned_on}
use Rattle.laws.specs.plans.Laws.{FollowsDeclarations, PlansFollowDeclarations}
use Rattle.laws.proofs.Closed.{visit_in}
use Rattle.laws.proofs.EntryLinks.{link_back, rows_sound}
use Rattle.laws.proofs.BuiltStep.{entries_follow, entries_within, in_place, starts_in, units_in}

-- the starts and the visit, with their definitions
starts_are : (w : WorkspaceText) (s : SettingsText) (selected : List ℕ) (kept on : PairVisit) → starts_by w s selected kept on ≡ starts_of (record { settings = s; packages = w.packages; kept = kept; on = on }) selected
unfolding starts_by
starts_are w s selected kept on = refl

visit_is : (w : WorkspaceText) (s : SettingsText) (on : PairVisit) (from : Starts) (built : Visit) → IsBuiltFrom w s on from built
    → IsVisitOf (rows_of (built_entries w s (turned_on on) (flag_at (dev_flags (length s.targets) from)))) (start_places (length s.targets) from) built
unfolding IsBuiltFrom
visit_is w s on from built h = h

module _ (w : WorkspaceText) (is : IsWorkspace w) (P : ℕ → Bool) (follows : FollowsDeclarations w P) (s : SettingsText) (on : PairVisit) where
  reached_follows : (with_dev : ℕ → Bool) (starts : List (ℕ × LabelName)) (built : Visit) → ((x : ℕ × LabelName) → Contains starts x → IsTrue (in_place w is P follows x.0))
      → IsVisitOf (rows_of (built_entries w s (turned_on on) with_dev)) starts built → (k : ℕ) → IsTrue (reaches built k base) → IsTrue (in_place w is P follows k)
  reached_follows with_dev starts built begins visit k h =
      let es = built_entries w s (turned_on on) with_dev in
      let t = visit.rows_tables in
      visit_in t (in_place w is P follows) links starts built (rows_sound (rows_of es) t visit.are_tables) visit.is_visit begins k base h
    where
      links : (k : ℕ) (l : LinkTable) → slice_get visit.rows_tables.links k ≡ Some l → IsTrue (in_place w is P follows l.from) → IsTrue (in_place w is P follows l.to)
      links k l there q =
          let es = built_entries w s (turned_on on) with_dev in
          let f = link_back es visit.rows_tables visit.are_tables (entries_within w is P follows s (turned_on on) with_dev) k l there in
          subst (λ z. IsTrue (in_place w is P follows z)) f.leads (entries_follow w is P follows s (turned_on on) with_dev l.from f.entry f.dependency f.there f.member q)

pub plans_follow : PlansFollowDeclarations
plans_follow w s selected plan is made P follows chosen u h =
    let built = made.holds.2 in
    let rules : TargetRules = record { settings = s; packages = w.packages; kept = made.kept; on = made.on } in
    let from = starts_by w s selected made.kept made.on in
    let visit = visit_is w s made.on from plan.built built.is_built in
    let begins = subst (λ z. (x : ℕ × LabelName) → Contains (start_places (length s.targets) z) x → IsTrue (in_place w is P follows x.0)) (sym (starts_are w s selected made.kept made.on)) (starts_in w is P follows rules refl selected chosen (length s.targets)) in
    let reached = reached_follows w is P follows s made.on (flag_at (dev_flags (length s.targets) from)) (start_places (length s.targets) from) plan.built begins visit in
    units_in w is P follows made.on plan.built reached s.split (length s.targets) u (subst (λ z. Contains z u) built.are_units h)
