use Rattle.std.proofs.Common.{◌≡◌, ◌∙◌, ◌+◌, ◌<◌, ◌∷◌, ◌++◌, ap, add-one, drop, drop-cons, get_or, length, List, map, ℕ, refl, suc}
use Rattle.std.proofs.lemmas.List.{length-map}
use Rattle.guppy_packages.specs.Rows.{row_text}
use Rattle.cargo_workspaces.specs.Views.{package_text}
use Rattle.plan_rows.specs.SettingsView.{settings_text}
use Rattle.plan_rows.specs.Steps.{built_entry, built_from, built_place, macros_of}
use Rattle.plan_rows.specs.Tables.{flag_at, rows_from}
use Rattle.plan_rows.specs.declared.side.Side.TheVariants.{Target}
use Rattle.plan_rows.proofs.EntryLemmas.{length-each_from, places_room, places_step}
use Rattle.plan_rows.proofs.built_rows.push_targets.Goals as goal

pub loop-platform-preserved : goal.loop-platform-preserved
loop-platform-preserved g c =
    let ps = c.args.packages.now in
    let given = c.args.rules.now in
    let ts = c.args.targets.now in
    let i = c.loop-platform.platform-index in
    let next = c.loop-platform.next in
    let item = c.platform-item.result in
    let settings = settings_text g.P.Platform.holds given.settings.now in
    let turned_on = g.T.TurnedOn.turned_on given.turned_on.now in
    let with_dev = flag_at given.with_dev.now in
    let pts = map package_text ps in
    let size = length pts in
    let r0 = map row_text c.loop-platform.rows.items in
    let r1 = map row_text c.push_place.new.rows.items in
    let all = map row_text c.args.rows.now.items ++ rows_from c.args.base (built_from pts settings turned_on with_dev c.args.base (map g.P.Platform.holds ts)) in
    let within : i < length ts = c.loop-platform-test.true in
    let same : size ≡ length ps = length-map ps package_text in
    let entry = λ (b : ℕ) (x : g.row.P.Denot). built_entry (macros_of pts) settings (turned_on Target) with_dev b (g.P.Platform.holds x) in
    let pushed : r1 ≡ r0 ++ rows_from next (built_place pts settings (turned_on Target) with_dev next (g.P.Platform.holds (get_or ts i item))) =
    c.in_ok-push_place.ensures ∙ ap (λ (x : g.row.P.Denot). r0 ++ rows_from next (built_place pts settings (turned_on Target) with_dev next (g.P.Platform.holds x))) c.platform-item.is in
    let rows : all ≡ r1 ++ rows_from (next + size) (built_from pts settings turned_on with_dev (next + size) (map g.P.Platform.holds (drop (i + 1) ts))) =
    places_step (λ (b : ℕ) (xs : List g.row.P.Denot). built_from pts settings turned_on with_dev b (map g.P.Platform.holds xs)) (λ (b : ℕ) (x : g.row.P.Denot). built_place pts settings (turned_on Target) with_dev b (g.P.Platform.holds x)) size
    (λ b x xs. refl) (λ b x. length-each_from (entry b x) 0 pts) ts i next item all r0 r1 within c.loop-platform.invariant.0 pushed in
    let cut : drop i ts ≡ get_or ts i item ∷ drop (i + 1) ts = rw (add-one, drop-cons ts i item within) refl in
    let few = length (drop (i + 1) ts) in
    let many : length (drop i ts) ≡ suc few = ap (λ (xs : List g.row.P.Denot). length xs) cut in (
      rows ∙ ap (λ n. r1 ++ rows_from (next + n) (built_from pts settings turned_on with_dev (next + n) (map g.P.Platform.holds (drop (i + 1) ts)))) same,
      places_room next (length ps) few (length (drop i ts)) c.args.ids.now many c.loop-platform.invariant.1,
    )
