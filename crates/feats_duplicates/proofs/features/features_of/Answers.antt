use Rattle.std.proofs.Common.{ℕ, List, flat_map, map, take, subst, ap, ◌∙◌, ◌++◌}
use Rattle.std.specs.Borrow.{Bor}
use Rattle.cargo_workspaces.specs.Views.{texts}
use Rattle.feats_duplicates.specs.Alone.{MemberUnitText}
use Rattle.feats_duplicates.specs.Views.{member_unit_text}
use Rattle.feats_duplicates.specs.inner.Sets.{HasTexts}
use Rattle.feats_duplicates.proofs.Sets.{joined_more}
use Rattle.feats_duplicates.proofs.features.features_of.Goals as goal

pub loop-row-preserved : goal.loop-row-preserved
loop-row-preserved c =
    let i = c.loop-row.row-index in
    let rows = c.args.rows.now in
    let x = c.row-item.result in
    let f = λ (r : MemberUnitText). r.unit.features in
    let so_far = flat_map f (map member_unit_text (take i rows)) in
    subst (HasTexts c.insert_all.new.set)
    (ap (λ (names : List (Bor (List ℕ))). so_far ++ texts names) c.deref.ensures.value ∙ joined_more member_unit_text f rows i x c.loop-row-test.true c.row-item.is)
    (c.in_ok-insert_all.ensures so_far c.loop-row.invariant)
