use Rattle.std.proofs.Common.{◌≡◌, ◌++◌, map, drop}
use Rattle.guppy_packages.specs.Rows.{row_text}
use Rattle.plan_rows.specs.Gates.{gated_text}
use Rattle.plan_rows.specs.Tables.{feature_row}
use Rattle.plan_rows.proofs.resolved_rows.push_all_gated.Given as goal

abbrev pub invariant-loop-feature : goal.invariant-loop-feature
invariant-loop-feature l =
    map row_text l.initial.rows.items ++ map feature_row (map gated_text l.features) ≡ map row_text l.rows.items ++ map feature_row (map gated_text (drop l.feature-index l.features))
