use Rattle.std.proofs.Common.{◌≡◌, ◌∙◌, ap, length, rules, sym}
use Rattle.std.specs.String.{string_bytes}
use Rattle.cargo_workspaces.specs.Views.{texts}
use Rattle.plan_rows.specs.inner.Merged.{merged}
use Rattle.plan_rows.proofs.GateLemmas.{merged-none, none_from_length}
use Rattle.plan_rows.proofs.gated_features.items_of.Goals as goal

pub returns-then-is_empty : goal.returns-then-is_empty
returns-then-is_empty c =
    let empty : length c.args.gates.now ≡ 0 = search rules in
    sym (ap (merged (texts c.args.items.now)) (none_from_length string_bytes c.args.gates.now empty) ∙ merged-none (texts c.args.items.now))
