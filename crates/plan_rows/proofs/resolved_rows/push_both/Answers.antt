use Rattle.std.proofs.Common.{◌≡◌, ◌∙◌, length, map}
use Rattle.std.proofs.lemmas.List.{length-map}
use Rattle.guppy_packages.specs.Rows.{row_text}
use Rattle.cargo_workspaces.specs.Views.{package_text}
use Rattle.plan_rows.specs.Commands.{command_of, command_texts}
use Rattle.plan_rows.specs.Steps.{other_entry, started_entry}
use Rattle.plan_rows.specs.Tables.{each_from}
use Rattle.plan_rows.proofs.Lists.{on_ok}
use Rattle.plan_rows.proofs.EntryLemmas.{entries_then, length-each_from}
use Rattle.plan_rows.proofs.resolved_rows.push_both.Goals as goal

pub returns : goal.returns
returns c =
    let ps = map package_text c.args.packages.now in
    let others = each_from other_entry 0 ps in
    let starts = each_from (λ p x. started_entry (command_of (command_texts c.args.commands.now) p) x) 0 ps in
    let long : length others ≡ length c.args.packages.now = length-each_from other_entry 0 ps ∙ length-map c.args.packages.now package_text in
    on_ok c.push_starts.result c.push_starts.ensures
    (λ e. entries_then (length c.args.packages.now) others starts (map row_text c.args.rows.now.items) (map row_text c.push_others.new.rows.items) (map row_text c.push_starts.new.rows.items) long c.in_ok-push_others.ensures e)
