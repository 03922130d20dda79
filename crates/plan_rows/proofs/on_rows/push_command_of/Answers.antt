use Rattle.std.proofs.Common.{◌≡◌, ◌≤◌, None, length, map, rules}
use Rattle.std.specs.Prelude.{slice_get}
use Rattle.std.proofs.lemmas.Option.{slice_get_past}
use Rattle.guppy_packages.specs.Rows.{row_text}
use Rattle.cargo_workspaces.specs.Views.{feature_text}
use Rattle.plan_rows.proofs.EntryLemmas.{no_command}
use Rattle.plan_rows.proofs.on_rows.push_command_of.Goals as goal

pub returns-in-None : goal.returns-in-None
returns-in-None c =
    let past : length c.args.commands.now ≤ c.args.ix = search rules in
    let none : slice_get c.args.commands.now c.args.ix ≡ None = slice_get_past c.args.commands.now c.args.ix past in
    no_command feature_text c.args.commands.now c.args.ix (map row_text c.args.rows.now.items) none
