use Rattle.feats_words.specs.Commands.{check_shape, diff_shape, dot_shape, duplicates_shape, list_shape, plan_shape, report_shape, slim_shape, specs_shape, tree_shape, why_not_shape, why_shape}
use Rattle.feats_words.proofs.command.feats_command.Goals as goal

pub returns : goal.returns
returns c =
    let plan = c.with_command-command.ensures _ plan_shape c.bare_command.ensures c.plan_command.ensures in
    let why = c.with_command-command-2.ensures _ why_shape plan c.why_command.ensures in
    let why_not = c.with_command-command-3.ensures _ why_not_shape why c.why_not_command.ensures in
    let specs = c.with_command-command-4.ensures _ specs_shape why_not c.specs_command.ensures in
    let list = c.with_command-command-5.ensures _ list_shape specs c.list_command.ensures in
    let duplicates = c.with_command-command-6.ensures _ duplicates_shape list c.duplicates_command.ensures in
    let tree = c.with_command-command-7.ensures _ tree_shape duplicates c.tree_command.ensures in
    let dot = c.with_command-command-8.ensures _ dot_shape tree c.dot_command.ensures in
    let report = c.with_command-command-9.ensures _ report_shape dot c.report_command.ensures in
    let check = c.with_command-command-10.ensures _ check_shape report c.check_command.ensures in
    let diff = c.with_command-command-11.ensures _ diff_shape check c.diff_command.ensures in
    c.with_command.ensures _ slim_shape diff c.slim_command.ensures
