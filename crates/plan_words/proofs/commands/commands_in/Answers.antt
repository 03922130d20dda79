use Rattle.std.proofs.Common.{length, sym, subst}
use Rattle.cargo_workspaces.specs.Views.{package_text}
use Rattle.cargo_workspaces.specs.Workspaces.{IsPackage}
use Rattle.cargo_workspaces.specs.declared.package.Package.{Package}
use Rattle.plan_words.specs.Selections.{selection_text}
use Rattle.plan_words.specs.inner.Lookups.{HasSortedFeatures}
use Rattle.plan_words.specs.inner.Views.{started_text}
use Rattle.plan_words.proofs.CommandLemmas.{commands_more}
use Rattle.plan_words.proofs.Lists.{all_place}
use Rattle.plan_words.proofs.commands.commands_in.Goals as goal

pub push_command-requires : goal.push_command-requires
push_command-requires c =
    let ps = c.args.packages.now in
    let item = c.index-packages-ix.result in
    let here = all_place package_text (IsPackage (length ps)) ps c.loop-ix.ix item c.requires.packages c.loop-ix-test.true in
    subst (λ (x : Package). HasSortedFeatures (package_text x)) (sym c.index-packages-ix.is) here.0

pub loop-ix-preserved : goal.loop-ix-preserved
loop-ix-preserved c =
    commands_more (selection_text c.args.selection.now) (started_text c.args.begun.now) c.args.packages.now c.loop-ix.ix c.index-packages-ix.result _ _ _ _ c.loop-ix-test.true c.index-packages-ix.is (c.requires.marks.at c.loop-ix.ix) c.loop-ix.invariant c.in_ok-push_command.ensures
