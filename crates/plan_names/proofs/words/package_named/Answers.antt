use Rattle.std.proofs.Common.{◌∙◌, List, ap, length, map}
use Rattle.std.specs.Prelude.{nat_lt}
use Rattle.std.specs.List.{list_all}
use Rattle.cargo_workspaces.specs.WorkspaceView.{workspace_text}
use Rattle.plan_names.specs.Names.{NamedText}
use Rattle.plan_names.specs.Views.{named_text}
use Rattle.plan_names.proofs.Among.{package_below, package_listed, whole_below}
use Rattle.plan_names.proofs.words.package_named.Goals as goal

pub returns-clause-within : goal.returns-clause-within
returns-clause-within c =
    let packages = (workspace_text c.args.workspace.now).packages in
    let below = λ (n : NamedText). nat_lt n.owner (length packages) in
    package_below (length packages) c.args.word.now (map named_text c.in_ok-whole.whole.items) c.the_package.result
    (ap (λ (xs : List NamedText). list_all below xs) c.in_ok-whole.ensures ∙ whole_below packages c.args.word.now) c.the_package.ensures

pub returns-clause-candidates_within : goal.returns-clause-candidates_within
returns-clause-candidates_within c =
    let packages = (workspace_text c.args.workspace.now).packages in
    let below = λ (n : NamedText). nat_lt n.owner (length packages) in
    package_listed (length packages) c.args.word.now (map named_text c.in_ok-whole.whole.items) c.the_package.result
    (ap (λ (xs : List NamedText). list_all below xs) c.in_ok-whole.ensures ∙ whole_below packages c.args.word.now) c.the_package.ensures
