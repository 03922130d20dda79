use Rattle.std.proofs.Common.{◌∙◌, List, ap, length, map}
use Rattle.std.specs.Prelude.{nat_lt}
use Rattle.std.specs.List.{list_all}
use Rattle.cargo_workspaces.specs.WorkspaceView.{workspace_text}
use Rattle.plan_names.specs.Names.{NamedText}
use Rattle.plan_names.specs.Views.{named_text}
use Rattle.plan_names.proofs.Among.{candidates_below, listed_below, named_below}
use Rattle.plan_names.proofs.words.parts_named.Goals as goal

pub returns-clause-within : goal.returns-clause-within
returns-clause-within c =
    let packages = (workspace_text c.args.workspace.now).packages in
    let below = λ (n : NamedText). nat_lt n.owner (length packages) in
    named_below (λ v. map named_text v.items) below c.args.word.now (map named_text c.in_ok-candidates.candidates.items) c.named_of.result
    (ap (λ (xs : List NamedText). list_all below xs) c.in_ok-candidates.ensures ∙ candidates_below packages c.args.selected.now c.args.word.now) c.named_of.ensures

pub returns-clause-candidates_within : goal.returns-clause-candidates_within
returns-clause-candidates_within c =
    let packages = (workspace_text c.args.workspace.now).packages in
    let below = λ (n : NamedText). nat_lt n.owner (length packages) in
    listed_below (λ v. map named_text v.items) below c.args.word.now (map named_text c.in_ok-candidates.candidates.items) c.named_of.result
    (ap (λ (xs : List NamedText). list_all below xs) c.in_ok-candidates.ensures ∙ candidates_below packages c.args.selected.now c.args.word.now) c.named_of.ensures
