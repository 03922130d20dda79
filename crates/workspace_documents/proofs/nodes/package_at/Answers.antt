use Rattle.std.proofs.Common.{◌≡◌, ◌∙◌, sym, ap}
use Rattle.std.specs.Prelude.{option_map, Some, None}
use Rattle.workspace_documents.specs.Lists.{at_id}
use Rattle.workspace_documents.specs.Nodes.{found_or, package_at}
use Rattle.workspace_documents.specs.Views.{package_view, entries_view}
use Rattle.workspace_documents.proofs.Entries.{at_id-entries}
use Rattle.workspace_documents.proofs.nodes.package_at.Goals as goal

pub returns-in-Some : goal.returns-in-Some
unfolding package_at
returns-in-Some c =
    let found : at_id c.args.id.now (entries_view package_view c.args.packages.now.entries) ≡ Some (package_view c.in-Some.target.now) = at_id-entries package_view c.args.id.now c.args.packages.now.entries ∙ ap (option_map package_view) (sym c.in-Some.ensures.value) in
    ap (found_or c.args.place c.args.name.now c.args.id.now) found

pub returns-in_ok-no_package-in-None : goal.returns-in_ok-no_package-in-None
unfolding package_at
returns-in_ok-no_package-in-None c =
    let found : at_id c.args.id.now (entries_view package_view c.args.packages.now.entries) ≡ None = at_id-entries package_view c.args.id.now c.args.packages.now.entries ∙ ap (option_map package_view) (sym c.in-None.ensures.value) in
    rw c.in_ok-no_package-in-None.ensures (ap (found_or c.args.place c.args.name.now c.args.id.now) found)
