use Rattle.std.proofs.Common.{◌≡◌, ◌++◌, map}
use Rattle.std.specs.Iterator.Adapters.{zip_first, zip_second}
use Rattle.std.specs.Slice.Iter.{iter_rest}
use Rattle.cargo_workspaces.specs.Views.{package_text}
use Rattle.workspace_documents.specs.Views.{text_view, package_view, entries_view}
use Rattle.workspace_documents.specs.LeadViews.{leads_view}
use Rattle.feats_plans.specs.numbered_workspaces.Numbers.{numbered_packages}
use Rattle.feats_plans.proofs.numbered_workspaces.numbers.numbered_packages.Given as goal

abbrev pub invariant-loop-package : goal.invariant-loop-package
invariant-loop-package l =
    let numbered = numbered_packages (map text_view l.ids) in
    numbered (entries_view package_view l.fn.packages.entries) (map leads_view l.fn.leads) ≡ map package_text l.numbered.items ++ numbered (entries_view package_view (zip_first l.package-iterator)) (map leads_view (iter_rest (zip_second l.package-iterator)))
