use Rattle.std.proofs.Common.{◌≡◌, ◌-◌, ◌≤◌, [], length}
use Rattle.std.specs.Prelude.{reverse, vec_len}
use Rattle.json.specs.Value.{items_view}
use Rattle.cargo_json.specs.declared.fault.Place.TheVariants as place
use Rattle.workspace_documents.specs.Lists.{each_by_id}
use Rattle.workspace_documents.specs.Packages.{package_with_id}
use Rattle.workspace_documents.specs.Views.{package_view, entries_view}
use Rattle.workspace_documents.proofs.packages.packages_from.Given as goal

-- the objects that are left stand in reverse
abbrev pub invariant-objects : goal.invariant-objects
invariant-objects l = record {
  within : length l.objects.items ≤ l.count;
  so : each_by_id package_with_id place.Package 0 [] (items_view l.fn.objects.items) ≡ each_by_id package_with_id place.Package (l.count - length l.objects.items) (entries_view package_view l.packages.entries) (items_view (reverse l.objects.items));
}

abbrev pub decreases-objects : goal.decreases-objects
decreases-objects l = vec_len l.objects
