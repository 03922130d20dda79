use Rattle.std.proofs.Common.{◌≡◌, drop}
use Rattle.json.specs.Value.{items_view}
use Rattle.feats_summary.specs.Places.{with_packages}
use Rattle.feats_summary.specs.inner.Views.{entry_texts}
use Rattle.feats_summary.proofs.places.insert_all.Given as goal

abbrev pub invariant-loop-package : goal.invariant-loop-package
invariant-loop-package l =
    with_packages (entry_texts l.initial.manifests.entries) (items_view l.packages.items)
    ≡ with_packages (entry_texts l.manifests.entries) (items_view (drop l.package-index l.package-items))
