use Rattle.std.proofs.Common.{◌≡◌, drop}
use Rattle.cargo_workspaces.specs.Views.{texts}
use Rattle.cargo_manifests.specs.Edits.{once, with_texts}
use Rattle.cargo_manifests.specs.inner.Seen.{HasTexts}
use Rattle.cargo_manifests.proofs.declaration_edits.once.Given as goal

abbrev pub invariant-loop-feature : goal.invariant-loop-feature
invariant-loop-feature l = record {
  seen : HasTexts l.seen (texts l.listed.items);
  listed : once (texts l.features) ≡ with_texts (texts l.listed.items) (texts (drop l.feature-index l.features));
}
