use Rattle.std.proofs.Common.{◌≡◌, ◌++◌, drop}
use Rattle.std.specs.Prelude.{flat_map}
use Rattle.std.specs.String.{string_bytes}
use Rattle.cargo_workspaces.specs.Views.{texts}
use Rattle.feats_files.specs.plan_messages.Messages.{needed_feature}
use Rattle.feats_files.proofs.plan_messages.refusals.push_features.Given as goal

abbrev pub invariant-loop-feature : goal.invariant-loop-feature
invariant-loop-feature l =
    string_bytes l.initial.text ++ flat_map needed_feature (texts l.features)
    ≡ string_bytes l.text ++ flat_map needed_feature (texts (drop l.feature-index l.features))
