use Rattle.std.proofs.Common.{◌≡◌, ◌++◌, flat_map, drop}
use Rattle.std.specs.String.{string_bytes}
use Rattle.cargo_workspaces.specs.Views.{texts}
use Rattle.feats_why.specs.Reasons.{and_text}
use Rattle.feats_why.proofs.reasons.push_more.Given as goal

abbrev pub invariant-loop-platform : goal.invariant-loop-platform
invariant-loop-platform l =
    string_bytes l.initial.text ++ flat_map and_text (texts l.platforms) ≡ string_bytes l.text ++ flat_map and_text (texts (drop l.platform-index l.platforms))
