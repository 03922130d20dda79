use Rattle.std.proofs.Common.{◌≡◌, ◌++◌, drop, flat_map}
use Rattle.std.specs.String.{string_bytes}
use Rattle.cargo_workspaces.specs.Views.{texts}
use Rattle.feats_check.specs.texts.Messages.{others_than, triple_line}
use Rattle.feats_check.proofs.texts.messages.push_others.Given as goal

abbrev pub invariant-loop-triple : goal.invariant-loop-triple
invariant-loop-triple l =
    string_bytes l.initial.text ++ flat_map triple_line (others_than l.host (texts l.triples))
    ≡ string_bytes l.text ++ flat_map triple_line (others_than l.host (texts (drop l.triple-index l.triples)))
