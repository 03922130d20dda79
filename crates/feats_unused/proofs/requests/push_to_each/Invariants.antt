use Rattle.std.proofs.Common.{◌≡◌, ◌++◌, ℕ, flat_map, map, drop}
use Rattle.feats_unused.specs.Requests.{request}
use Rattle.feats_unused.specs.Views.{request_text}
use Rattle.feats_unused.proofs.requests.push_to_each.Given as goal

abbrev pub invariant-loop-to : goal.invariant-loop-to
invariant-loop-to l =
    let f = λ (q : ℕ). request l.from q l.feature in
    map request_text l.initial.requests.items ++ flat_map f l.leads ≡ map request_text l.requests.items ++ flat_map f (drop l.to-index l.leads)
