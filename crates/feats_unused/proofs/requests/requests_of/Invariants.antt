use Rattle.std.proofs.Common.{◌≡◌, ◌++◌, map, drop}
use Rattle.cargo_workspaces.specs.Views.{package_text}
use Rattle.feats_unused.specs.Requests.{requests_from}
use Rattle.feats_unused.specs.Views.{request_text}
use Rattle.feats_unused.proofs.requests.requests_of.Given as goal

abbrev pub invariant-loop-ix : goal.invariant-loop-ix
invariant-loop-ix l =
    requests_from 0 (map package_text l.packages) ≡ map request_text l.requests.items ++ requests_from l.ix (map package_text (drop l.ix l.packages))
