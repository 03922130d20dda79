use Rattle.std.proofs.Common.{◌≡◌, ◌++◌, ℕ, map, drop}
use Rattle.cargo_workspaces.specs.Views.{texts}
use Rattle.feats_unused.specs.Requests.{asked_of}
use Rattle.feats_unused.specs.Views.{request_text}
use Rattle.feats_unused.specs.inner.Groups.{group_at}
use Rattle.feats_unused.proofs.groups.asked_by_package.Given as goal

abbrev pub invariant-loop-request : goal.invariant-loop-request
invariant-loop-request l =
    (q : ℕ) → asked_of (map request_text l.requests) q ≡ texts (group_at l.groups q) ++ asked_of (map request_text (drop l.request-index l.requests)) q
