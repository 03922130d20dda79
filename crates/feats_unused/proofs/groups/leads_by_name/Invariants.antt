use Rattle.std.proofs.Common.{◌≡◌, ◌++◌, map, drop}
use Rattle.cargo_workspaces.specs.Views.{declaration_text}
use Rattle.cargo_workspaces.specs.Workspaces.{Text}
use Rattle.feats_unused.specs.Requests.{leads_of}
use Rattle.feats_unused.specs.inner.Groups.{named}
use Rattle.feats_unused.proofs.groups.leads_by_name.Given as goal

abbrev pub invariant-loop-declaration : goal.invariant-loop-declaration
invariant-loop-declaration l =
    (q : Text) → leads_of (map declaration_text l.declarations) q ≡ named l.names q ++ leads_of (map declaration_text (drop l.declaration-index l.declarations)) q
