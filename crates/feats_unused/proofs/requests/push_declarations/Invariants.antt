use Rattle.std.proofs.Common.{◌≡◌, ◌++◌, flat_map, map, drop}
use Rattle.cargo_workspaces.specs.Views.{declaration_text}
use Rattle.feats_unused.specs.Requests.{by_declaration}
use Rattle.feats_unused.specs.Views.{request_text}
use Rattle.feats_unused.proofs.requests.push_declarations.Given as goal

abbrev pub invariant-loop-declaration : goal.invariant-loop-declaration
invariant-loop-declaration l =
    let f = by_declaration l.from in
    map request_text l.initial.requests.items ++ flat_map f (map declaration_text l.declarations) ≡ map request_text l.requests.items ++ flat_map f (map declaration_text (drop l.declaration-index l.declarations))
