use Rattle.std.proofs.Common.{◌≡◌, map, drop}
use Rattle.std.specs.List.{list_any}
use Rattle.std.specs.Str.{bytes_eq}
use Rattle.cargo_workspaces.specs.Views.{declaration_text}
use Rattle.plan_words.proofs.lookups.declares.Given as goal

abbrev pub invariant-loop-declaration : goal.invariant-loop-declaration
invariant-loop-declaration l =
    list_any (λ d. bytes_eq d.name l.name) (map declaration_text l.package.declarations.items)
    ≡ list_any (λ d. bytes_eq d.name l.name) (map declaration_text (drop l.declaration-index l.package.declarations.items))
