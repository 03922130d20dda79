use Rattle.std.proofs.Common.{◌≡◌, map, take}
use Rattle.std.specs.List.{filter}
use Rattle.cargo_workspaces.specs.Views.{declaration_text, texts}
use Rattle.plan_names.specs.Names.{each_once}
use Rattle.plan_words.specs.Patterns.{fits}
use Rattle.plan_names.proofs.package_parts.optional_names.Given as goal

abbrev pub invariant-loop-declaration : goal.invariant-loop-declaration
invariant-loop-declaration l =
    texts l.names.items ≡ each_once (filter (fits l.pattern) (map (λ d. d.name) (filter (λ d. d.optional) (map declaration_text (take l.declaration-index l.«package».declarations.items)))))
