use Rattle.std.proofs.Common.{map, filter, take}
use Rattle.cargo_workspaces.specs.Views.{declaration_text}
use Rattle.feats_list.specs.features.inner.Names.{AreOnce}
use Rattle.feats_list.proofs.features.optional_names.optional_names.Given as goal

abbrev pub invariant-loop-declaration : goal.invariant-loop-declaration
invariant-loop-declaration l =
    AreOnce (map (λ d. d.name) (filter (λ d. d.optional) (map declaration_text (take l.declaration-index l.declarations)))) l.seen l.names.items
