use Rattle.std.proofs.Common.{◌≡◌, map, drop, false}
use Rattle.std.specs.Option.{unwrap_or}
use Rattle.std.specs.Str.{bytes_eq}
use Rattle.cargo_workspaces.specs.Views.{declaration_text}
use Rattle.cargo_workspaces.specs.Workspaces.{DeclarationText}
use Rattle.plan_words.specs.FeatureWords.{last_of, value_if}
use Rattle.plan_words.proofs.lookups.is_optional.Given as goal

abbrev pub invariant-loop-declaration : goal.invariant-loop-declaration
invariant-loop-declaration l =
    let named = λ (d : DeclarationText). value_if (bytes_eq d.name l.name) d.optional in
    unwrap_or (last_of named (map declaration_text l.package.declarations.items)) false ≡ unwrap_or (last_of named (map declaration_text (drop l.declaration-index l.package.declarations.items))) l.optional
