use Rattle.std.proofs.Common.{◌≡◌, ℕ, Some, None, if◌then◌else◌, map, take}
use Rattle.std.specs.List.{list_any}
use Rattle.std.specs.Option.{option_or}
use Rattle.cargo_workspaces.specs.Views.{declaration_text}
use Rattle.cargo_plans.specs.built_parts.BuiltViews.{is_built_in, slot_at}
use Rattle.feature_labels.specs.Names.LabelName.{optional}
use Rattle.cargo_plans.specs.built_parts.Scripts as spec
use Rattle.cargo_plans.proofs.built_parts.scripts.note_declarations.Given as goal

abbrev pub invariant-loop-declaration : goal.invariant-loop-declaration
invariant-loop-declaration g l =
    (q : ℕ) → slot_at l.first.items q ≡ option_or (slot_at l.fn.first.items q)
    (if list_any (spec.wants_by (g.P.Platform.holds l.host) (λ name. is_built_in l.parts l.side l.ix (optional name)) q) (map declaration_text (take l.declaration-index l.declarations)) then Some l.ix else None)
