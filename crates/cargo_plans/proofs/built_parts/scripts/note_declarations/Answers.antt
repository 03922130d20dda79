use Rattle.std.proofs.Common.{◌≡◌, ◌∙◌, ap, sym, ℕ, Bool, ◌&&◌, Option}
use Rattle.cargo_workspaces.specs.Views.{declaration_text}
use Rattle.cargo_plans.specs.built_parts.BuiltViews.{is_built_in, slot_at}
use Rattle.feature_labels.specs.Names.LabelName.{optional}
use Rattle.cargo_plans.specs.built_parts.Scripts as spec
use Rattle.cargo_plans.proofs.ScriptLemmas.{noted_more}
use Rattle.cargo_plans.proofs.built_parts.scripts.note_declarations.Goals as goal

pub loop-declaration-preserved : goal.loop-declaration-preserved
loop-declaration-preserved g c = λ q.
    noted_more (spec.wants_by (g.P.Platform.holds c.args.host.now) (λ name. is_built_in c.args.parts.now c.args.side c.args.ix (optional name)) q) declaration_text c.args.declarations.now
    c.loop-declaration.declaration-index c.declaration-item.result c.args.ix (slot_at c.args.first.now.items q) (slot_at c.loop-declaration.first.items q) _ _ c.loop-declaration-test.true c.declaration-item.is
    (ap (λ (b : Bool). b && spec.is_towards q (declaration_text c.declaration-item.result)) c.is_for_script-counts.ensures) (c.in_ok-note_declared.ensures q) (c.loop-declaration.invariant q)
