use Rattle.std.proofs.Common.{ℕ}
use Rattle.cargo_json.specs.declared.fault.Place.TheVariants as place
use Rattle.workspace_documents.specs.Packages.{use_in}
use Rattle.workspace_documents.specs.Views.{use_view, uses_view}
use Rattle.workspace_documents.proofs.UseSets.{uses_more}
use Rattle.workspace_documents.proofs.uses.uses_of.Goals as goal

pub loop-kind-preserved : goal.loop-kind-preserved
loop-kind-preserved c =
    uses_more (uses_view c.loop-kind.uses) _ (use_view c.in_ok-use_of.field-0) c.in_ok-insert_use.ensures (λ (k : ℕ). use_in (place.DepKind c.args.node c.args.dep k)) _ c.loop-kind.kind c.object-item.result _ c.loop-kind-test.true c.object-item.is c.in_ok-use_of.ensures c.loop-kind.invariant
