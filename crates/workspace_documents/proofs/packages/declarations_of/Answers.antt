use Rattle.std.proofs.Common.{◌∙◌, ℕ, ap, map}
use Rattle.std.proofs.lemmas.List.{map-append}
use Rattle.cargo_json.specs.declared.fault.Place.TheVariants as place
use Rattle.workspace_documents.specs.Packages.{declaration_in}
use Rattle.workspace_documents.specs.Views.{declaration_view}
use Rattle.workspace_documents.proofs.Lists.{each_more}
use Rattle.workspace_documents.proofs.packages.declarations_of.Goals as goal

pub loop-dependency-preserved : goal.loop-dependency-preserved
loop-dependency-preserved c =
    let pushed = ap (map declaration_view) c.in_ok-push.ensures.items ∙ map-append declaration_view c.loop-dependency.declarations.items _ in
    rw pushed (each_more (λ (i : ℕ). declaration_in (place.Dependency c.args.package i)) _ c.loop-dependency.dependency c.object-item.result _ (declaration_view c.in_ok-declaration_of.field-0) _ c.loop-dependency-test.true c.object-item.is c.in_ok-declaration_of.ensures c.loop-dependency.invariant)
