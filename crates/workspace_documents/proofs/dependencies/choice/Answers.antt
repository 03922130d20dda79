use Rattle.std.proofs.Common.{◌≡◌, ◌∙◌, ap, subst, sym, map}
use Rattle.std.specs.Prelude.{IfOk, []}
use Rattle.std.specs.Option.{option_map_or}
use Rattle.workspace_documents.specs.Dependencies.{choice}
use Rattle.workspace_documents.specs.Names.{at_places, places_of}
use Rattle.workspace_documents.specs.inner.Picks.{found_view}
use Rattle.workspace_documents.specs.Views.{declaration_view, dep_view}
use Rattle.workspace_documents.proofs.Named.{choice_at_name, choice_of_none}
use Rattle.workspace_documents.proofs.dependencies.choice.Goals as goal

pub returns-in-Some : goal.returns-in-Some
returns-in-Some c =
    let deps = map dep_view c.args.deps.now in
    let d = declaration_view c.args.declaration.now in
    let id = c.args.owner.now in
    let same : places_of c.args.names.now d.name ≡ c.deref.result.now = ap (λ o. option_map_or (λ g. g.items) o []) (sym c.in-Some.ensures.value) ∙ sym c.deref.ensures.value in
    subst (λ z. IfOk c.choice_at.result (λ found. found_view found ≡ z)) (ap (λ places. choice id d (at_places deps places)) (sym same) ∙ choice_at_name c.args.names.now deps c.requires id d) c.choice_at.ensures

pub returns-in-None : goal.returns-in-None
returns-in-None c =
    let deps = map dep_view c.args.deps.now in
    let d = declaration_view c.args.declaration.now in
    choice_of_none c.args.owner.now d deps (ap (λ o. at_places deps (option_map_or (λ g. g.items) o [])) c.in-None.ensures.value ∙ c.requires d.name)
