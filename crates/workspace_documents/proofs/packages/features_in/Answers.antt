use Rattle.std.proofs.Common.{◌∙◌, ap, map}
use Rattle.std.specs.Map.Iter.{deref_pair}
use Rattle.std.proofs.lemmas.List.{map-append}
use Rattle.std.proofs.lemmas.Map.Iter.{rest_more}
use Rattle.cargo_workspaces.specs.Views.{feature_text}
use Rattle.workspace_documents.proofs.Lists.{features_more}
use Rattle.workspace_documents.proofs.packages.features_in.Goals as goal

pub loop-name-preserved : goal.loop-name-preserved
loop-name-preserved c =
    let left = rest_more deref_pair c.loop-name.name-iterator c.next.new.self c.next.result (c.in-Some.name, c.in-Some.value) c.in-Some.is c.next.ensures.steps in
    let pushed = ap (map feature_text) c.in_ok-push.ensures.items ∙ map-append feature_text c.loop-name.features.items _ in
    rw pushed (features_more c.args.place _ _ _ _ _ _ left c.in_ok-feature_of.ensures c.loop-name.invariant)
