use Rattle.std.proofs.lemmas.Result.{IfOk-weaker}
use Rattle.feature_links.proofs.link.from_declarations.collected.Goals as goal

pub returns : goal.returns
returns c = IfOk-weaker c.into_link.result _ _ (λ l holds. holds _ (c.in_ok-add_all.ensures c.new-parts.ensures)) c.into_link.ensures
