use Rattle.std.proofs.Common.{[], ◌∷◌, ℕ, List, cond, nat_eq}
use Rattle.std.specs.Borrow.{Bor}
use Rattle.feats_unused.specs.Requests.{RequestText}
use Rattle.feats_unused.specs.Views.{request_text}
use Rattle.feats_unused.proofs.Lists.{added, joined_at}
use Rattle.feats_unused.proofs.groups.asked_by_package.Goals as goal

pub loop-request-preserved : goal.loop-request-preserved
loop-request-preserved c = λ q.
    joined_at request_text (λ (r : RequestText). cond (nat_eq q r.to) (r.feature ∷ []) []) c.args.requests.now c.loop-request.request-index _ _ _ _ c.loop-request-test.true (c.loop-request.invariant q)
    (added (λ (t : Bor (List ℕ)). t.now) _ _ _ _ (c.in_ok-add.ensures q))
