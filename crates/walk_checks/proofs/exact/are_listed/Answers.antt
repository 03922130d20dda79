use Rattle.std.proofs.Common.{◌∙◌, ℕ, List, sym, subst, inr}
use Rattle.std.specs.Prelude.{IsTrue}
use Rattle.walk_engine.specs.Walks.{is_in}
use Rattle.walk_checks.proofs.Members.{member_in, in_member}
use Rattle.walk_checks.proofs.exact.are_listed.Goals as goal

pub loop-node-init : goal.loop-node-init
loop-node-init c =
    let items = c.into_iter-node-iterator.ensures.into_iter_gives ∙ c.ones-node-items.ensures in
    record {
      left = λ n t. inr (subst (λ (xs : List ℕ). IsTrue (is_in xs n)) (sym items) (member_in c.args.initials.now n t));
      members = λ n t. in_member c.args.initials.now n (subst (λ (xs : List ℕ). IsTrue (is_in xs n)) items t);
    }
