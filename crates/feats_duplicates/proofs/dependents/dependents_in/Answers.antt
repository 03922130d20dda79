use Rattle.std.proofs.Common.{◌∙◌, ap, arith, length, nat_eq}
use Rattle.std.specs.List.{list_any}
use Rattle.feats_duplicates.specs.Dependents.{depends_on}
use Rattle.feats_duplicates.proofs.Ascending.{listed}
use Rattle.feats_duplicates.proofs.dependents.dependents_in.Goals as goal

pub returns : goal.returns
returns c = λ packages units links has.
    let p = c.args.«package» in
    listed (depends_on units links p) (length packages) packages 0 _ (omega arith) c.in_ok-list.ensures.sorted (λ q below. absurd (omega (arith, below)))
    (λ q from. c.in_ok-list.ensures.same q ∙ ap (list_any (nat_eq q)) c.group_of.ensures ∙ has p q)
