use Rattle.std.proofs.lemmas.Result.{IfOk-weaker}
use Rattle.guppy_features.specs.digraphs.Bits.{has}
use Rattle.uses.proofs.Named.{without}
use Rattle.uses.proofs.difference.besides.Goals as goal

pub returns : goal.returns
returns c =
    let with = c.in_ok-with in
    let less = c.in_ok-without in
    IfOk-weaker
    c.difference-rest.result _ _
    (λ set combined n. without (has with.with.members n) (has less.without.members n) (has set.members n) _ _ (combined.each n) (with.ensures.exact n) (less.ensures.exact n))
    c.difference-rest.ensures.combined
