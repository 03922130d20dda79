use Rattle.std.proofs.Common.{rules}
use Rattle.std.specs.Prelude.{bit_xor}
use Rattle.std.proofs.lemmas.Iterator.{YieldsList-from_slice, YieldsList-from_zip, YieldsList-from_map}
use Rattle.std.proofs.lemmas.Iterator.Consumers.{YieldsList-at}
use Rattle.std.proofs.lemmas.Iterator.Adapters.{items_from_extend}
use Rattle.digraphs.proofs.bit_set.exactly_one.Goals as goal

pub returns : goal.returns
returns c =
    let h = items_from_extend c.extend.result c.extend.ensures.ran
    (YieldsList-from_map _ (λ p. bit_xor p.0 p.1) (YieldsList-at c.map.ensures.source (YieldsList-from_zip (YieldsList-at c.zip.ensures.first (YieldsList-from_slice c.args.mine.now cc)) (YieldsList-from_slice c.args.its.now (search rules)))) c.map.ensures.closure (λ x r q k. search rules)) in
    search rules
