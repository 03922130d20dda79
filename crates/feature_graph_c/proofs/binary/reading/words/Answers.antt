use Rattle.std.proofs.Common.{rules, ◌∙◌, ap}
use Rattle.std.specs.Int.{w64, from_le_bytes}
use Rattle.feature_graph_c.proofs.WordLemmas.{word_more}
use Rattle.feature_graph_c.proofs.binary.reading.words.Goals as goal

pub loop-rest-preserved : goal.loop-rest-preserved
loop-rest-preserved c =
    word_more c.loop-rest.words.items c.push.new.self.items c.loop-rest.rest.now _ c.number_of.result _ (search rules) (c.number_of.ensures ∙ ap (from_le_bytes w64) c.split_at.ensures.front) c.split_at.ensures.back c.in_ok-push.ensures.items c.loop-rest.invariant
