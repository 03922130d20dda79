use Rattle.std.proofs.Common.{map, take, subst}
use Rattle.std.specs.String.{string_bytes}
use Rattle.feats_lines.specs.Repeats.{HasRepeated}
use Rattle.feats_lines.specs.inner.Sets.{HasTexts}
use Rattle.feats_lines.proofs.Counts.{names_more}
use Rattle.feats_lines.proofs.names.repeated_in.Goals as goal

pub loop-name-preserved : goal.loop-name-preserved
loop-name-preserved c =
    let both = c.in_ok-note.ensures (map string_bytes (take c.loop-name.name-index c.args.names.now)) c.loop-name.invariant.seen c.loop-name.invariant.repeated in
    let more = names_more c.args.names.now c.loop-name.name-index c.name-item.result _ c.loop-name-test.true c.name-item.is c.as_str.ensures.value in
    record {
      seen = subst (HasTexts c.note.new.seen) more both.0;
      repeated = subst (HasRepeated c.note.new.repeated) more both.1;
    }
