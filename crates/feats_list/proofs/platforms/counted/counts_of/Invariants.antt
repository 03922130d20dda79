use Rattle.std.proofs.Common.{map, take}
use Rattle.plan_rows.specs.platforms.Views.{declared_text}
use Rattle.feats_list.specs.platforms.Lists.{specs_of}
use Rattle.feats_list.specs.platforms.inner.Counts.{HasCounts}
use Rattle.feats_list.proofs.platforms.counted.counts_of.Given as goal

abbrev pub invariant-loop-declared : goal.invariant-loop-declared
invariant-loop-declared l = HasCounts l.counts (specs_of (map declared_text (take l.declared-index l.specs)))
