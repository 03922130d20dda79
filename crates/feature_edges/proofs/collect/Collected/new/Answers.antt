use Rattle.std.proofs.Common.{ap, map}
use Rattle.feature_edges.specs.Warnings.{warning_of}
use Rattle.feature_edges.proofs.PackageWarnings.{warnings-start}
use Rattle.feature_edges.proofs.collect.Collected.new.Goals as goal

pub returns : goal.returns
returns c t = warnings-start t _ (ap (map warning_of) c.new-2.ensures.items) (ap (map warning_of) c.new-3.ensures.items)
