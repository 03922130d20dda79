use Rattle.std.proofs.Common.{map, take, subst}
use Rattle.cargo_workspaces.specs.Views.{package_text}
use Rattle.feats_lines.specs.Repeats.{HasRepeated}
use Rattle.feats_lines.specs.inner.Sets.{HasTexts}
use Rattle.feats_lines.proofs.Counts.{described_more}
use Rattle.feats_lines.proofs.names.repeated_names.Goals as goal

pub loop-package-preserved : goal.loop-package-preserved
loop-package-preserved c =
    let both = c.in_ok-note.ensures (map (λ p. p.name) (map package_text (take c.loop-package.package-index c.args.packages.now))) c.loop-package.invariant.seen c.loop-package.invariant.repeated in
    let more = described_more (λ p. p.name) package_text c.args.packages.now c.loop-package.package-index c.package-item.result c.loop-package-test.true c.package-item.is in
    record {
      seen = subst (HasTexts c.note.new.seen) more both.0;
      repeated = subst (HasRepeated c.note.new.repeated) more both.1;
    }
