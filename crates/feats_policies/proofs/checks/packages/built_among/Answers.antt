use Rattle.feats_policies.specs.checks.Views.{build_text}
use Rattle.feats_policies.proofs.Counted.{among_built}
use Rattle.feats_policies.proofs.checks.packages.built_among.Goals as goal

pub returns : goal.returns
returns c = among_built c.among.result (λ v. v.items) (build_text c.args.build) c.in_ok-built.built c.args.numbers.now c.in_ok-built.ensures.packages c.among.ensures
