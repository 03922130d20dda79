use Rattle.platform_specs.proofs.Lines.{only_target}
use Rattle.platform_specs.proofs.target_cfg.TargetCfg.parse.Goals as goal

pub returns-clause-only : goal.returns-clause-only
returns-clause-only c = only_target c.args.triple.now c.args.text.now c.read.result c.read.ensures.found c.read.ensures.fault
