use Rattle.platform_specs.proofs.Lines as texts
use Rattle.platform_specs.proofs.laws.one_target.Goals as goal

pub returns : goal.returns
returns c = texts.one_target
