use Rattle.platform_specs.proofs.SpecTexts.{only_spec}
use Rattle.platform_specs.proofs.platform_spec.PlatformSpec.parse.Goals as goal

pub returns-clause-only : goal.returns-clause-only
returns-clause-only c = only_spec c.args.text.now c.read.result c.read.ensures.found c.read.ensures.fault
