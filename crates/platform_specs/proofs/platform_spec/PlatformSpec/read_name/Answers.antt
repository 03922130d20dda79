use Rattle.std.proofs.Common.{string_bytes}
use Rattle.platform_specs.proofs.SpecTexts.{found_name, stopped_name}
use Rattle.platform_specs.proofs.platform_spec.PlatformSpec.read_name.Goals as goal

pub returns-in-Some-clause-fault : goal.returns-in-Some-clause-fault
returns-in-Some-clause-fault c = stopped_name c.args.text.now c.in-Some.left c.utf8.text c.requires c.in-Some.ensures.read

pub returns-clause-found : goal.returns-clause-found
returns-clause-found c = found_name c.args.text.now (string_bytes c.in_ok-name.name) c.utf8.text c.in_ok-name.ensures.ok c.in_default.ensures.read
