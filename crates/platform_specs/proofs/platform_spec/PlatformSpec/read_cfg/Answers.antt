use Rattle.platform_specs.proofs.SpecTexts.{found_cfg, unread_cfg}
use Rattle.platform_specs.proofs.platform_spec.PlatformSpec.read_cfg.Goals as goal

pub returns-in-Ok-clause-found : goal.returns-in-Ok-clause-found
returns-in-Ok-clause-found c = found_cfg c.args.text.now c.args.rest.now c.in-Ok.parts.items c.requires c.in-Ok.ensures.found

pub returns-in-Err-Left-clause-fault : goal.returns-in-Err-Left-clause-fault
returns-in-Err-Left-clause-fault c = unread_cfg c.args.text.now c.args.rest.now c.in-Err-Left.field-0 c.in-Err-Left.left c.utf8.text c.requires c.in-Err-Left.ensures.unread c.in-Err-Left.field-0-is
