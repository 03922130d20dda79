use Rattle.feats_policies.specs.Views.{rule_text}
use Rattle.feats_check.specs.texts.Messages.{unmatched_message}
use Rattle.feats_check.proofs.texts.warnings.unmatched_refused.Goals as goal

pub returns : goal.returns
returns c = c.refused_by.ensures (unmatched_message c.args.file.now (rule_text c.args.rule)) c.unmatched_message.ensures
