use Rattle.std.proofs.Common.{◌∙◌, rules}
use Rattle.std.specs.String.{string_bytes}
use Rattle.plan_rows.proofs.Lists.{decimals_read}
use Rattle.plan_rows.proofs.ids.Ids.text.Goals as goal

pub returns : goal.returns
returns c = c.as_str.ensures.value ∙ decimals_read string_bytes c.self.inside.texts.items c.args.number c.index.result.now c.self.invariant (search rules) c.index.ensures
