use Rattle.std.specs.Str.{chars}
use Rattle.platform_specs.proofs.SpecTexts as texts
use Rattle.platform_specs.proofs.laws.one_spec.Goals as goal

pub returns : goal.returns
returns c = λ text a b h k. texts.one_spec (chars text) a b h k
