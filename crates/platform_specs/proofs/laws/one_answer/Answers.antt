use Rattle.std.proofs.Common.{ap, ◌∙◌}
use Rattle.std.specs.Str.{chars}
use Rattle.platform_specs.specs.Truth.{truth_of}
use Rattle.platform_specs.proofs.SpecTexts.{one_spec}
use Rattle.platform_specs.proofs.Lines.{one_target}
use Rattle.platform_specs.proofs.laws.one_answer.Goals as goal

pub returns : goal.returns
returns c = λ spec triple text a b s t h k i j.
    ap (λ x. truth_of x a) (one_target triple text s t i j) ∙ ap (truth_of t) (one_spec (chars spec) a b h k)
