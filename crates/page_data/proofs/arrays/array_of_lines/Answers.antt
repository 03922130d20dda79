use Rattle.std.proofs.Common.{◌∙◌}
use Rattle.std.proofs.lemmas.Result.{IfOk-weaker}
use Rattle.page_data.proofs.ArrayLemmas.{array_listed}
use Rattle.page_data.proofs.arrays.array_of_lines.Goals as goal

pub returns-clause-elements : goal.returns-clause-elements
returns-clause-elements c = IfOk-weaker c.bracketed.result _ _ (λ text h elements none is. h ∙ array_listed elements c.args.lines.now none is) c.bracketed.ensures
