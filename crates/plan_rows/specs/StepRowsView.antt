-- The rows of a step.
use Rattle.std.specs.Prelude.{List, map}
use Rattle.guppy_packages.specs.Rows.{RowText, row_text}
use Rattle.plan_rows.specs.declared.step_rows.StepRows.{StepRows}

abbrev pub row_texts : StepRows → List RowText
row_texts s = map row_text s.rows.items
