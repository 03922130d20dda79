use Rattle.std.proofs.Common.{sym, ◌∙◌}
use Rattle.row_files.proofs.FormLemmas.{dep_fields, platform_dep_fields}
use Rattle.row_files.proofs.form.dep.Goals as goal

pub returns-then-eq-clause-fields : goal.returns-then-eq-clause-fields
returns-then-eq-clause-fields c =
    let forms = c.in-Some-Some-Some in
    dep_fields c.args.fields.now _ forms.kind forms.optional forms.default_features c.in-len6-up.len_at_least forms.ensures forms.ensures' forms.ensures'' (sym c.if-eq.true ∙ c.eq.ensures)

pub returns-else-eq-clause-fields : goal.returns-else-eq-clause-fields
returns-else-eq-clause-fields c =
    let forms = c.in-Some-Some-Some in
    platform_dep_fields c.args.fields.now _ forms.kind forms.optional forms.default_features c.in-len6-up.len_at_least forms.ensures forms.ensures' forms.ensures''
