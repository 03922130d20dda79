use Rattle.row_files.proofs.FormLemmas.{package_fields}
use Rattle.row_files.proofs.form.package.Goals as goal

pub returns-in-Some-clause-fields : goal.returns-in-Some-clause-fields
returns-in-Some-clause-fields c = package_fields c.args.fields.now _ c.in-Some.in_workspace c.in-len2.len_at_least c.in-len2.len_below c.in-Some.ensures
