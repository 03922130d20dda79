use Rattle.std.proofs.Common.{◌∙◌, sym}
use Rattle.cargo_workspaces.specs.Views.{package_text}
use Rattle.plan_words.proofs.Urls.{named_by_name}
use Rattle.plan_words.proofs.package_words.is_named.Goals as goal

pub returns-else-has_marks : goal.returns-else-has_marks
returns-else-has_marks c =
    let none = c.if-has_marks.false in
    none ∙ sym c.if-fits_name.false ∙ c.fits_name.ensures ∙ named_by_name c.args.word.now (package_text c.args.«package».now) (sym none ∙ c.requires)
