use Rattle.std.proofs.Common.{◌∙◌, ap, false}
use Rattle.std.specs.Prelude.{◌&&◌, drop, length}
use Rattle.std.proofs.lemmas.Str.Pattern.{starts_text}
use Rattle.plan_words.specs.PackageWords.{fits_rest}
use Rattle.plan_words.proofs.Texts.{named_rest}
use Rattle.plan_words.proofs.package_words.fits_name.Goals as goal

pub returns-in-Some : goal.returns-in-Some
returns-in-Some c =
    let cut = c.in-Some.ensures.cases in
    c.fits_rest.ensures ∙ named_rest c.args.word.now c.args.«package».now.name.now c.args.«package».now.version.now c.in-Some.rest.now cut.0 cut.1.0 cut.1.1 cut.2

pub returns-in-None : goal.returns-in-None
returns-in-None c =
    let name = c.args.«package».now.name.now in
    ap (λ b. b && fits_rest (drop (length name) c.args.word.now) c.args.«package».now.version.now) (starts_text false name c.args.word.now c.in-None.ensures.cases)
