use Rattle.std.proofs.Common.{◌∙◌, lit<, None}
use Rattle.std.proofs.lemmas.Str.Pattern.{strip_prefix_char}
use Rattle.plan_words.proofs.Texts.{unmarked_rest}
use Rattle.plan_words.proofs.package_words.fits_rest.Goals as goal

pub returns-in-None-strip_prefix : goal.returns-in-None-strip_prefix
returns-in-None-strip_prefix c =
    let rest = c.args.rest.now in
    c.is_empty.ensures ∙ unmarked_rest rest c.args.version.now
    (strip_prefix_char 64 rest None c.in-None.ensures.cases (lit< tt)) (strip_prefix_char 58 rest None c.in-None-strip_prefix.ensures.cases (lit< tt))
