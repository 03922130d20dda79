use Rattle.std.proofs.Common.{◌∙◌, sym, ap, lit<, drop, None}
use Rattle.std.proofs.lemmas.Str.Pattern.{strip_suffix_char}
use Rattle.guppy_packages.proofs.ItemLemmas.{unmarked, item_of-plain, item_of-cut, marked, unmarked_text}
use Rattle.guppy_packages.specs.Items.{optional_item}
use Rattle.guppy_packages.proofs.named_feature_dep.NamedFeatureDep.from_cargo_string.Goals as goal

pub returns-in-None : goal.returns-in-None
returns-in-None c =
    sym (item_of-cut c.args.input.now c.in-Some.left.now c.in-Some.feature.now c.in-Some.ensures ∙ unmarked c.in-Some.left.now c.in-Some.feature.now (strip_suffix_char 63 c.in-Some.left.now None c.in-None.ensures.cases (lit< tt)))

pub returns-in-Some-strip_prefix : goal.returns-in-Some-strip_prefix
returns-in-Some-strip_prefix c =
    let at = c.in-Some-strip_prefix.ensures.cases in
    let rest = at.1.1 in
    sym (item_of-plain c.args.input.now c.in_default.ensures ∙ marked c.args.input.now (drop at.0 c.args.input.now) rest ∙ ap optional_item (sym at.2))

pub returns-in-None-strip_prefix : goal.returns-in-None-strip_prefix
returns-in-None-strip_prefix c =
    sym (item_of-plain c.args.input.now c.in_default.ensures ∙ unmarked_text c.args.input.now c.in-None-strip_prefix.ensures.cases)
