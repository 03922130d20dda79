use Rattle.std.proofs.Common.{lit<, Some, None}
use Rattle.std.proofs.lemmas.Str.Pattern.{strip_suffix_char}
use Rattle.platform_specs.proofs.Lines.{return_taken, return_lacking}
use Rattle.platform_specs.proofs.target_cfg.without_return.Goals as goal

pub returns-in-Some : goal.returns-in-Some
returns-in-Some c = return_taken c.args.line.now c.in-Some.rest.now (strip_suffix_char 13 c.args.line.now (Some c.in-Some.rest) c.in-Some.ensures.cases (lit< tt))

pub returns-in-None : goal.returns-in-None
returns-in-None c = return_lacking c.args.line.now (strip_suffix_char 13 c.args.line.now None c.in-None.ensures.cases (lit< tt))
