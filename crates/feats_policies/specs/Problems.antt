-- What is wrong with malformed lines, in words.
use Rattle.std.specs.Prelude.{codes}
use Rattle.feats_policies.specs.Lines.{Text}
use Rattle.feats_policies.specs.declared.problem.Problem.{Problem}
use Rattle.feats_policies.specs.declared.problem.Problem.TheVariants.{ExtraWord, NoRule, NoTriple, NoWord}

abbrev pub problem_text : Problem → Text
problem_text NoRule = codes "a rule begins with `deny`, `require` or `deny-duplicates`"
problem_text NoWord = codes "the name of a feature or of a package is missing"
problem_text NoTriple = codes "the name of a platform is missing after `on`"
problem_text ExtraWord = codes "there are more words than the rule takes: a reason begins with `#`"
