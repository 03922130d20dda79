use Rattle.std.proofs.Common.{sym}
use Rattle.cargo_workspaces.specs.Views.{package_text}
use Rattle.feats_answers.proofs.list_texts.list_text.Goals as goal

pub returns-in_ok-package_features-in-Some-clause-text : goal.returns-in_ok-package_features-in-Some-clause-text
returns-in_ok-package_features-in-Some-clause-text c = record {
  number = c.in_ok-ix.ix;
  described = package_text c.in-Some.«package».now;
  is_named = c.in_ok-ix.ensures.number;
  is_package = sym c.in-Some.ensures;
  is_text = c.in_ok-package_features-in-Some.ensures;
}
