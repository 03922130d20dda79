use Rattle.laws.proofs.MoreFeatures.{more_turns_nothing_off}
use Rattle.laws.proofs.MoreWords.{more_words}
use Rattle.laws.proofs.plans.laws.more_turns_nothing_off.Goals as goal

pub returns-clause-settings : goal.returns-clause-settings
returns-clause-settings c = more_turns_nothing_off

pub returns-clause-words : goal.returns-clause-words
returns-clause-words c = more_words
