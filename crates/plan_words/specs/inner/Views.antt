-- The values that private types contain.
use Rattle.std.specs.Prelude.{map}
use Rattle.cargo_workspaces.specs.Views.{texts}
use Rattle.plan_words.specs.Choices.{StartedText}
use Rattle.plan_words.specs.FeatureWords as spec
use Rattle.plan_words.specs.declared.feature_words.Addressed.{Addressed}
use Rattle.plan_words.specs.declared.feature_words.Words.{Words}
use Rattle.plan_words.specs.declared.feature_words.Words.TheVariants.{Each, Root}
use Rattle.plan_words.specs.declared.started.Started.{Started}
use Rattle.plan_words.specs.declared.word_parts.Parts.{Parts}

abbrev pub parts_text : Parts → spec.PartsText
parts_text p = record { name = p.name.now; feature = p.feature.now }

abbrev pub addressed_text : Addressed → spec.Addressed
addressed_text a = record { to = a.to; item = a.item.now }

abbrev pub words_text : Words → spec.WordsText
words_text (Each words) = spec.each_takes (texts words.now)
words_text (Root root items) = spec.root_takes root (map addressed_text items.items)

abbrev pub started_text : Started → StartedText
started_text s = record { members = s.members.items; words = words_text s.words }
