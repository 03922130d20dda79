-- The meaning of a word, and the finding.
use Rattle.std.specs.Prelude.{map}
use Rattle.plan_names.specs.Views.{named_text}
use Rattle.plan_whys.specs.StepViews.{spot_text}
use Rattle.feats_policies.specs.checks.Found.{FoundText, ambiguous, broken, kept, no_platform}
use Rattle.feats_policies.specs.checks.Meanings.{MeaningText, one_of, these}
use Rattle.feats_policies.specs.declared.checks.found.Found.{Found}
use Rattle.feats_policies.specs.declared.checks.found.Found.TheVariants as found
use Rattle.feats_policies.specs.declared.checks.meaning.Meaning.{Meaning}
use Rattle.feats_policies.specs.declared.checks.meaning.Meaning.TheVariants as meaning

abbrev pub meaning_text : Meaning → MeaningText
meaning_text (meaning.Parts parts) = these (map named_text parts.items)
meaning_text (meaning.Several word candidates) = one_of word.now (map named_text candidates.items)

abbrev pub found_text : Found → FoundText
found_text found.Kept = kept
found_text (found.Broken spots) = broken (map spot_text spots.items)
found_text (found.Several word candidates) = ambiguous word.now (map named_text candidates.items)
found_text (found.NoPlatform triple) = no_platform triple.now
