use Rattle.std.proofs.Common.{◌≡◌, length}
use denote.Text.{Utf8}
use denote.Shadow.{shadow}
use Rattle.std.specs.List.{list_any}
use Rattle.plan_words.specs.Patterns.{ends_of, fits}
use Rattle.plan_words.proofs.patterns.end_fits.Given as goal

abbrev pub invariant-loop-part : goal.invariant-loop-part
invariant-loop-part l =
    shadow (Utf8 l.pattern_left) × shadow (Utf8 l.text_left) × (list_any (fits l.pattern) (ends_of l.text) ≡ list_any (fits l.pattern_left) (ends_of l.text_left))

abbrev pub decreases-loop-part : goal.decreases-loop-part
decreases-loop-part l = length l.pattern_left
