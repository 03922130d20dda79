use Rattle.std.proofs.Common.{◌≡◌, ℕ, List, ◌++◌, length}
use Rattle.std.specs.Fmt.{HasWritten, IsPlainFormatter}
use Rattle.platform_specs.specs.inner.PartTexts.{text_of}
use Rattle.platform_specs.proofs.parts.write_parts.Given as goal

abbrev pub invariant-parts : goal.invariant-parts
invariant-parts g l =
    IsPlainFormatter l.initial.f
    → (done : List ℕ) × (done ++ text_of l.rest ≡ text_of l.fn.parts) × HasWritten g.W.Write.write_str_gives l.initial.f done l.f

abbrev pub decreases-parts : goal.decreases-parts
decreases-parts g l = length l.rest
