use Rattle.std.proofs.Common.{◌≡◌, ◌++◌, drop}
use Rattle.std.specs.Prelude.{flat_map}
use Rattle.std.specs.String.{string_bytes}
use Rattle.feature_core.specs.Warnings.{warning_of}
use Rattle.guppy_tool.specs.Answers.{warning_line}
use Rattle.guppy_tool.proofs.package.lines_of.Given as goal

-- The text so far and the lines of the warnings to come are the lines of all.
abbrev pub invariant-loop-warning : goal.invariant-loop-warning
invariant-loop-warning l = string_bytes l.text ++ flat_map (λ w. warning_line (warning_of w)) (drop l.warning-index l.found) ≡ flat_map (λ w. warning_line (warning_of w)) l.found
