-- The law that each command has an answer.
use Rattle.std.specs.Prelude.{Result}
use Rattle.guppy_packages.specs.Rows.{Text}
use Rattle.guppy_tool.specs.Faults.{Refusal}
use Rattle.guppy_tool.specs.Run.{IsAnswer}
use Rattle.guppy_tool.specs.Words.{CommandText}

-- Over all bytes, a command has a text or a refusal: that it had neither is refuted. A proof computes no answer.
abbrev pub AnswerExists : Type 0
AnswerExists = (command : CommandText) (bytes : Text) → ¬ ¬ ((answer : Result Text Refusal) × IsAnswer command bytes answer)
