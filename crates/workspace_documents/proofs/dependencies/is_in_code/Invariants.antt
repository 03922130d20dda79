use Rattle.std.proofs.Common.{◌≡◌, drop}
use Rattle.workspace_documents.specs.Dependencies.{is_in_code}
use Rattle.workspace_documents.proofs.dependencies.is_in_code.Given as goal

abbrev pub invariant-loop-i : goal.invariant-loop-i
invariant-loop-i l = is_in_code l.given l.plain ≡ is_in_code (drop l.i l.given) (drop l.i l.plain)
