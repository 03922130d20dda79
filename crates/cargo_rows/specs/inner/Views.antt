-- What sets contain, and what steps write.
use Rattle.std.specs.Prelude.{◌≡◌, List, ◌++◌, Result, Ok}
use Rattle.std.specs.Borrow.{Bor}
use Rattle.std.specs.List.{list_any}
use Rattle.std.specs.Str.{bytes_eq}
use Rattle.std.specs.Ordering.{is_eq}
use Rattle.std.specs.BTreeSet.{BTreeSet}
use Rattle.cargo_json.specs.Faults.{Text, Refusal, ◌>>=◌}
use Rattle.workspace_documents.specs.Lists.{id_cmp}

-- a set has these texts and no others
abbrev pub HasTexts : BTreeSet (Bor Text) → List Text → Type 0
HasTexts set texts = (q : Bor Text) → list_any (λ k. is_eq (id_cmp q.now k.now)) set.keys ≡ list_any (bytes_eq q.now) texts

-- what was written, and then what is told
abbrev pub after : Text → Result Text Refusal → Result Text Refusal
after written told = told >>= λ text. Ok (written ++ text)
