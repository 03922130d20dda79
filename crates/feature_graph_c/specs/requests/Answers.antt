-- Answers: a status, and the content if there is one.
use Rattle.std.specs.Prelude.{◌≡◌, List, ℕ, ◌++◌, Option, None, Some}
use Rattle.feature_graph_c.specs.binary.Records.{number}

-- The answer with this content.
abbrev pub answer_with : List ℕ → List ℕ
answer_with content = number 0 ++ content

-- The answer to a broken request.
abbrev pub broken : List ℕ
broken = number 2

-- The answer has a content of this kind.
pub record Has (Is : List ℕ → Type 0) (answer : List ℕ) : Type 0 where
  pub content : List ℕ
  pub is_content : Is content
  pub bytes : answer ≡ answer_with content

-- The answer to a request: its content, or that the request is broken.
abbrev pub Answers : {Q : Type 0} → (Q → List ℕ → Type 0) → Option Q → List ℕ → Type 0
Answers Is (Some q) answer = Has (Is q) answer
Answers Is None answer = answer ≡ broken
