-- Bytes that stayed, and then were read or written.
use Rattle.std.proofs.Common.{ℕ, List, Option, None, Some, ◌++◌, ap, ◌∙◌, sym}
use Rattle.std.specs.Io.KnownBytes.{Keeps, Consumes, Appends}

pub kept_Consumes : (a b c : Option (List ℕ)) (bs : List ℕ) → Keeps a b → Consumes b c bs → Consumes a c bs
kept_Consumes None b c bs p q = tt
kept_Consumes (Some x) None c bs p q = absurd p
kept_Consumes (Some x) (Some y) None bs p q = absurd q
kept_Consumes (Some x) (Some y) (Some z) bs p q = sym p ∙ q

pub kept_Appends : (a b c : Option (List ℕ)) (bs : List ℕ) → Keeps a b → Appends b c bs → Appends a c bs
kept_Appends None b c bs p q = tt
kept_Appends (Some x) None c bs p q = absurd p
kept_Appends (Some x) (Some y) None bs p q = absurd q
kept_Appends (Some x) (Some y) (Some z) bs p q = q ∙ ap (λ l. l ++ bs) p
