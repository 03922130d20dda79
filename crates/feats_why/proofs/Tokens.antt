-- Tokens that are appended, one after the other.
use Rattle.std.proofs.Common.{◌∙◌, ap, List, [], ◌∷◌, ◌++◌, append_assoc, Result, Ok, Err}
use Rattle.std.specs.Prelude.{OnOk}
use Rattle.json.specs.Token.{Token}
use Rattle.json.specs.Written.{Written, Writes}
use Rattle.feats_why.specs.Objects.{Appends}

pub appended : (a b c : Written) (xs ys : List Token) → Appends a b xs → Appends b c ys → Appends a c (xs ++ ys)
appended a b c xs ys h k = record { before = k.before ∙ h.before; tokens = k.tokens ∙ ap (λ z. z ++ ys) h.tokens ∙ append_assoc a.tokens xs ys }

pub wrote : {E : Type 0} (r : Result (Unit {0}) E) (a b : Written) (t : Token) → Writes r a b t → OnOk r (Appends a b (t ∷ []))
wrote (Ok x) a b t h = record { before = h.room.0; tokens = h.ok }
wrote (Err e) a b t h = tt

-- what follows from a call's success
pub on_ok : {E P Q : Type 0} (r : Result (Unit {0}) E) → OnOk r P → (P → Q) → OnOk r Q
on_ok (Ok x) p f = f p
on_ok (Err e) p f = tt
