-- Tokens that are appended, one after the other.
use Rattle.std.proofs.Common.{◌≡◌, ◌∙◌, ap, ℕ, List, [], ◌∷◌, ◌++◌, append_assoc, Result, Ok, Err}
use Rattle.std.specs.Prelude.{IfOk, OnOk}
use Rattle.json.specs.Token.{Token}
use Rattle.json.specs.Written.{Written, Writes}
use Rattle.feats_lines.specs.parts.Members.{Appends, object_line}

pub appended : (a b c : Written) (xs ys : List Token) → Appends a b xs → Appends b c ys → Appends a c (xs ++ ys)
appended a b c xs ys h k = record { before = k.before ∙ h.before; tokens = k.tokens ∙ ap (λ z. z ++ ys) h.tokens ∙ append_assoc a.tokens xs ys }

pub wrote : {E : Type 0} (r : Result (Unit {0}) E) (a b : Written) (t : Token) → Writes r a b t → OnOk r (Appends a b (t ∷ []))
wrote (Ok x) a b t h = record { before = h.room.0; tokens = h.ok }
wrote (Err e) a b t h = tt

-- what follows from a call's success
pub on_ok : {E P Q : Type 0} (r : Result (Unit {0}) E) → OnOk r P → (P → Q) → OnOk r Q
on_ok (Ok x) p f = f p
on_ok (Err e) p f = tt

-- the line of an object whose tokens these are
pub ended : {V E : Type 0} (r : Result V E) (view : V → List ℕ) (w : Written) (before : List ℕ) (tokens : List Token) → w.before ≡ before → w.tokens ≡ tokens
    → IfOk r (λ v. view v ≡ w.before ++ object_line w.tokens) → IfOk r (λ v. view v ≡ before ++ object_line tokens)
ended (Ok v) view w before tokens b t h = h ∙ ap (λ z. z ++ object_line w.tokens) b ∙ ap (λ z. before ++ object_line z) t
ended (Err e) view w before tokens b t h = tt
