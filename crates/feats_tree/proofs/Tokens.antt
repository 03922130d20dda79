-- Tokens that are appended, one after the other.
use Rattle.std.proofs.Common.{◌≡◌, ◌∙◌, ap, sym, refl, List, [], ◌++◌, append_assoc, append-nil, Result, Ok, Err}
use Rattle.std.specs.Prelude.{OnOk}
use Rattle.json.specs.Token.{Token}
use Rattle.json.specs.Written.{Written}
use Rattle.feats_lines.specs.parts.Members.{Appends}

pub appended : (a b c : Written) (xs ys : List Token) → Appends a b xs → Appends b c ys → Appends a c (xs ++ ys)
appended a b c xs ys h k = record { before = k.before ∙ h.before; tokens = k.tokens ∙ ap (λ z. z ++ ys) h.tokens ∙ append_assoc a.tokens xs ys }

-- what follows from a call's success
pub on_ok : {E P Q : Type 0} (r : Result (Unit {0}) E) → OnOk r P → (P → Q) → OnOk r Q
on_ok (Ok x) p f = f p
on_ok (Err e) p f = tt

-- if there are no tokens, nothing is appended
pub nothing : (w : Written) (ts : List Token) → [] ≡ ts → Appends w w ts
nothing w ts none = record { before = refl; tokens = sym (append-nil w.tokens) ∙ ap (λ z. w.tokens ++ z) none }
