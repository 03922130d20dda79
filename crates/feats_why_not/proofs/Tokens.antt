-- Tokens that are appended, one after the other.
use Rattle.std.proofs.Common.{◌≡◌, ◌∙◌, ap, List, [], ◌∷◌, ◌++◌, append_assoc, subst, Option, Result, Ok, Err}
use Rattle.std.specs.Prelude.{OnOk}
use Rattle.json.specs.Token.{Token}
use Rattle.json.specs.Written.{Written, Writes}
use Rattle.feats_lines.specs.parts.Members.{Appends, optional_member, text_member}
use Rattle.cargo_workspaces.specs.Workspaces.{PackageText, Text}
use Rattle.plan_whys.specs.Steps.{WhyText}
use Rattle.feats_why.specs.Objects as why
use Rattle.feats_why.specs.Settings.{SettingsText}

pub appended : (a b c : Written) (xs ys : List Token) → Appends a b xs → Appends b c ys → Appends a c (xs ++ ys)
appended a b c xs ys h k = record { before = k.before ∙ h.before; tokens = k.tokens ∙ ap (λ z. z ++ ys) h.tokens ∙ append_assoc a.tokens xs ys }

pub wrote : {E : Type 0} (r : Result (Unit {0}) E) (a b : Written) (t : Token) → Writes r a b t → OnOk r (Appends a b (t ∷ []))
wrote (Ok x) a b t h = record { before = h.room.0; tokens = h.ok }
wrote (Err e) a b t h = tt

-- what follows from a call's success
pub on_ok : {E P Q : Type 0} (r : Result (Unit {0}) E) → OnOk r P → (P → Q) → OnOk r Q
on_ok (Ok x) p f = f p
on_ok (Err e) p f = tt

-- the objects of these steps
pub objects_of : (a b : Written) (packages : List PackageText) (s t : SettingsText) (ws vs : List WhyText) → s ≡ t → ws ≡ vs → why.Appends a b (why.step_objects packages s ws) → Appends a b (why.step_objects packages t vs)
objects_of a b packages s t ws vs e k h = record {
  before = h.before;
  tokens = h.tokens ∙ ap (λ z. a.tokens ++ why.step_objects packages z ws) e ∙ ap (λ z. a.tokens ++ why.step_objects packages t z) k;
}

-- the same member
pub text_as : (a b : Written) (name t u : Text) → t ≡ u → Appends a b (text_member name t) → Appends a b (text_member name u)
text_as a b name t u e h = subst (λ z. Appends a b (text_member name z)) e h

pub optional_as : (a b : Written) (name : Text) (t u : Option Text) → t ≡ u → Appends a b (optional_member name t) → Appends a b (optional_member name u)
optional_as a b name t u e h = subst (λ z. Appends a b (optional_member name z)) e h
