-- The members of objects, by the values that were written.
use Rattle.std.proofs.Common.{◌≡◌, refl, subst, List, [], ◌∷◌, ◌++◌, Option}
use Rattle.std.specs.Prelude.{codes}
use Rattle.json.specs.Token.{Token, key}
use Rattle.json.specs.Written.{Written}
use Rattle.cargo_workspaces.specs.Workspaces.{Text, PackageText}
use Rattle.feats_lines.specs.Objects.{member}
use Rattle.feats_why.specs.Objects.{Appends, dependency_name, feature_name, id_at, platform_tokens, reason_tokens, reason_word, shown_gate, shown_start, side_word, spot_members, spot_or_null, text_or_null}
use Rattle.feats_why.specs.Relations.{relation_of}
use Rattle.plan_whys.specs.Steps.{SpotText, ReasonText}

-- the same tokens
pub appends_same : (a b : Written) (xs ys : List Token) → xs ≡ ys → Appends a b xs → Appends a b ys
appends_same a b xs ys same h = subst (Appends a b) same h

pub spot_same : (packages : List PackageText) (s : SpotText) (id : Text) (feature dependency : Option Text) (side : Text)
    → id ≡ id_at packages s.number → feature ≡ feature_name s.label → dependency ≡ dependency_name s.label → side ≡ side_word s.side
    → member (codes "package") id ++ ((key (codes "feature") ∷ text_or_null feature ∷ []) ++ ((key (codes "dependency") ∷ text_or_null dependency ∷ []) ++ member (codes "side") side)) ≡ spot_members packages s
spot_same packages s id feature dependency side is_id is_feature is_dependency is_side = rw (is_id, is_feature, is_dependency, is_side) refl

pub reason_same : (packages : List PackageText) (platforms : List Text) (at : SpotText) (reason : ReasonText) (word : Text) (start gate : Option SpotText)
    → word ≡ reason_word (relation_of at reason) → start ≡ shown_start reason → gate ≡ shown_gate reason
    → member (codes "reason") word ++ ((key (codes "from") ∷ spot_or_null packages start) ++ ((key (codes "gate") ∷ spot_or_null packages gate) ++ platform_tokens platforms)) ≡ reason_tokens packages platforms at reason
reason_same packages platforms at reason word start gate is_word is_start is_gate = rw (is_word, is_start, is_gate) refl
