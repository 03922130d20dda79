-- Lists at a place.
use Rattle.std.proofs.Common.{◌≡◌, ℕ, zero, suc, ◌<◌, List, [], ◌∷◌, Bool, true, false, cond, ◌&&◌, length, map, get_or, refl, ap, sym, ◌∙◌, arith}
use Rattle.std.specs.List.{filter, list_all, list_any}
use Rattle.std.specs.Str.{bytes_eq}
use Rattle.std.specs.Cmp.Lexicographic.{bytes_decides}
use Rattle.cargo_workspaces.specs.Workspaces.{DeclarationText, FeatureText, Text}
use Rattle.cargo_workspaces.specs.Views.{declaration_text, feature_text}
use Rattle.cargo_workspaces.specs.declared.package.Declaration.{Declaration}
use Rattle.cargo_workspaces.specs.declared.package.Feature.{Feature}
use Rattle.plan_words.proofs.PatternFits.{or_left, or_right}

both : (a b : Bool) → (a && b) ≡ true → (a ≡ true) × (b ≡ true)
both true b h = (refl, h)
both false b h = cc

-- a test of all mapped elements holds at each place
pub list_all_place : {X Y : Type 0} (f : X → Y) (p : Y → Bool) (xs : List X) (i : ℕ) (d : X) → list_all p (map f xs) ≡ true → i < length xs → p (f (get_or xs i d)) ≡ true
list_all_place f p [] i d h within = absurd (omega arith)
list_all_place f p (y ∷ xs) zero d h within = (both (p (f y)) (list_all p (map f xs)) h).0
list_all_place f p (y ∷ xs) (suc i) d h within = list_all_place f p xs i d (both (p (f y)) (list_all p (map f xs)) h).1 (omega arith)

same_bytes : (t : Text) → bytes_eq t t ≡ true
same_bytes t = (bytes_decides t t).1 refl

-- a feature's name is among those of the features
pub feature_at : (fs : List Feature) (i : ℕ) (f : Feature) → i < length fs → f ≡ get_or fs i f → list_any (bytes_eq f.name.now) (map (λ (t : FeatureText). t.name) (map feature_text fs)) ≡ true
feature_at [] i f within is = absurd (omega arith)
feature_at (g ∷ fs) zero f within is = or_left (bytes_eq f.name.now g.name.now) _ (ap (λ (h : Feature). bytes_eq f.name.now h.name.now) (sym is) ∙ same_bytes f.name.now)
feature_at (g ∷ fs) (suc i) f within is = or_right (bytes_eq f.name.now g.name.now) _ (feature_at fs i f (omega arith) is)

-- and the name of an optional declaration among those of the optional ones
more_optional : (o : Bool) (name : Text) (e : DeclarationText) (ds : List DeclarationText) → list_any (bytes_eq name) (map (λ (t : DeclarationText). t.name) ds) ≡ true
    → list_any (bytes_eq name) (map (λ (t : DeclarationText). t.name) (cond o (e ∷ ds) ds)) ≡ true
more_optional true name e ds h = or_right (bytes_eq name e.name) _ h
more_optional false name e ds h = h

first_optional : (o : Bool) (name : Text) (e : DeclarationText) (ds : List DeclarationText) → o ≡ true → bytes_eq name e.name ≡ true
    → list_any (bytes_eq name) (map (λ (t : DeclarationText). t.name) (cond o (e ∷ ds) ds)) ≡ true
first_optional true name e ds h same = or_left (bytes_eq name e.name) _ same
first_optional false name e ds h same = cc

pub optional_at : (ds : List Declaration) (i : ℕ) (d : Declaration) → i < length ds → d ≡ get_or ds i d → d.optional ≡ true
    → list_any (bytes_eq d.name.now) (map (λ (t : DeclarationText). t.name) (filter (λ (t : DeclarationText). t.optional) (map declaration_text ds))) ≡ true
optional_at [] i d within is on = absurd (omega arith)
optional_at (e ∷ ds) zero d within is on =
    first_optional e.optional d.name.now (declaration_text e) (filter (λ (t : DeclarationText). t.optional) (map declaration_text ds)) (ap (λ (x : Declaration). x.optional) (sym is) ∙ on)
    (ap (λ (x : Declaration). bytes_eq d.name.now x.name.now) (sym is) ∙ same_bytes d.name.now)
optional_at (e ∷ ds) (suc i) d within is on =
    more_optional e.optional d.name.now (declaration_text e) (filter (λ (t : DeclarationText). t.optional) (map declaration_text ds)) (optional_at ds i d (omega arith) is on)
