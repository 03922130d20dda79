-- The fields of an object, taken from its end.
use Rattle.std.proofs.Common.{◌≡◌, ◌∙◌, sym, ap, refl, List, [], ◌∷◌, ◌++◌, reverse, Bool, true, false, cond, append_assoc, Bor}
use Rattle.std.specs.Prelude.{Option, Some, None, codes}
use Rattle.std.specs.Str.{bytes_eq}
use Rattle.std.specs.declared.alloc.Global.{Global}
use Rattle.std.proofs.lemmas.List.{reverse-append}
use Rattle.std.proofs.lemmas.Slice.Eq.{bytes_eq-Decides}
use Rattle.json.specs.Json.{Json, null, boolean, number, string, array, object}
use Rattle.json.specs.Find.{later_or, get_member, get}
use Rattle.json.specs.Value.{value_view, members_view}
use Rattle.json.specs.declared.value.Value.{Value}
use Rattle.cargo_json.specs.Faults.{Text}
use Rattle.cargo_json.specs.Parts.{Parts}
use Rattle.cargo_json.specs.inner.Members.{fields_of}

abbrev Field : Type 0
Field = Bor Text × Value Global

later_or-none : (o : Option Json) → later_or o None ≡ o
later_or-none None = refl
later_or-none (Some j) = refl

later_or-assoc : (a b c : Option Json) → later_or (later_or a b) c ≡ later_or a (later_or b c)
later_or-assoc None b c = refl
later_or-assoc (Some j) b c = refl

get_member-append : (name : Text) (xs ys : List Field) → get_member name (members_view (xs ++ ys)) ≡ later_or (get_member name (members_view ys)) (get_member name (members_view xs))
get_member-append name [] ys = sym (later_or-none (get_member name (members_view ys)))
get_member-append name (x ∷ xs) ys =
    let first = cond (bytes_eq x.0.now name) (Some (value_view x.1)) None in
    ap (λ o. later_or o first) (get_member-append name xs ys) ∙ later_or-assoc (get_member name (members_view ys)) (get_member name (members_view xs)) first

get_member-one : (name : Text) (m : Field) (b : Bool) → bytes_eq m.0.now name ≡ b → get_member name (members_view (m ∷ [])) ≡ cond b (Some (value_view m.1)) None
get_member-one name m b e = ap (λ z. cond z (Some (value_view m.1)) None) e

module _ (xs all : List Field) (m : Field) (is : all ≡ xs ++ m ∷ []) where
  pub get_member-here : (name : Text) → bytes_eq m.0.now name ≡ true → get_member name (members_view all) ≡ Some (value_view m.1)
  get_member-here name e = ap (λ ms. get_member name (members_view ms)) is ∙ get_member-append name xs (m ∷ []) ∙ ap (λ o. later_or o (get_member name (members_view xs))) (get_member-one name m true e)

  pub get_member-before : (name : Text) → bytes_eq m.0.now name ≡ false → get_member name (members_view all) ≡ get_member name (members_view xs)
  get_member-before name e = ap (λ ms. get_member name (members_view ms)) is ∙ get_member-append name xs (m ∷ []) ∙ ap (λ o. later_or o (get_member name (members_view xs))) (get_member-one name m false e)

  pub taken_here : (name : Text) (p : Option Json) (whole : Option Json) → bytes_eq m.0.now name ≡ true → later_or p (get_member name (members_view all)) ≡ whole → later_or (later_or p (Some (value_view m.1))) (get_member name (members_view xs)) ≡ whole
  taken_here name p whole e so = later_or-assoc p (Some (value_view m.1)) (get_member name (members_view xs)) ∙ ap (later_or p) (sym (get_member-here name e)) ∙ so

  pub taken_before : (name : Text) (p : Option Json) (whole : Option Json) → bytes_eq m.0.now name ≡ false → later_or p (get_member name (members_view all)) ≡ whole → later_or p (get_member name (members_view xs)) ≡ whole
  taken_before name p whole e so = ap (later_or p) (sym (get_member-before name e)) ∙ so

  -- one more field is kept
  pub kept : (rest new : List Field) → new ≡ rest ++ m ∷ [] → xs ++ reverse new ≡ all ++ reverse rest
  kept rest new e = ap (λ r. xs ++ reverse r) e ∙ ap (λ r. xs ++ r) (reverse-append rest (m ∷ [])) ∙ sym (append_assoc xs (m ∷ []) (reverse rest)) ∙ ap (λ ms. ms ++ reverse rest) (sym is)

  -- a field that is dropped doesn't matter to the look-up of another name
  pub left_out : (wanted name : Text) (rest : List Field) → bytes_eq m.0.now wanted ≡ true → bytes_eq wanted name ≡ false → get_member name (members_view (xs ++ reverse rest)) ≡ get_member name (members_view (all ++ reverse rest))
  left_out wanted name rest here other =
      let own : m.0.now ≡ wanted = (bytes_eq-Decides m.0.now wanted).0 here in
      let apart : bytes_eq m.0.now name ≡ false = ap (λ s. bytes_eq s name) own ∙ other in
      get_member-append name xs (reverse rest) ∙ ap (λ o. later_or (get_member name (members_view (reverse rest))) o) (sym (get_member-before name apart)) ∙ sym (get_member-append name all (reverse rest))

get-fields_of : (name : Text) (d : Json) → get name (object (fields_of d)) ≡ get name d
get-fields_of name null = refl
get-fields_of name (boolean b) = refl
get-fields_of name (number s) = refl
get-fields_of name (string s) = refl
get-fields_of name (array js) = refl
get-fields_of name (object ms) = refl

-- the parts of the object with a value's fields are the parts of the value
pub of_fields : (d : Json) (packages : Option Json) (rest : Json) → Parts (object (fields_of d)) packages rest → Parts d packages rest
of_fields d packages rest parts = record {
  taken = parts.taken ∙ get-fields_of (codes "packages") d;
  others = λ name other. parts.others name other ∙ get-fields_of name d;
}
