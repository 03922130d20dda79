use Rattle.std.proofs.Common.{◌≡◌, List, [], ◌∷◌, ◌++◌, Bool, true, false, ap, sym, ◌∙◌, map, refl, Ok, if◌then◌else◌}
use Rattle.std.specs.List.{list_any}
use Rattle.std.specs.String.{string_bytes}
use Rattle.std.specs.Str.{bytes_eq}
use Rattle.std.proofs.lemmas.List.{map-append}
use Rattle.guppy_packages.specs.Rows.{Text}
use Rattle.guppy_packages.proofs.Lists.{list_any-map}
use Rattle.guppy_packages.proofs.first_pass.push_name.Goals as goal

-- the texts of the names, with or without one more
texts_if : {X : Type 0} (f : X → Text) (b : Bool) (names : List X) (name : X) (text : Text) → f name ≡ text → (if b then map f names else map f names ++ text ∷ []) ≡ map f (if b then names else names ++ name ∷ [])
texts_if f true names name text h = refl
texts_if f false names name text h = ap (λ t. map f names ++ t ∷ []) (sym h) ∙ sym (map-append f names (name ∷ []))

pub returns : goal.returns
returns c =
    let names = c.args.names.now in
    let there = list_any (λ k. bytes_eq (string_bytes c.in_ok-from_str.field-0) (string_bytes k)) names in
    let same : list_any (bytes_eq c.args.name.now) (map string_bytes names) ≡ there = list_any-map string_bytes (bytes_eq c.args.name.now) names ∙ ap (λ n. list_any (λ k. bytes_eq n (string_bytes k)) names) (sym c.in_ok-from_str.ensures.ok) in
    rw (same, c.in_ok-insert.ensures.items) (ap Ok (texts_if string_bytes there names c.in_ok-from_str.field-0 c.args.name.now c.in_ok-from_str.ensures.ok))
