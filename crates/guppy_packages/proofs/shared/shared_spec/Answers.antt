use Rattle.std.proofs.Common.{◌≡◌, ◌∙◌, ◌∷◌, [], Some, ap, sym}
use Rattle.std.specs.Cmp.Lexicographic.{bytes_decides}
use Rattle.std.specs.Map.{lookup}
use Rattle.std.specs.Str.{bytes_eq}
use Rattle.std.specs.String.{string_bytes}
use Rattle.guppy_packages.specs.Platform.{platform_specs}
use Rattle.guppy_packages.proofs.SharedLemmas.{found_value, if_ok, inserted_value}
use Rattle.guppy_packages.proofs.shared.shared_spec.Goals as goal

pub returns-in-Some : goal.returns-in-Some
returns-in-Some c =
    let one = c.in-Some.one.now in
    let found : Some one ≡ lookup (λ k. bytes_eq c.args.text.now (string_bytes k)) c.args.specs.now.entries = c.in-Some.ensures.value in
    let is = found_value (λ k v. platform_specs v.value ≡ Some (k ∷ [])) (bytes_eq c.args.text.now) c.args.specs.now.entries one c.requires (sym found) in
    record {
      specs = c.requires;
      platform = if_ok c.clone.result _ _ _ (λ copy e. ap platform_specs e ∙ is.2 ∙ ap (λ k. Some (k ∷ [])) (sym ((bytes_decides c.args.text.now is.0).0 is.1))) c.clone.ensures.cases;
    }

pub returns-clause-specs : goal.returns-clause-specs
returns-clause-specs c =
    let key = c.in_ok-key.key in
    let one = c.in_ok-clone.field-0 in
    let new : platform_specs one.value ≡ Some (string_bytes key ∷ []) = ap platform_specs (c.in_ok-clone.ensures.cases ∙ c.in_ok-one.ensures.ok) ∙ c.in_ok-one_spec.ensures ∙ ap (λ k. Some (k ∷ [])) (sym c.in_ok-key.ensures.ok) in
    rw c.in_ok-insert.ensures.entries (inserted_value (λ k v. platform_specs v.value ≡ Some (k ∷ [])) key one new c.args.specs.now.entries c.requires)
