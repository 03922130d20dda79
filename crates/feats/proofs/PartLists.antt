-- The parts of a plan.
use Rattle.std.proofs.Common.{◌≡◌, ◌∙◌, sym, ap, ℕ, List, [], ◌∷◌, ◌++◌, Bor, Option, Some, None, map}
use Rattle.std.proofs.lemmas.List.{append-nil, map-append}
use Rattle.std.specs.Option.{option_map_or}
use Rattle.std.specs.Prelude.{option_map, slice_get}
use Rattle.cargo_workspaces.specs.Views.{package_text}
use Rattle.cargo_workspaces.specs.Workspaces.{Text, PackageText}
use Rattle.cargo_workspaces.specs.declared.package.Package.{Package}
use Rattle.feats.specs.comparisons.differences.Builds.{part_at, part_of}
use Rattle.feats_diff.specs.changes.Views.{part_text}
use Rattle.feats_diff.specs.declared.changes.parts.Part.{Part}
use Rattle.cargo_plans.specs.plan_units.Units.{UnitText}

module _ (targets : List Text) (packages : List PackageText) (k : ℕ) (u : UnitText) (found : Option (Bor Package)) (is_found : option_map (λ p. package_text p.now) found ≡ slice_get packages u.number) where
  by_found : (o : Option (Bor Package)) → found ≡ o → part_of targets packages k u ≡ option_map_or (λ p. part_at targets k u p ∷ []) (option_map (λ p. package_text p.now) o) []
  by_found o e = ap (λ (p : Option PackageText). option_map_or (λ p. part_at targets k u p ∷ []) p []) (sym is_found ∙ ap (option_map (λ p. package_text p.now)) e)

  pub one_part : (p : Bor Package) (x : Part) (old new : List Part) → found ≡ Some p → part_text x ≡ part_at targets k u (package_text p.now) → new ≡ old ++ x ∷ [] → map part_text new ≡ map part_text old ++ part_of targets packages k u
  one_part p x old new e is grown = ap (map part_text) grown ∙ map-append part_text old (x ∷ []) ∙ ap (λ y. map part_text old ++ y ∷ []) is ∙ ap (λ ys. map part_text old ++ ys) (sym (by_found (Some p) e))

  pub no_part : (old : List Part) → found ≡ None → map part_text old ≡ map part_text old ++ part_of targets packages k u
  no_part old e = sym (append-nil (map part_text old)) ∙ ap (λ ys. map part_text old ++ ys) (sym (by_found None e))
