-- Words for targets that choose no target of the selected packages.
use Rattle.std.specs.Prelude.{ℕ, List, Bool, false, not, ◌&&◌, codes, if◌then◌else◌, Option, Some, None, option_map, slice_get}
use Rattle.std.specs.List.{list_any}
use Rattle.std.specs.Option.{option_map_or, option_or}
use Rattle.cargo_workspaces.specs.Workspaces.{Text, TargetText, PackageText, is_library}
use Rattle.plan_words.specs.TargetChoices.{KindText, TargetChoiceText, is_called}
use Rattle.plan_starts.specs.Lists.{first_some}
use Rattle.plan_starts.specs.declared.unfit_words.UnfitWord.{UnfitWord}

-- Whether a target of package `p` passes the test.
abbrev pub any_target : List PackageText → (TargetText → Bool) → ℕ → Bool
any_target packages test p = option_map_or (λ x. list_any test x.targets) (slice_get packages p) false

-- The word, if it fits no target of the kind in the selected packages.
abbrev pub unfit_name : List PackageText → List ℕ → Text → Text → Option Text
unfit_name packages selected kind word = if list_any (any_target packages (λ t. is_called kind t word)) selected then None else Some word

-- The first such word for names. The word for all targets of the kind makes the others meaningless.
abbrev pub unfit_kind : List PackageText → List ℕ → Text → KindText → Option (Text × Option Text)
unfit_kind packages selected kind k = if k.all then None else option_map (λ word. (kind, Some word)) (first_some (unfit_name packages selected kind) k.names)

-- `lib`, if a library must be there and none is.
abbrev pub unfit_library : List PackageText → List ℕ → TargetChoiceText → Option (Text × Option Text)
unfit_library packages selected c = if c.needs_lib && not (list_any (any_target packages is_library) selected) then Some (codes "lib", None) else None

-- THE FIRST WORD for targets that chooses none: the kind, and the word for a name.
abbrev pub first_unfit : List PackageText → List ℕ → TargetChoiceText → Option (Text × Option Text)
first_unfit packages selected c =
    option_or (unfit_library packages selected c)
    (option_or (unfit_kind packages selected (codes "bin") c.bins)
    (option_or (unfit_kind packages selected (codes "example") c.examples)
    (option_or (unfit_kind packages selected (codes "test") c.tests)
    (unfit_kind packages selected (codes "bench") c.benches))))

abbrev pub unfit_text : UnfitWord → Text × Option Text
unfit_text u = (u.kind.now, option_map (λ t. t.now) u.name)
