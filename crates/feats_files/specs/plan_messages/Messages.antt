-- Messages about selections that have no plan.
use Rattle.std.specs.Prelude.{ℕ, List, [], ◌∷◌, ◌++◌, flat_map, codes, Option, Some, None, slice_get}
use Rattle.std.specs.Option.{option_map_or}
use Rattle.cargo_workspaces.specs.Workspaces.{Text, PackageText}
use Rattle.plan_rows.specs.declared.side.Side.{Side}
use Rattle.plan_rows.specs.declared.side.Side.TheVariants as side
use Rattle.plan_words.specs.declared.fault.WordFault.{WordFault}
use Rattle.plan_words.specs.declared.fault.WordFault.TheVariants as word
use Rattle.cargo_plans.specs.declared.plan_steps.fault.StepFault.{StepFault}
use Rattle.cargo_plans.specs.declared.plan_steps.fault.StepFault.TheVariants as step
use Rattle.cargo_plans.specs.declared.fault.PlanFault.{PlanFault}
use Rattle.cargo_plans.specs.declared.fault.PlanFault.TheVariants as fault
use Rattle.cargo_plans.specs.plan_starts.UnfitWords.{unfit_text}
use Rattle.feats_files.specs.Messages.{joined}
use Rattle.feats_files.specs.PackageWords.{word_at}
use Rattle.feats_files.specs.Platforms.{id_at}
use Rattle.shown_texts.specs.Shown.{escaped}

-- The line with the word for package `p`.
abbrev pub package_line : List PackageText → ℕ → Text
package_line packages p = codes "\n  " ++ escaped (word_at packages p)

-- The message about a word that several packages fit. It has several lines, so what the document and the words say is escaped.
abbrev pub several_message : List PackageText → Text → List ℕ → Text
several_message packages word candidates =
    joined (codes "several packages fit `" ∷ escaped word ∷ codes "`: write one of these" ∷ []) ++ flat_map (package_line packages) candidates

-- The message that package `p` doesn't declare `name`. `lacks` is the text before the name, and says what is missing.
abbrev pub lacks_message : List PackageText → ℕ → Text → Text → Text
lacks_message packages p lacks name = joined (codes "package " ∷ id_at packages p ∷ lacks ∷ name ∷ codes "`: look it up in its manifest" ∷ [])

abbrev pub word_message : List PackageText → WordFault → Text
word_message packages (word.UnknownPackage w) = joined (codes "no package of the document fits `" ∷ w.now ∷ codes "`: write NAME, NAME@VERSION, an id, or a pattern of members' names with `*`" ∷ [])
word_message packages (word.AmbiguousPackage w candidates) = several_message packages w.now candidates.items
word_message packages word.NoPackages = joined (codes "no package is selected: the workspace has no default members, no members at all, or all are excluded; select packages by -p or --workspace" ∷ [])
word_message packages word.NoMember = joined (codes "features are asked for, and no selected package is a member of the workspace: select a member, or leave the features out" ∷ [])
word_message packages (word.UnknownFeature w) = joined (codes "no selected member has `" ∷ w.now ∷ codes "`: write a feature of a selected member, or DEPENDENCY/FEATURE" ∷ [])
word_message packages (word.NoFeature p feature) = lacks_message packages p (codes " has no feature `") feature.now
word_message packages (word.NoDependency p dependency) = lacks_message packages p (codes " declares no dependency `") dependency.now
word_message packages word.Memory = codes "out of memory"

abbrev pub side_word : Side → Text
side_word side.Target = codes "target"
side_word side.Host = codes "host"

abbrev pub not_on_message : List PackageText → ℕ → Text → Text
not_on_message packages p side = joined (codes "package " ∷ id_at packages p ∷ codes " isn't built for the " ∷ side ∷ codes ": select a member that depends on it too" ∷ [])

-- The message that a word for targets, of this kind, chooses none of the selected packages.
abbrev pub no_target_message : Text × Option Text → Text
no_target_message (kind, None) = joined (codes "no selected package has a library: leave --lib out" ∷ [])
no_target_message (kind, Some name) =
    joined (codes "no selected package has a target of the kind `" ∷ kind ∷ codes "` that fits `" ∷ name ∷ codes "`: write its name, or a pattern with `*`" ∷ [])

-- The name of target `t` of package `p`.
abbrev pub target_name : List PackageText → ℕ → ℕ → Text
target_name packages p t = option_map_or (λ x. option_map_or (λ t. t.name) (slice_get x.targets t) []) (slice_get packages p) []

-- The features that it requires.
abbrev pub needs_of : List PackageText → ℕ → ℕ → List Text
needs_of packages p t = option_map_or (λ x. option_map_or (λ t. t.required_features) (slice_get x.targets t) []) (slice_get packages p) []

abbrev pub needed_feature : Text → Text
needed_feature feature = joined (codes " `" ∷ feature ∷ codes "`" ∷ [])

abbrev pub unmet_begin : List PackageText → ℕ → ℕ → Text
unmet_begin packages p t =
    joined (codes "the target `" ∷ target_name packages p t ∷ codes "` of package " ∷ id_at packages p
    ∷ codes " requires features, and not all are on: add --features for" ∷ [])

-- The message that target `t` of package `p` requires features which aren't all on.
abbrev pub unmet_message : List PackageText → ℕ → ℕ → Text
unmet_message packages p t = unmet_begin packages p t ++ flat_map needed_feature (needs_of packages p t)

abbrev pub step_message : List PackageText → StepFault → Text
step_message packages (step.NoTests p) = joined (codes "package " ∷ id_at packages p ∷ codes " isn't a member of the workspace, and its tests need its dependencies for development: leave `--command test` out" ∷ [])
step_message packages (step.NoTarget word) = no_target_message (unfit_text word)
step_message packages (step.Unmet p t) = unmet_message packages p t
step_message packages (step.NotOn p side) = not_on_message packages p (side_word side)
step_message packages (step.Lacking p name) =
    joined (codes "the document has no package for the optional dependency `" ∷ name.now ∷ codes "` of " ∷ id_at packages p
    ∷ codes ": make it by `cargo metadata --format-version 1 --all-features --features WORDS` with the words of the selection" ∷ [])
step_message packages step.Memory = codes "out of memory"

abbrev pub plan_message : List PackageText → PlanFault → Text
plan_message packages (fault.Words e) = word_message packages e
plan_message packages (fault.Steps e) = step_message packages e
