-- The finding about a rule in a build.
use Rattle.std.specs.Prelude.{ℕ, List, [], ◌∷◌, Bool, Option, Some, None, filter, map, length, nat_lt, slice_get, if◌then◌else◌}
use Rattle.std.specs.Option.{option_map_or}
use Rattle.std.specs.Str.{bytes_eq}
use Rattle.cargo_workspaces.specs.Workspaces.{PackageText, Text}
use Rattle.plan_names.specs.Matches.{packages_matching}
use Rattle.plan_names.specs.Names.{NamedText, of_package, whole}
use Rattle.plan_whys.specs.Steps.{SpotText}
use Rattle.feats_policies.specs.Rules.{KindText, deny, deny_duplicates, require}
use Rattle.feats_policies.specs.checks.Builds.{BuildText, is_built_anywhere, is_platform}
use Rattle.feats_policies.specs.checks.Meanings.{MeaningText, meaning_in, one_of, these}
use Rattle.feats_policies.specs.checks.Spots.{spots_on, spots_on_for}

-- A rule is kept; or it is broken, for a deny at these spots; or its word has several meanings; or its triple is that of no platform of
-- the build.
pub data FoundText : Type 0 where
  kept : FoundText
  broken : List SpotText → FoundText
  ambiguous : Text → List NamedText → FoundText
  no_platform : Text → FoundText

-- The finding about the parts or packages that a word means.
abbrev pub of_meaning : (List NamedText → FoundText) → MeaningText → FoundText
of_meaning found (these parts) = found parts
of_meaning found (one_of word candidates) = ambiguous word candidates

-- A deny is broken at the spots where it is, if there are any.
abbrev pub denied_at : List SpotText → FoundText
denied_at [] = kept
denied_at (s ∷ spots) = broken (s ∷ spots)

-- A require is broken if there are none.
abbrev pub required_at : List SpotText → FoundText
required_at [] = broken []
required_at (s ∷ spots) = kept

-- `deny FEATURE` and `deny FEATURE on TRIPLE`.
abbrev pub denied : BuildText → Text → FoundText
denied b word = of_meaning (λ parts. denied_at (spots_on b parts)) (meaning_in b word)

abbrev pub denied_for : BuildText → Text → Text → FoundText
denied_for b word triple = of_meaning (λ parts. denied_at (spots_on_for b triple parts)) (meaning_in b word)

abbrev pub denied_on : BuildText → Text → Text → FoundText
denied_on b word triple =
    if is_platform b triple then denied_for b word triple else no_platform triple

abbrev pub denied_where : BuildText → Text → Option Text → FoundText
denied_where b word None = denied b word
denied_where b word (Some triple) = denied_on b word triple

-- `require FEATURE`.
abbrev pub required : BuildText → Text → FoundText
required b word = of_meaning (λ parts. required_at (spots_on b parts)) (meaning_in b word)

-- Those of the packages that are built.
abbrev pub built_among : BuildText → List ℕ → List ℕ
built_among b numbers = filter (is_built_anywhere b) numbers

abbrev pub name_at : List PackageText → ℕ → Text
name_at packages p = option_map_or (λ x. x.name) (slice_get packages p) []

-- Those of the packages that have this name.
abbrev pub with_name : List PackageText → List ℕ → Text → List ℕ
with_name packages numbers name = filter (λ p. bytes_eq name (name_at packages p)) numbers

-- Whether several of the packages have the name of package `p`.
abbrev pub has_namesake : List PackageText → List ℕ → ℕ → Bool
has_namesake packages numbers p = nat_lt 1 (length (with_name packages numbers (name_at packages p)))

-- Those of the packages whose names several of them have.
abbrev pub repeated : List PackageText → List ℕ → List ℕ
repeated packages numbers = filter (has_namesake packages numbers) numbers

-- Packages that are denied: each is too many.
abbrev pub denied_packages : BuildText → List ℕ → FoundText
denied_packages b [] = kept
denied_packages b (p ∷ ps) = broken (spots_on b (map (λ p. of_package p whole) (p ∷ ps)))

-- `deny-duplicates SPEC`.
abbrev pub duplicates_denied : BuildText → Text → FoundText
duplicates_denied b word = denied_packages b (repeated b.packages (built_among b (packages_matching b.packages word)))

abbrev pub found_of : BuildText → KindText → FoundText
found_of b (deny word on) = denied_where b word on
found_of b (require word) = required b word
found_of b (deny_duplicates word) = duplicates_denied b word
