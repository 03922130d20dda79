-- The words that are tried, by an explanation.
use Rattle.std.specs.Prelude.{ℕ, List, [], ◌∷◌, ◌++◌, Bool, true, false, Option, None, Some, codes, if◌then◌else◌, ◌&&◌, is_some, nat_eq, not, option_map, slice_get}
use Rattle.std.specs.Option.{option_or}
use Rattle.std.specs.Str.{bytes_eq}
use Rattle.cargo_workspaces.specs.Workspaces.{Text, PackageText}
use Rattle.feature_labels.specs.Names.{LabelName, base, named, optional}
use Rattle.plan_whys.specs.Steps.{ReasonText, WhyText, from, selected}
use Rattle.feats_why.specs.Relations.{is_command_spot}

-- One selected package, perhaps with one of its features, and perhaps with tests.
pub record TypedText : Type 0 where
  pub name : Text
  pub feature : Option Text
  pub test : Bool

abbrev pub one_text : Option Text → List Text
one_text None = []
one_text (Some text) = text ∷ []

abbrev pub asked_name : Text → Option Text
asked_name name = if bytes_eq name (codes "default") then None else Some name

-- The feature that a label is, but for the default one, which needs no word.
abbrev pub asked_feature : LabelName → Option Text
asked_feature base = None
asked_feature (named name) = asked_name name
asked_feature (optional name) = None

-- Whether a command feature leads to a spot: the selection asks for it.
abbrev pub is_asked : ReasonText → Bool
is_asked selected = false
is_asked (from start gate) = is_command_spot start

abbrev pub feature_at : ℕ → WhyText → Option Text
feature_at p why = if nat_eq why.spot.number p && is_asked why.reason then asked_feature why.spot.label else None

-- The first such feature of package `p` for which the selection asks.
abbrev pub first_feature : ℕ → List WhyText → Option Text
first_feature p [] = None
first_feature p (why ∷ whys) = option_or (feature_at p why) (first_feature p whys)

-- Words for package `p`.
abbrev pub words_at : List PackageText → ℕ → Option Text → Bool → Option TypedText
words_at packages p feature test = option_map (λ x. record { name = x.name; feature = feature; test = test }) (slice_get packages p)

-- The words with which an explanation begins. Its first step is that a package is selected.
abbrev pub first_words : List PackageText → Bool → List WhyText → Option TypedText
first_words packages test [] = None
first_words packages test (why ∷ whys) = words_at packages why.spot.number (first_feature why.spot.number whys) test

abbrev pub without_feature : TypedText → TypedText
without_feature t = record { name = t.name; feature = None; test = t.test }

abbrev pub without_tests : TypedText → TypedText
without_tests t = record { name = t.name; feature = t.feature; test = false }

-- The words without the feature, and then with it.
abbrev pub by_feature : TypedText → List TypedText
by_feature t = without_feature t ∷ (if is_some t.feature then t ∷ [] else [])

-- First without tests, if dependencies for development don't count by the command line: `here` is whether they do.
abbrev pub by_size : Bool → TypedText → List TypedText
by_size here t = (if t.test && not here then by_feature (without_tests t) else []) ++ by_feature t

abbrev pub sizes_of : Bool → Option TypedText → List TypedText
sizes_of here None = []
sizes_of here (Some t) = by_size here t

-- THE WORDS THAT ARE TRIED: those with which the explanation begins, after all that lack some of them. `test` is whether dependencies for
-- development count in its plan. None are tried if the part isn't alone: each needs a plan.
abbrev pub tries_of : Bool → List PackageText → Bool → Bool → List WhyText → List TypedText
tries_of true packages here test whys = sizes_of here (first_words packages test whys)
tries_of false packages here test whys = []
