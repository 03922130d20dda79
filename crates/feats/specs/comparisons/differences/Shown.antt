-- What is shown of the differences of two builds.
use Rattle.std.specs.Prelude.{ℕ, List, [], ◌∷◌, ◌++◌, Bool, true, false, ◌||◌, drop, if◌then◌else◌, length, map, not, slice_get, unwrap_or}
use Rattle.cargo_workspaces.specs.Workspaces.{Text}
use Rattle.feats_diff.specs.texts.Shown.{DifferenceText, TurnedText, changed, come, gone}
use Rattle.feats_diff.specs.changes.Changes.{ChangeText, keeps_features}
use Rattle.feats_diff.specs.changes.Differences.{DifferencesText}
use Rattle.feats_diff.specs.changes.Parts.{PartText}
use Rattle.feats_lines.specs.Lines.{ShownText}
use Rattle.cargo_plans.specs.plan_starts.Lists.{joined_from}
use Rattle.feats.specs.comparisons.differences.Whys.{WhysText}

abbrev pub shown_of : PartText → ShownText
shown_of p = record { place = p.place; described = p.described; features = p.features }

-- The text with this number.
abbrev pub text_at : List Text → ℕ → Text
text_at texts k = unwrap_or (slice_get texts k) []

-- The parts that come, from number `k` on, with their texts.
abbrev pub comes_from : List Text → ℕ → List PartText → List DifferenceText
comes_from whys k parts = joined_from (λ n p. come (shown_of p) (text_at whys n) ∷ []) k parts

abbrev pub turned_from : List Text → ℕ → List Text → List TurnedText
turned_from whys k names = joined_from (λ n name. record { name = name; why = text_at whys n } ∷ []) k names

-- A change, where the first texts are those of the features that come in it.
abbrev pub change_shown : List Text → ChangeText → DifferenceText
change_shown whys c = changed (shown_of c.old) (shown_of c.new) (turned_from whys 0 c.comes) c.goes

-- Whether a change is shown: either all are, or those in which a feature comes or goes.
abbrev pub is_shown : Bool → ChangeText → Bool
is_shown all c = all || not (keeps_features c)

-- The texts of the features that come in a change are followed by those of the next one.
abbrev pub changes_shown : Bool → List Text → List ChangeText → List DifferenceText
changes_shown all whys [] = []
changes_shown all whys (c ∷ cs) = (if is_shown all c then change_shown whys c ∷ [] else []) ++ changes_shown all (drop (length c.comes) whys) cs

-- What comes, what goes, each change of a version or a source, and the other parts in which a feature comes or goes.
abbrev pub all_shown : DifferencesText → WhysText → List DifferenceText
all_shown d whys =
    comes_from whys.parts 0 d.comes ++ (map (λ p. gone (shown_of p)) d.gone ++ (changes_shown true whys.moved d.moved ++ changes_shown false whys.kept d.kept))
