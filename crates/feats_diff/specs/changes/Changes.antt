-- What changes in a package that is in both plans.
use Rattle.std.specs.Prelude.{List, Bool, ◌&&◌, ◌==◌, filter, length, not}
use Rattle.std.specs.List.{list_any}
use Rattle.std.specs.Str.{bytes_eq}
use Rattle.cargo_workspaces.specs.Workspaces.{Text}
use Rattle.feats_diff.specs.changes.Parts.{PartText}

-- The package as it was and as it is, and its features that come, go and stay.
pub record ChangeText : Type 0 where
  pub old : PartText
  pub new : PartText
  pub comes : List Text
  pub goes : List Text
  pub stays : List Text

abbrev pub has_feature : PartText → Text → Bool
has_feature p name = list_any (bytes_eq name) p.features

-- The features of `p` that `q` has.
abbrev pub shared_with : PartText → PartText → List Text
shared_with q p = filter (λ name. has_feature q name) p.features

-- The features of `p` that `q` lacks.
abbrev pub missing_in : PartText → PartText → List Text
missing_in q p = filter (λ name. not (has_feature q name)) p.features

abbrev pub change_of : PartText × PartText → ChangeText
change_of e = record { old = e.0; new = e.1; comes = missing_in e.0 e.1; goes = missing_in e.1 e.0; stays = shared_with e.0 e.1 }

abbrev pub has_none : {X : Type 0} → List X → Bool
has_none xs = length xs == 0

-- No feature comes or goes.
abbrev pub keeps_features : ChangeText → Bool
keeps_features c = has_none c.comes && has_none c.goes
