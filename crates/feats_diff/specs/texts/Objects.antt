-- The JSON objects of what differs between two plans.
use Rattle.std.specs.Prelude.{List, ◌∷◌, ◌++◌, map, flat_map, codes, if◌then◌else◌}
use Rattle.json.specs.Token.{Token, begin_object}
use Rattle.cargo_workspaces.specs.Workspaces.{Text, PackageText}
use Rattle.feats_lines.specs.parts.Members.{object_line, text_member, texts_member}
use Rattle.feats_lines.specs.Lines.{ShownText}
use Rattle.feats_diff.specs.texts.Shown.{DifferenceText, TurnedText, come, gone, changed}
use Rattle.feats_diff.specs.texts.Titles.{is_same}

-- The kind of the difference, the place and the package.
abbrev pub head : Text → ShownText → List Token
head kind s = text_member (codes "difference") kind ++ (text_member (codes "place") s.place
    ++ (text_member (codes "package") s.described.id ++ (text_member (codes "name") s.described.name ++ text_member (codes "version") s.described.version)))

-- A package that changes its version or its source, or its features alone.
abbrev pub kind_of : PackageText → PackageText → Text
kind_of old new = if is_same old new then codes "features" else codes "version"

-- The package as it was.
abbrev pub old_members : PackageText → List Token
old_members p = text_member (codes "old-package") p.id ++ text_member (codes "old-version") p.version

-- The features that come, with the last step of each `why`, and those that go.
abbrev pub feature_members : List TurnedText → List Text → List Token
feature_members comes goes = texts_member (codes "comes") (map (λ t. t.name) comes) ++ (texts_member (codes "whys") (map (λ t. t.why) comes) ++ texts_member (codes "goes") goes)

abbrev pub new_members : ShownText → Text → List Token
new_members new why = head (codes "comes") new ++ (texts_member (codes "features") new.features ++ text_member (codes "why") why)

abbrev pub gone_members : ShownText → List Token
gone_members old = head (codes "goes") old ++ texts_member (codes "features") old.features

abbrev pub changed_members : ShownText → ShownText → List TurnedText → List Text → List Token
changed_members old new comes goes =
    head (kind_of old.described new.described) new ++ (old_members old.described ++ (texts_member (codes "features") new.features ++ feature_members comes goes))

abbrev pub members : DifferenceText → List Token
members (come new why) = new_members new why
members (gone old) = gone_members old
members (changed old new comes goes) = changed_members old new comes goes

abbrev pub line_of : DifferenceText → Text
line_of d = object_line (begin_object ∷ members d)

abbrev pub difference_objects : List DifferenceText → Text
difference_objects shown = flat_map line_of shown
