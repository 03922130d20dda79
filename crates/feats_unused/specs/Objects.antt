-- The lines as JSON objects.
use Rattle.std.specs.Prelude.{List, ◌∷◌, ◌++◌, codes, flat_map}
use Rattle.json.specs.Token.{Token, begin_object}
use Rattle.cargo_workspaces.specs.Workspaces.{PackageText, Text}
use Rattle.feats_lines.specs.parts.Members.{object_line, text_member}
use Rattle.feats_unused.specs.Lines.{kind_of, package_of}
use Rattle.feats_unused.specs.Shown.{ShownText, dead, unused}

abbrev pub head : Text → PackageText → List Token
head kind p = text_member (codes "kind") kind ++ (text_member (codes "package") p.id ++ (text_member (codes "name") p.name ++ text_member (codes "version") p.version))

abbrev pub dead_members : Text → Text → List Token
dead_members name item = text_member (codes "feature") name ++ text_member (codes "item") item

-- What a line says of its package.
abbrev pub detail : ShownText → List Token
detail (unused x name) = text_member (codes "feature") name
detail (dead x name item) = dead_members name item

abbrev pub members : ShownText → List Token
members s = head (kind_of s) (package_of s) ++ detail s

abbrev pub line_of : ShownText → Text
line_of s = object_line (begin_object ∷ members s)

abbrev pub unused_objects : List ShownText → Text
unused_objects shown = flat_map line_of shown
