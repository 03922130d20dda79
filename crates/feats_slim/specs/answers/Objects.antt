-- The lines as JSON objects.
use Rattle.std.specs.Prelude.{ℕ, List, ◌∷◌, ◌++◌, Option, Some, None, flat_map, codes}
use Rattle.json.specs.Token.{Token, begin_object}
use Rattle.cargo_workspaces.specs.Workspaces.{DeclarationText, PackageText, Text}
use Rattle.feats_lines.specs.Kinds.{kind_word}
use Rattle.feats_lines.specs.parts.Members.{number_member, object_line, optional_member, text_member}
use Rattle.feats_slim.specs.edits.Orders.{SlimText}
use Rattle.cargo_manifests.specs.Edits.{WithoutText, defaults, feature}
use Rattle.feats_slim.specs.answers.Shown.{ShownPlaceText, ShownText, all_shown, declared, inherited}

-- The id of the package, and its declaration.
abbrev pub declared_members : PackageText → DeclarationText → List Token
declared_members x d =
    text_member (codes "package") x.id
    ++ (text_member (codes "dependency") d.name ++ (text_member (codes "kind") (kind_word d.kind) ++ optional_member (codes "platform") d.platform))

-- The name of the workspace's entry.
abbrev pub inherited_members : Text → List Token
inherited_members name =
    optional_member (codes "package") None
    ++ (text_member (codes "dependency") name ++ (optional_member (codes "kind") None ++ optional_member (codes "platform") None))

abbrev pub place_members : ShownPlaceText → List Token
place_members (declared x d) = declared_members x d
place_members (inherited name) = inherited_members name

abbrev pub out_members : Text → Option Text → List Token
out_members word name = text_member (codes "without") word ++ optional_member (codes "feature") name

-- What is taken out of the declaration.
abbrev pub without_members : WithoutText → List Token
without_members defaults = out_members (codes "defaults") None
without_members (feature name) = out_members (codes "feature") (Some name)

-- The numbers of packages and features that fall away.
abbrev pub number_members : ℕ → ℕ → List Token
number_members packages features = number_member (codes "lost-packages") packages ++ number_member (codes "lost-features") features

abbrev pub members : ShownText → List Token
members s = place_members s.place ++ (without_members s.without ++ number_members s.packages s.features)

abbrev pub line_of : ShownText → Text
line_of s = object_line (begin_object ∷ members s)

abbrev pub slim_objects : List PackageText → List SlimText → Text
slim_objects packages slims = flat_map line_of (all_shown packages slims)
