-- The JSON objects of specs.
use Rattle.std.specs.Prelude.{◌≡◌, List, ◌∷◌, ◌++◌, flat_map, codes}
use Rattle.json.specs.Token.{Token, begin_object}
use Rattle.cargo_workspaces.specs.Workspaces.{Text}
use Rattle.feats_lines.specs.parts.Members.{number_member, object_line, text_member, texts_member}
use Rattle.plan_rows.specs.platforms.DeclaredSpecs.{DeclaredText}
use Rattle.feats_list.specs.platforms.Lists.{AreListed, ListedText, PlaceText}

abbrev pub members : ListedText → List Token
members l =
    text_member (codes "spec") l.spec
    ++ (number_member (codes "declarations") l.count
    ++ (texts_member (codes "holds") l.holds
    ++ texts_member (codes "fails") l.fails))

abbrev pub line_of : ListedText → Text
line_of l = object_line (begin_object ∷ members l)

abbrev pub lines : List ListedText → Text
lines list = flat_map line_of list

-- The text is that of the specs of declarations.
pub record IsSpecObjects (declared : List DeclaredText) (places : List PlaceText) (text : Text) : Type 0 where
  pub listed : List ListedText
  pub are_listed : AreListed declared places listed
  pub is_text : text ≡ lines listed
