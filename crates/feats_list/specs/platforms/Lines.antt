-- The lines of specs.
use Rattle.std.specs.Prelude.{◌≡◌, ℕ, List, [], ◌∷◌, ◌++◌, Bool, ◌==◌, map, flat_map, length, nat_lt, codes, if◌then◌else◌}
use Rattle.std.specs.Fmt.{decimal}
use Rattle.cargo_workspaces.specs.Workspaces.{Text}
use Rattle.feats_lines.specs.parts.Tables.{RowText, table_of}
use Rattle.plan_rows.specs.platforms.DeclaredSpecs.{DeclaredText}
use Rattle.feats_list.specs.platforms.Lists.{AreListed, ListedText, PlaceText}

-- The text of a number of declarations.
abbrev pub count_text : ℕ → Text
count_text count = decimal count ++ (if count == 1 then codes " declaration" else codes " declarations")

abbrev pub after_comma : Text → Text
after_comma name = codes ", " ++ name

abbrev pub holds_on : Text → List Text → Text
holds_on first more = codes "holds on " ++ (first ++ flat_map after_comma more)

-- The text of a spec that holds in the places with these names, of one place or of several.
abbrev pub truth_text : Bool → List Text → Text
truth_text several [] = if several then codes "holds nowhere" else codes "doesn't hold"
truth_text several (first ∷ more) = if several then holds_on first more else codes "holds"

-- The spec is last, for it may be long.
abbrev pub row_of : Bool → ListedText → RowText
row_of several l = record { first = count_text l.count; second = truth_text several l.holds; third = l.spec }

abbrev pub table : Bool → List ListedText → Text
table several list = table_of (map (row_of several) list)

-- The text is that of the specs of declarations.
pub record IsSpecLines (declared : List DeclaredText) (places : List PlaceText) (text : Text) : Type 0 where
  pub listed : List ListedText
  pub are_listed : AreListed declared places listed
  pub is_text : text ≡ table (nat_lt 1 (length places)) listed
