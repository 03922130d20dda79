-- Objects of JSON whose members are texts of JSON.
use Rattle.std.specs.Prelude.{ℕ, List, ◌++◌, flat_map, codes}

-- A member: its name, which has no character that JSON escapes, and the text of its value.
pub record MemberText : Type 0 where
  pub name : List ℕ
  pub value : List ℕ

-- A member on a line of its own, after another one.
abbrev pub member_after : MemberText → List ℕ
member_after m = codes ",\n\"" ++ (m.name ++ (codes "\":" ++ m.value))

-- The object of the version and these members, and a line feed.
abbrev pub object_text : List MemberText → List ℕ
object_text members = codes "{\"version\":2" ++ (flat_map member_after members ++ codes "}\n")
