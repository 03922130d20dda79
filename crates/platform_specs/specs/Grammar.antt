-- The texts of platform specs and of facts, as relations between characters and values.
--
--     spec   = "cfg(" E ")" | name
--     E      = ("all" | "any") "(" [ E { "," E } [","] ] ")" | "not" "(" E ")" | "true" | "false" | fact
--     fact   = IDENT [ "=" STRING ]
--     IDENT  = [ "r#" ] (A-Z a-z _) { A-Z a-z 0-9 _ }
--     STRING = '"' { any character but '"' } '"'
--     name   = { letter or digit of Unicode, "_", "-", "." }
--
-- Inside `cfg(..)`, spaces (only U+0020) may be before and after each token. `all`, `any` and `not` without
-- `r#` are operators wherever an E may begin. `true` and `false` without `=` are constants, also with `r#`.
use Rattle.std.specs.Prelude.{◌≡◌, ℕ, Bool, true, false, ◌||◌, ◌==◌, ◌⊎◌, List, [], ◌∷◌, ◌++◌, map, Option, Some, None, IsTrue, IsFalse, codes, if◌then◌else◌}
use Rattle.std.specs.Char.{is_ascii_alphabetic, is_ascii_alphanumeric}
use Rattle.std.specs.Char.Unicode.Alphabetic.{is_alphabetic}
use Rattle.std.specs.Char.Unicode.Numeric.{is_numeric}
use Rattle.std.specs.List.{AllByRecursion, slice_split}
use Rattle.std.specs.Str.{chars, bytes_eq, encode_utf8_all}
use Rattle.platform_specs.specs.Facts.{FactText}
use Rattle.platform_specs.specs.Expressions.{Expression, Expressions, fact, constant, not_of, all_of, any_of, no_more, part, Spec, platform, cfg, Target}

-- each character passes the test
abbrev pub AllAre : (ℕ → Bool) → List ℕ → Type 0
AllAre is_one = AllByRecursion (λ c. is_one c ≡ true)

-- ' '
abbrev pub is_space : ℕ → Bool
is_space c = c == 32

-- A-Z a-z _
abbrev pub begins_name : ℕ → Bool
begins_name c = is_ascii_alphabetic c || c == 95

-- A-Z a-z 0-9 _
abbrev pub continues_name : ℕ → Bool
continues_name c = is_ascii_alphanumeric c || c == 95

-- anything but '"'
abbrev pub is_in_string : ℕ → Bool
is_in_string c = if c == 34 then false else true

-- a character of a platform name
abbrev pub is_in_platform : ℕ → Bool
is_in_platform c = (is_alphabetic c || is_numeric c) || ((c == 95 || c == 45) || c == 46)

abbrev pub IsIdentifier : List ℕ → Type 0
IsIdentifier [] = ⊥
IsIdentifier (c ∷ cs) = IsTrue (begins_name c) × AllAre continues_name cs

-- the names that are operators unless `r#` is before them
abbrev pub is_operator : List ℕ → Bool
is_operator name = bytes_eq name (codes "all") || (bytes_eq name (codes "any") || bytes_eq name (codes "not"))

-- no name is an operator
abbrev pub is_never : List ℕ → Bool
is_never _ = false

-- the text is the name, unless bare names of this kind are reserved, or `r#` and the name
abbrev pub SpellsName : (List ℕ → Bool) → List ℕ → List ℕ → Type 0
SpellsName is_reserved name text =
    IsIdentifier name × (((text ≡ name) × IsFalse (is_reserved name)) ⊎ (text ≡ codes "r#" ++ name))

-- the text with spaces before and after it
abbrev pub Spaced : (List ℕ → Type 0) → List ℕ → Type 0
Spaced P text = (before inner after : List ℕ) × (text ≡ before ++ (inner ++ after))
    × AllAre is_space before × P inner × AllAre is_space after

-- '=', spaces, and the value between two '"'
abbrev pub SpellsValue : List ℕ → List ℕ → Type 0
SpellsValue value text = (gap cs : List ℕ) × (text ≡ codes "=" ++ (gap ++ (codes "\"" ++ (cs ++ codes "\""))))
    × AllAre is_space gap × AllAre is_in_string cs × (value ≡ encode_utf8_all cs)

-- the text spells the name alone, or the name and the value
abbrev pub SpellsItem : (List ℕ → Bool) → List ℕ → Option (List ℕ) → List ℕ → Type 0
SpellsItem is_reserved name None text = SpellsName is_reserved name text
SpellsItem is_reserved name (Some value) text = (word gap rest : List ℕ) × (text ≡ word ++ (gap ++ rest))
    × SpellsName is_reserved name word × AllAre is_space gap × SpellsValue value rest

-- the text spells the fact
abbrev pub SpellsFact : (List ℕ → Bool) → FactText → List ℕ → Type 0
SpellsFact is_reserved f text = SpellsItem is_reserved f.name f.value text

-- the words `true` and `false`, as facts without a value
abbrev pub constant_word : Bool → FactText
constant_word true = record { name = codes "true"; value = None }
constant_word false = record { name = codes "false"; value = None }

abbrev pub constant_named : List ℕ → Option Bool
constant_named name = if bytes_eq name (codes "true") then Some true else (if bytes_eq name (codes "false") then Some false else None)

-- the constant that a fact spells
abbrev pub constant_at : List ℕ → Option (List ℕ) → Option Bool
constant_at name None = constant_named name
constant_at name (Some value) = None

-- an operator's word, spaces, and its parts in brackets
abbrev pub Applied : List ℕ → (List ℕ → Type 0) → List ℕ → Type 0
Applied word P text = (gap inner : List ℕ) × (text ≡ word ++ (gap ++ (codes "(" ++ (inner ++ codes ")"))))
    × AllAre is_space gap × P inner

abbrev mutual
  -- the text spells the expression, without spaces around it
  pub Spells : Expression → List ℕ → Type 0
  Spells (fact f) text = SpellsFact is_operator f text × (constant_at f.name f.value ≡ None)
  Spells (constant b) text = SpellsFact is_operator (constant_word b) text
  Spells (not_of e) text = Applied (codes "not") (Spaced (Spells e)) text
  Spells (all_of es) text = Applied (codes "all") (SpellsParts es) text
  Spells (any_of es) text = Applied (codes "any") (SpellsParts es) text

  -- the text spells the parts with a ',' between them, and at most one after the last
  pub SpellsParts : Expressions → List ℕ → Type 0
  SpellsParts no_more text = AllAre is_space text
  SpellsParts (part e es) text = (first rest : List ℕ) × (text ≡ first ++ rest) × Spaced (Spells e) first
      × (((es ≡ no_more) × (rest ≡ [])) ⊎ ((more : List ℕ) × (rest ≡ codes "," ++ more) × SpellsParts es more))

-- the characters spell the spec
abbrev pub SpellsSpec : Spec → List ℕ → Type 0
SpellsSpec (platform name) text = AllAre is_in_platform text × (name ≡ encode_utf8_all text)
SpellsSpec (cfg e) text = (inner : List ℕ) × (text ≡ codes "cfg(" ++ (inner ++ codes ")")) × Spaced (Spells e) inner

-- the grammar: the text spells the spec
abbrev pub IsSpecText : List ℕ → Spec → Type 0
IsSpecText text spec = SpellsSpec spec (chars text)

-- a line of a cfg text spells the fact, and any name may be a fact there
abbrev pub SpellsLine : FactText → List ℕ → Type 0
SpellsLine f line = Spaced (SpellsFact is_never f) (chars line)

-- a line without a carriage return at its end
abbrev pub without_return : List ℕ → List ℕ
without_return [] = []
without_return (b ∷ []) = if b == 13 then [] else b ∷ []
without_return (b ∷ c ∷ bs) = b ∷ without_return (c ∷ bs)

-- the lines of a text, split at each line feed
abbrev pub lines_of : List ℕ → List (List ℕ)
lines_of text = map without_return (slice_split (λ b. b == 10) text)

-- the lines spell the facts, in order; an empty line spells none
abbrev pub SpellsLines : List (List ℕ) → List FactText → Type 0
SpellsLines [] facts = facts ≡ []
SpellsLines ([] ∷ others) facts = SpellsLines others facts
SpellsLines ((b ∷ bs) ∷ others) facts = (f : FactText) × (rest : List FactText) × (facts ≡ f ∷ rest)
    × SpellsLine f (b ∷ bs) × SpellsLines others rest

-- a triple and a cfg text describe the target: the triple itself, and the facts of the lines
abbrev pub IsTarget : List ℕ → List ℕ → Target → Type 0
IsTarget triple text target = (target.triple ≡ triple) × SpellsLines (lines_of text) target.facts
