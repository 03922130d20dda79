-- Members of JSON objects, and lines that are JSON objects.
use Rattle.std.specs.Prelude.{◌≡◌, ℕ, List, [], ◌∷◌, ◌++◌, Bool, Option, Some, None, map}
use Rattle.std.specs.Fmt.{decimal}
use Rattle.json.specs.Token.{Token, end_object, begin_array, end_array, key, string, number, boolean, null}
use Rattle.json.specs.Print.{print}
use Rattle.json.specs.Written.{Written}

-- The tokens were appended, and what was before them stays.
pub record Appends (old new : Written) (appended : List Token) : Type 0 where
  pub before : new.before ≡ old.before
  pub tokens : new.tokens ≡ old.tokens ++ appended

abbrev pub text_member : List ℕ → List ℕ → List Token
text_member name value = key name ∷ string value ∷ []

abbrev pub optional_token : Option (List ℕ) → Token
optional_token (Some value) = string value
optional_token None = null

-- The member's value is a string, or null.
abbrev pub optional_member : List ℕ → Option (List ℕ) → List Token
optional_member name value = key name ∷ optional_token value ∷ []

abbrev pub flag_member : List ℕ → Bool → List Token
flag_member name value = key name ∷ boolean value ∷ []

abbrev pub number_member : List ℕ → ℕ → List Token
number_member name value = key name ∷ number (decimal value) ∷ []

-- The member's value is an array of strings.
abbrev pub texts_member : List ℕ → List (List ℕ) → List Token
texts_member name values = key name ∷ begin_array ∷ (map string values ++ end_array ∷ [])

-- The line of an object, whose tokens before its end are these.
abbrev pub object_line : List Token → List ℕ
object_line tokens = print (tokens ++ end_object ∷ []) ++ 10 ∷ []
