-- Arrays of numbers, and of pairs of numbers, as JSON.
use Rattle.std.specs.Prelude.{ℕ, List, [], ◌∷◌, ◌++◌, map, flat_map}
use Rattle.std.specs.Fmt.{decimal}
use Rattle.json.specs.Token.{Token, begin_array, end_array, number}

abbrev pub number_token : ℕ → Token
number_token n = number (decimal n)

abbrev pub number_tokens : List ℕ → List Token
number_tokens ns = begin_array ∷ (map number_token ns ++ end_array ∷ [])

abbrev pub pair_tokens : ℕ × ℕ → List Token
pair_tokens p = begin_array ∷ number_token p.0 ∷ number_token p.1 ∷ end_array ∷ []

abbrev pub pairs_tokens : List (ℕ × ℕ) → List Token
pairs_tokens ps = begin_array ∷ (flat_map pair_tokens ps ++ end_array ∷ [])
