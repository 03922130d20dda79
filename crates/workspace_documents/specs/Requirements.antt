-- Which versions a requirement admits, with pre-releases and build metadata left out on both sides.
use Rattle.std.specs.Prelude.{List, [], Bool, false, Option, Some, None, Result, Ok, Err}
use Rattle.std.specs.List.{list_all}
use Rattle.semver.specs.Parse.{Held, Parts, req_of, version_parts}
use Rattle.semver.specs.EvalViews.{matches_view}
use Rattle.semver.specs.declared.error.Error.{Error}
use Rattle.cargo_json.specs.Faults.{Text}

-- the three numbers of a version
abbrev pub plain_version : Parts → Parts
plain_version v = (v.0, v.1, v.2, [], [])

-- the operator and the numbers of a comparator
abbrev pub plain_comparator : Held → Held
plain_comparator c = (c.0, c.1, c.2, c.3, [])

-- the three numbers of a version, or nothing if the text isn't a version
abbrev pub numbers_in : Result Parts Error → Option Parts
numbers_in (Ok v) = Some (plain_version v)
numbers_in (Err e) = None

abbrev pub admits_numbers : Result (List Held) Error → Option Parts → Bool
admits_numbers cs None = false
admits_numbers (Ok cs) (Some v) = list_all (λ c. matches_view (plain_comparator c) v) cs
admits_numbers (Err e) (Some v) = false

-- Whether each comparator of the requirement admits the version. False if either text is invalid.
abbrev pub admits : Text → Text → Bool
admits requirement version = admits_numbers (req_of requirement) (numbers_in (version_parts version))
