-- The comparators of a parsed requirement.
use Rattle.std.proofs.Common.{◌≡◌, ◌∙◌, sym, ap, List, map}
use Rattle.std.specs.Prelude.{Result, Ok, Some}
use Rattle.std.specs.List.{list_all}
use Rattle.std.proofs.lemmas.List.Folds.{list_all-map}
use Rattle.semver.specs.Identifiers.{comparator_view}
use Rattle.semver.specs.Parse.{Held, Parts}
use Rattle.semver.specs.EvalViews.{matches_view}
use Rattle.semver.specs.declared.Comparator.{Comparator}
use Rattle.semver.specs.declared.error.Error.{Error}
use Rattle.workspace_documents.specs.Requirements.{plain_comparator, admits_numbers}

pub admits_by : (cs : List Comparator) (v : Parts) (r : Result (List Held) Error) → r ≡ Ok (map comparator_view cs) → list_all (λ c. matches_view (plain_comparator (comparator_view c)) v) cs ≡ admits_numbers r (Some v)
admits_by cs v r e = sym (ap (λ z. admits_numbers z (Some v)) e ∙ list_all-map (λ c. matches_view (plain_comparator c) v) comparator_view cs)
