use Rattle.std.proofs.Common.{subst, option_map}
use Rattle.std.proofs.lemmas.Result.{IfOk-weaker}
use Rattle.json.specs.Json.{object}
use Rattle.json.specs.Value.{value_view}
use Rattle.cargo_json.specs.Parts.{Parts}
use Rattle.cargo_json.proofs.Split.{of_fields}
use Rattle.cargo_json.proofs.parts.parts_of.Goals as goal

pub returns : goal.returns
returns c =
    let d = value_view c.args.document in
    IfOk-weaker c.split.result _ _
    (λ r parts. of_fields d (option_map value_view r.0) (value_view r.1)
    (subst (λ ms. Parts (object ms) (option_map value_view r.0) (value_view r.1)) c.fields_of.ensures parts))
    c.split.ensures
