use Rattle.std.proofs.Common.{◌∙◌, ap, Global, map, Option, option_map, String, sym, Vec}
use Rattle.std.specs.String.{string_bytes}
use Rattle.cargo_workspaces.specs.Views.{feature_text}
use Rattle.cargo_workspaces.specs.Workspaces.{FeatureText}
use Rattle.cargo_workspaces.specs.declared.package.Feature.{Feature}
use Rattle.plan_rows.specs.Gates.{gates_of}
use Rattle.plan_rows.specs.Steps.{command_list}
use Rattle.plan_rows.proofs.GateLemmas.{same_at}
use Rattle.plan_rows.proofs.gated_features.features_of_commands.Goals as goal

pub features_of_command-requires : goal.features_of_command-requires
features_of_command-requires c =
    let texts = λ (v : Vec (Vec (String Global) Global) Global). map (λ (f : Vec (String Global) Global). map string_bytes f.items) v.items in
    let gates = λ (o : Option FeatureText). map gates_of (command_list o) in
    let at = same_at texts gates (option_map feature_text) c.args.gates.now c.args.commands.now c.loop-ix.ix c.index-gates-ix.result c.index-commands-ix.result c.requires c.loop-ix-test.true in
    ap (map (λ (f : Vec (String Global) Global). map string_bytes f.items)) c.deref.ensures.value ∙ ap texts c.index-gates-ix.is ∙ at
    ∙ ap (λ (o : Option Feature). gates (option_map feature_text o)) (sym c.index-commands-ix.is)
