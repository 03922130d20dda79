use Rattle.std.proofs.Common.{◌∙◌, ap, Global, map, String, sym, Vec}
use Rattle.std.specs.String.{string_bytes}
use Rattle.cargo_workspaces.specs.Views.{feature_text, package_text}
use Rattle.cargo_workspaces.specs.Workspaces.{PackageText}
use Rattle.cargo_workspaces.specs.declared.package.Package.{Package}
use Rattle.plan_rows.specs.Gates.{gates_of}
use Rattle.plan_rows.proofs.GateLemmas.{same_at}
use Rattle.plan_rows.proofs.gated_features.features_of_packages.Goals as goal

pub gated_features-requires : goal.gated_features-requires
gated_features-requires c =
    let texts = λ (v : Vec (Vec (String Global) Global) Global). map (λ (f : Vec (String Global) Global). map string_bytes f.items) v.items in
    let gates = λ (p : PackageText). map gates_of p.features in
    let at = same_at texts gates package_text c.args.gates.now c.args.packages.now c.loop-ix.ix c.index-gates-ix.result c.index-packages-ix.result c.requires c.loop-ix-test.true in
    ap (map (λ (f : Vec (String Global) Global). map string_bytes f.items)) c.deref-in-loop-ix.ensures.value ∙ ap texts c.index-gates-ix.is ∙ at
    ∙ ap (λ (p : Package). gates (package_text p)) (sym c.index-packages-ix.is) ∙ ap (λ z. map gates_of (map feature_text z)) (sym c.deref.ensures.value)
