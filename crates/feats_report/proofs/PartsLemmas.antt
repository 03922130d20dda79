-- Data of the same parts.
use Rattle.std.proofs.Common.{◌≡◌, refl}
use Rattle.cargo_workspaces.specs.Workspaces.{Text}
use Rattle.feats_report.specs.Reports.{data_text}

pub same_data : (u r l d s f p units roots links declarations steps features specs : Text) → u ≡ units → r ≡ roots → l ≡ links → d ≡ declarations → s ≡ steps → f ≡ features → p ≡ specs
    → data_text (record { units = u; roots = r; links = l; declarations = d; steps = s; features = f; specs = p })
    ≡ data_text (record { units = units; roots = roots; links = links; declarations = declarations; steps = steps; features = features; specs = specs })
same_data u r l d s f p units roots links declarations steps features specs a b c e g h i = rw (a, b, c, e, g, h, i) refl
