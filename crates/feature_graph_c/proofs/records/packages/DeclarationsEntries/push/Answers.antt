use Rattle.std.proofs.Common.{ap, get_or, map, sym}
use Rattle.guppy_packages.specs.Stored.{declared}
use Rattle.feature_graph_c.specs.records.Packages.{declaration_record}
use Rattle.feature_graph_c.proofs.Pushed.{entry_pushed, two_maps}
use Rattle.feature_graph_c.proofs.records.packages.DeclarationsEntries.push.Goals as goal

pub returns : goal.returns
returns c =
    let xs = c.args.self.now.0.now in
    let x = c.index-self-at.result in
    entry_pushed c.push_declaration.result (map declaration_record (map declared xs)) c.args.at (declaration_record (declared (get_or xs c.args.at x))) (declaration_record (declared x)) c.args.bytes.now.items c.push_declaration.new.bytes.items
    (two_maps declaration_record declared xs c.args.at x c.requires c.index-self-at.is) (ap (λ z. declaration_record (declared z)) (sym c.index-self-at.is)) c.push_declaration.ensures
