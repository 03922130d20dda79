use Rattle.std.proofs.Common.{◌≡◌, ◌++◌, ◌∙◌, ap, map}
use Rattle.feature_graph_c.specs.binary.Records.{list, number, text}
use Rattle.guppy_packages.specs.Metadata.{link_table_of}
use Rattle.guppy_packages.specs.Stored.{declared}
use Rattle.feature_graph_c.specs.records.Packages.{declaration_record, link_record}
use Rattle.feature_graph_c.proofs.Pushed.{pushed_four}
use Rattle.feature_graph_c.proofs.records.packages.push_link.Goals as goal

pub returns : goal.returns
returns c =
    let table = link_table_of c.args.link in
    let from : c.package_ix.result ≡ table.from = c.package_ix.ensures.number ∙ c.from.ensures.number in
    let to : c.package_ix-2.result ≡ table.to = c.package_ix-2.ensures.number ∙ c.to.ensures.number in
    let ds = map declared c.declarations.result.now in
    pushed_four c.push_list.result c.args.bytes.now.items c.push_number.new.bytes.items c.push_number-2.new.bytes.items c.push_text.new.bytes.items c.push_list.new.bytes.items
    (number c.package_ix.result) (number c.package_ix-2.result) (text c.dep_name.result.now) (list declaration_record ds) (link_record table)
    c.in_ok-push_number.ensures c.in_ok-push_number-2.ensures c.in_ok-push_text.ensures c.push_list.ensures
    (ap (λ z. number z ++ number c.package_ix-2.result ++ text c.dep_name.result.now ++ list declaration_record ds) from
    ∙ ap (λ z. number table.from ++ number z ++ text c.dep_name.result.now ++ list declaration_record ds) to
    ∙ ap (λ z. number table.from ++ number table.to ++ text z ++ list declaration_record ds) c.dep_name.ensures
    ∙ ap (λ z. number table.from ++ number table.to ++ text table.name ++ list declaration_record z) c.declarations.ensures)
