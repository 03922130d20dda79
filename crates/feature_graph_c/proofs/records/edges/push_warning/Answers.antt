use Rattle.std.proofs.Common.{◌≡◌, ◌++◌, ap, sym, string_bytes}
use Rattle.feature_graph_c.specs.binary.Records.{number, text}
use Rattle.feature_core.specs.Warnings.{warning_of}
use Rattle.feature_edges.specs.declared.warnings.FeatureGraphWarning.TheVariants.{MissingFeature, SelfLoop}
use Rattle.feature_graph_c.specs.records.Edges.{warning_record}
use Rattle.feature_graph_c.proofs.Pushed.{pushed_two}
use Rattle.feature_graph_c.proofs.records.edges.push_warning.Goals as goal

pub returns-in_ok-push_number-in-MissingFeature : goal.returns-in_ok-push_number-in-MissingFeature
returns-in_ok-push_number-in-MissingFeature c =
    let id = c.in-MissingFeature.package_id in
    let name = c.in-MissingFeature.feature_name in
    let is : c.args.warning.now ≡ MissingFeature id name = cc in
    pushed_two c.push_feature.result c.args.bytes.now.items c.push_number.new.bytes.items c.push_feature.new.bytes.items (number 0) (text id ++ text (string_bytes name)) (warning_record (warning_of c.args.warning.now))
    c.in_ok-push_number-in-MissingFeature.ensures c.push_feature.ensures (sym (ap (λ w. warning_record (warning_of w)) is))

pub returns-in_ok-push_number-in-SelfLoop : goal.returns-in_ok-push_number-in-SelfLoop
returns-in_ok-push_number-in-SelfLoop c =
    let id = c.in-SelfLoop.package_id in
    let name = c.in-SelfLoop.feature_name in
    let is : c.args.warning.now ≡ SelfLoop id name = cc in
    pushed_two c.push_feature-in-SelfLoop.result c.args.bytes.now.items c.push_number-in-SelfLoop.new.bytes.items c.push_feature-in-SelfLoop.new.bytes.items (number 1) (text id ++ text (string_bytes name)) (warning_record (warning_of c.args.warning.now))
    c.in_ok-push_number-in-SelfLoop.ensures c.push_feature-in-SelfLoop.ensures (sym (ap (λ w. warning_record (warning_of w)) is))
