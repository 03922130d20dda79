use Rattle.std.proofs.Common.{◌++◌, refl, map, ⊎_elim}
use Rattle.std.proofs.lemmas.Result.{on_ok_weaker}
use Rattle.feature_links.specs.Facts.{base_edge, feature_edge}
use Rattle.feature_edges.proofs.KeyEdges.{base_value, feature_value}
use Rattle.feature_edges.proofs.PairLemmas.{names_differ}
use Rattle.feature_edges.proofs.table.MadeEdges.add_unconditional.Goals as goal

pub returns-in-FeatureToBase : goal.returns-in-FeatureToBase
returns-in-FeatureToBase c = on_ok_weaker c.push_base.result
    (λ pushed t tables of_tables. record {
      says = base_edge;
      appended = record { weak = refl; last = refl; edges = pushed; ends = c.in_ok-push.ensures.pushed };
      value = λ rest. base_value t (names_differ t tables) (map (λ e. e.0) c.args.self.now.weak.entries ++ rest) c.args.key of_tables c.in-FeatureToBase.is;
    })
    c.push_base.ensures

pub returns-in_default : goal.returns-in_default
returns-in_default c = on_ok_weaker c.push_named.result
    (λ pushed t tables of_tables. record {
      says = feature_edge;
      appended = record { weak = refl; last = refl; edges = pushed; ends = c.in_ok-push.ensures.pushed };
      value = λ rest.
          feature_value t (names_differ t tables) (map (λ e. e.0) c.args.self.now.weak.entries ++ rest) c.args.key of_tables
          (⊎_elim (λ base. absurd (c.in_default.not-FeatureToBase base)) (λ named. named) c.requires);
    })
    c.push_named.ensures
