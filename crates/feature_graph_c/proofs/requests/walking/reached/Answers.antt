use Rattle.std.proofs.Common.{◌∙◌, ap, refl, subst}
use Rattle.std.proofs.lemmas.Result.{IfOk-weaker}
use Rattle.feature_graph_c.specs.binary.Records.{list, number}
use Rattle.digraphs.specs.Bits.{members}
use Rattle.feature_graph_c.specs.requests.Answers.{answer_with}
use Rattle.feature_graph_c.specs.requests.Contents.{IsSetOf}
use Rattle.feature_graph_c.proofs.requests.walking.reached.Goals as goal

pub returns : goal.returns
returns c =
    IfOk-weaker c.with_numbers.result _ _
    (λ answer bytes. record {
      content = list number (members c.in_ok-set-2.set);
      is_content = record {
        initials = c.in_ok-set.set;
        is_set = subst (λ n. IsSetOf n c.args.initials.now c.in_ok-set.set) c.node_count.ensures c.in_ok-set.ensures;
        set = c.in_ok-set-2.set;
        exact = c.in_ok-set-2.ensures.members c.args.graph.now c.requires.built;
        long = c.in_ok-set-2.ensures.size;
        bytes = refl;
      };
      bytes = bytes ∙ ap (λ z. answer_with (list number z)) (c.deref.ensures.value ∙ c.in_ok-numbers.ensures);
    })
    c.with_numbers.ensures
