use Rattle.std.proofs.Common.{ap, subst}
use Rattle.digraphs.specs.Bits.{has}
use Rattle.walk_engine.specs.Explanations.{IsExplainedWalk}
use Rattle.feature_graph_c.specs.requests.Choices.{choice_of}
use Rattle.feature_graph_c.proofs.ChoiceWalks.{Answered, walk_by}
use Rattle.feature_graph_c.proofs.requests.walking.explained.Goals as goal

pub returns : goal.returns
returns c =
    let members = c.in_ok-walk.walk.members in
    let steps = c.in_ok-walk.steps.items in
    let refused = c.in_ok-walk.refused.items in (
      members,
      subst (λ z. IsExplainedWalk z (has c.args.initials.now) (Answered (choice_of c.args.choice)) tt tt (has members) steps refused) (ap (λ s. s.holds) c.new-source.ensures)
          (walk_by c.new-source.result.holds (has c.args.initials.now) (has members) c.args.choice c.walk_explained.new.offerer steps refused c.in_ok-walk.ensures.walk),
    )
