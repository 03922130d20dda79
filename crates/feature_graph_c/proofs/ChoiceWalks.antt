-- Walks that answer each offer by a choice.
use Rattle.std.proofs.Common.{◌≡◌, ℕ, Bool, List, [], ◌∷◌, refl, ap, sym, ◌∙◌}
use Rattle.walk_engine.specs.declared.walks.Half.{Half}
use Rattle.walk_engine.specs.declared.walks.Step.{Step}
use Rattle.walk_engine.specs.Explanations.{IsExplainedWalk}
use Rattle.walk_engine.specs.Walks.{Content, Call, GoesAlong}
use Rattle.feature_graph_c.specs.requests.Requests.{Choice, accepts}
use Rattle.feature_graph_c.specs.requests.Choices.{choice_of}
use Rattle.feature_graph_c.specs.declared.requests.choice.Choice.{Choice as HeldChoice}

-- The steps of the offerer, and those of the answers alone.
abbrev Gives : HeldChoice → ℕ → Half → Bool → HeldChoice → Type 0
Gives s e h answer t = (answer ≡ accepts (choice_of s) e h) × (choice_of t ≡ choice_of s)

abbrev pub Answered : Choice → Unit {0} → ℕ → Half → Bool → Unit {0} → Type 0
Answered choice s e h answer t = answer ≡ accepts choice e h

along : (choice : Choice) (s : HeldChoice) (run : List Call) (t : HeldChoice) → choice_of s ≡ choice → GoesAlong Gives s run t → (choice_of t ≡ choice) × GoesAlong (Answered choice) tt run tt
along choice s [] t is same = (ap choice_of (sym same) ∙ is, refl)
along choice s (call ∷ before) t is (m, goes, step) =
    let more = along choice s before m is goes in
    (step.1 ∙ more.0, (tt, more.1, step.0 ∙ ap (λ z. accepts z call.edge call.half) more.0))

-- A walk of the offerer is one by the answers alone.
pub walk_by : (c : Content) (I M : ℕ → Bool) (s t : HeldChoice) (steps : List Step) (refused : List (ℕ × Half))
    → IsExplainedWalk c I Gives s t M steps refused → IsExplainedWalk c I (Answered (choice_of s)) tt tt M steps refused
walk_by c I M s t steps refused w = record {
  walk = record {
    run = w.walk.run;
    calls = (along (choice_of s) s w.walk.run t refl w.walk.calls).1;
    legal = w.walk.legal;
    complete = w.walk.complete;
    members = w.walk.members;
    least = w.walk.least;
  };
  explanation = w.explanation;
  listed = w.listed;
  refused_in_order = w.refused_in_order;
}
