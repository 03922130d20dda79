use Rattle.std.proofs.Common.{ap, map, inl, inr}
use Rattle.std.proofs.lemmas.List.{nil_from_length}
use Rattle.cargo_workspaces.specs.Views.{texts}
use Rattle.plan_rows.specs.platforms.HeldSpecs.{holds_on}
use Rattle.feats_answers.specs.SpecTexts.{place_of}
use Rattle.feats_answers.proofs.Zips.{first_ended, second_ended}
use Rattle.feats_answers.proofs.places.push_targets.Goals as goal

pub returns : goal.returns
returns c =
    elim c.in-None.ensures.steps [
      | inl e ↦ first_ended place_of _ _ _ _ c.loop-name.invariant (ap texts (nil_from_length _ e.1.0))
      | inr e ↦ second_ended place_of _ _ _ _ c.loop-name.invariant (ap (map holds_on) (nil_from_length _ e.1.0))
    ]
