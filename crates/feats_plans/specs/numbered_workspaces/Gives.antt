-- The result of a call beside the result that a definition gives.
use Rattle.std.specs.Prelude.{◌≡◌, Result, Ok, Err, ⊤}
use Rattle.cargo_json.specs.Faults.{refusal_of}
use Rattle.feats_plans.specs.declared.numbered_workspaces.fault.WorkspaceFault.{WorkspaceFault}
use Rattle.feats_plans.specs.declared.numbered_workspaces.fault.WorkspaceFault.TheVariants as fault
use Rattle.feats_plans.specs.numbered_workspaces.Faults.{NoWorkspace, unread, feature_name, two_names}

-- What is claimed of a fault; nothing if an allocation failed.
abbrev pub Claims : WorkspaceFault → (NoWorkspace → Type 0) → Type 0
Claims (fault.Document refused) claim = claim (unread (refusal_of refused))
Claims (fault.FeatureName owner name) claim = claim (feature_name owner.now name.now)
Claims (fault.TwoNames owner first second) claim = claim (two_names owner.now first.now second.now)
Claims fault.Memory claim = ⊤

-- A call returned the expected result, with its value seen through `view`.
abbrev pub Gives : {X Y : Type 0} → (X → Y) → Result X WorkspaceFault → Result Y NoWorkspace → Type 0
Gives view (Ok x) given = given ≡ Ok (view x)
Gives view (Err e) given = Claims e (λ no. given ≡ Err no)
