use Rattle.std.proofs.Common.{◌≡◌, ℕ, map, take, drop}
use Rattle.std.specs.Prelude.{option_map}
use Rattle.std.specs.BTreeMap.{get}
use Rattle.std.specs.Ordering.{nat_cmp}
use Rattle.cargo_workspaces.specs.Views.{declaration_text}
use Rattle.workspace_documents.specs.Lists.{first_some}
use Rattle.workspace_documents.specs.Views.{text_view}
use Rattle.feats_plans.specs.numbered_workspaces.Faults.{other_names, two_names_of}
use Rattle.feats_plans.proofs.Names.{name_at}
use Rattle.feats_plans.proofs.numbered_workspaces.rules.two_names.Given as goal

abbrev pub invariant-loop-declaration : goal.invariant-loop-declaration
invariant-loop-declaration l =
    let all = map declaration_text l.declarations in
    record {
      so : two_names_of all ≡ first_some (map (other_names all) (map declaration_text (drop l.declaration-index l.declarations)));
      table : (q : ℕ) → option_map text_view (get nat_cmp l.names q) ≡ name_at (map declaration_text (take l.declaration-index l.declarations)) q;
    }
