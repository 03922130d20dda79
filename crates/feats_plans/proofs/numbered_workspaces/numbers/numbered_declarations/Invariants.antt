use Rattle.std.proofs.Common.{◌≡◌, ◌++◌, map, length}
use Rattle.std.specs.Prelude.{zip}
use Rattle.std.specs.Iterator.Adapters.{zip_first, zip_second}
use Rattle.std.specs.Slice.Iter.{iter_rest}
use Rattle.std.specs.Vec.Iter.{into_iter_items, into_iter_len}
use Rattle.cargo_workspaces.specs.Views.{declaration_text}
use Rattle.workspace_documents.specs.Views.{text_view, declaration_view}
use Rattle.workspace_documents.specs.LeadViews.{lead_view}
use Rattle.feats_plans.specs.numbered_workspaces.Numbers.{numbered_declaration}
use Rattle.feats_plans.proofs.numbered_workspaces.numbers.numbered_declarations.Given as goal

abbrev pub invariant-loop-declaration : goal.invariant-loop-declaration
invariant-loop-declaration l =
    let numbered = numbered_declaration (map text_view l.ids) in
    let left = into_iter_items (zip_first l.declaration-iterator) in
    record {
      so : map numbered (zip (map declaration_view l.fn.declarations.items) (map lead_view l.leads)) ≡ map declaration_text l.numbered.items ++ map numbered (zip (map declaration_view left) (map lead_view (iter_rest (zip_second l.declaration-iterator))));
      long : into_iter_len (zip_first l.declaration-iterator) ≡ length left;
    }
