use Rattle.std.proofs.Common.{◌≡◌, ◌++◌, map, filter, drop}
use Rattle.cargo_workspaces.specs.Views.{declaration_text}
use Rattle.feats_duplicates.specs.Joined.{declaration_of, is_for, joined_declarations}
use Rattle.feats_duplicates.specs.inner.JoinViews.{join_text}
use Rattle.feats_duplicates.proofs.declarations.joined_declarations.Given as goal

abbrev pub invariant-loop-join : goal.invariant-loop-join
invariant-loop-join l =
    let ds = map declaration_text l.declarations in
    joined_declarations (map join_text l.joins) l.member ds
    ≡ map declaration_text l.new.items ++ map (declaration_of ds) (filter (is_for l.member) (map join_text (drop l.join-index l.joins)))
