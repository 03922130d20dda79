use Rattle.std.proofs.Common.{subst, true}
use Rattle.std.specs.Prelude.{◌≡◌}
use Rattle.cargo_workspaces.specs.Views.{package_text}
use Rattle.feats_lines.proofs.Tokens.{on_ok}
use Rattle.feats_unused.specs.inner.Marks.{flag}
use Rattle.feats_unused.proofs.MarkLemmas.{marks_by, marks_none, only_name, same_some, never_some}
use Rattle.feats_unused.proofs.used.mark_name.Goals as goal

pub returns-in-Some : goal.returns-in-Some
returns-in-Some c = record {
  marks = on_ok c.mark.result c.mark.ensures.marks (λ m. marks_by _ _ _ _ _ _ (only_name (package_text c.args.«package».now).features c.args.name.now c.in-Some.number c.in-Some.ensures.found) m);
  marked = on_ok c.mark.result c.mark.ensures.marked (λ m k f at is. subst (λ z. flag c.mark.new.used.items z ≡ true) (same_some c.in-Some.number k (c.in-Some.ensures.all k f at is)) m);
}

pub returns-in-None : goal.returns-in-None
returns-in-None c = record {
  marks = marks_none _ c.args.used.now.items c.args.waiting.now.items;
  marked = λ k f at is. never_some k (c.in-None.ensures.all k f at is);
}
