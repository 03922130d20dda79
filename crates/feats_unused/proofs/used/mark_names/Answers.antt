use Rattle.std.proofs.Common.{◌∙◌}
use Rattle.cargo_workspaces.specs.Views.{package_text, texts}
use Rattle.feats_unused.specs.inner.Marks.{HasName}
use Rattle.feats_unused.proofs.MarkLemmas.{all_marked, marked_more, marks_by, marks_none, marks_on, none_in, wider_name}
use Rattle.feats_unused.proofs.used.mark_names.Goals as goal

pub loop-name-init : goal.loop-name-init
loop-name-init c = record {
  marks = marks_none (HasName (package_text c.args.«package».now).features (texts c.args.names.now)) c.args.used.now.items c.args.waiting.now.items;
  marked = λ n h. absurd (none_in n h);
}

pub mark_name-requires : goal.mark_name-requires
mark_name-requires c = record { sorted = c.requires.sorted; size = c.loop-name.invariant.marks.size ∙ c.requires.size }

pub loop-name-preserved : goal.loop-name-preserved
loop-name-preserved c =
    let features = (package_text c.args.«package».now).features in
    let names = c.args.names.now in
    let i = c.loop-name.name-index in
    let m = c.in_ok-mark_name.ensures.marks in
    record {
      marks = marks_on (HasName features (texts names)) c.args.used.now.items c.loop-name.used.items c.mark_name.new.used.items c.args.waiting.now.items c.loop-name.waiting.items c.mark_name.new.waiting.items
          c.loop-name.invariant.marks
          (marks_by _ (HasName features (texts names)) c.loop-name.used.items c.mark_name.new.used.items c.loop-name.waiting.items c.mark_name.new.waiting.items (wider_name features names i _ c.loop-name-test.true) m);
      marked = marked_more features names i _ _ c.loop-name.used.items c.mark_name.new.used.items c.loop-name.waiting.items c.mark_name.new.waiting.items c.loop-name-test.true c.loop-name.invariant.marked m c.in_ok-mark_name.ensures.marked;
    }

pub returns-clause-marked : goal.returns-clause-marked
returns-clause-marked c = all_marked (package_text c.args.«package».now).features c.args.names.now c.loop-name.name-index c.loop-name.used.items c.loop-name-test.false c.loop-name.invariant.marked
