use Rattle.std.proofs.Common.{subst, sym}
use Rattle.std.specs.Prelude.{OnOk}
use Rattle.feats_lines.specs.parts.Members.{Appends}
use Rattle.feats_slim.specs.answers.Objects.{place_members}
use Rattle.feats_slim.specs.answers.Views.{shown_place_text}
use Rattle.feats_slim.specs.declared.answers.shown.ShownPlace.{ShownPlace}
use Rattle.feats_slim.proofs.answers.objects.write_place.Goals as goal

pub returns-in-Declared : goal.returns-in-Declared
returns-in-Declared c =
    subst (λ (p : ShownPlace). OnOk c.write_declared.result (Appends c.args.writer.now c.write_declared.new.writer (place_members (shown_place_text p)))) (sym c.in-Declared.is) c.write_declared.ensures

pub returns-in-Inherited : goal.returns-in-Inherited
returns-in-Inherited c =
    subst (λ (p : ShownPlace). OnOk c.write_inherited.result (Appends c.args.writer.now c.write_inherited.new.writer (place_members (shown_place_text p)))) (sym c.in-Inherited.is) c.write_inherited.ensures
