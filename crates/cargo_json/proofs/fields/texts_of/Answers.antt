use Rattle.std.proofs.Common.{◌∙◌, ap, map, sym}
use Rattle.std.specs.Borrow.{Bor}
use Rattle.std.proofs.lemmas.List.{map-append}
use Rattle.cargo_json.specs.Faults.{Text}
use Rattle.cargo_json.specs.Fields.{wanted}
use Rattle.cargo_json.proofs.Texts.{texts_more, texts_refused}
use Rattle.cargo_json.proofs.fields.texts_of.Goals as goal

pub loop-item-preserved : goal.loop-item-preserved
loop-item-preserved c =
    let pushed = ap (map (λ (s : Bor Text). s.now)) c.in_ok-push.ensures.items ∙ map-append (λ (s : Bor Text). s.now) c.loop-item.texts.items _ in
    rw pushed (texts_more _ c.loop-item.item-index c.item-item.result _ _ c.loop-item-test.true c.item-item.is c.loop-item.invariant _ (sym c.in-Some.ensures))

pub returns-in_default : goal.returns-in_default
returns-in_default c = ap (wanted c.args.place c.args.name.now) (texts_refused _ c.loop-item.item-index c.item-item.result _ _ c.loop-item-test.true c.item-item.is c.loop-item.invariant (sym c.in_default.ensures))
