use Rattle.std.proofs.Common.{◌≡◌, subst, sym}
use Rattle.std.specs.Prelude.{IfOk, string_bytes}
use Rattle.cargo_manifests.specs.EditViews.{without_text}
use Rattle.feats_slim.specs.answers.Lines.{edit_words}
use Rattle.feats_slim.specs.answers.Views.{shown_place_text}
use Rattle.feats_slim.specs.declared.answers.shown.ShownPlace.{ShownPlace}
use Rattle.feats_slim.proofs.answers.rows.edit_words.Goals as goal

pub returns-in-Declared : goal.returns-in-Declared
returns-in-Declared c =
    let without = without_text c.args.shown.now.without in
    subst (λ (p : ShownPlace). IfOk c.declared_edit.result (λ text. string_bytes text ≡ edit_words (shown_place_text p) without)) (sym c.in-Declared.is) c.declared_edit.ensures

pub returns-in-Inherited : goal.returns-in-Inherited
returns-in-Inherited c =
    let without = without_text c.args.shown.now.without in
    subst (λ (p : ShownPlace). IfOk c.inherited_edit.result (λ text. string_bytes text ≡ edit_words (shown_place_text p) without)) (sym c.in-Inherited.is) c.inherited_edit.ensures
