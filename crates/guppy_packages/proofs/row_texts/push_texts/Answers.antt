use Rattle.std.proofs.Common.{◌≡◌, ◌∙◌, ◌+◌, ◌∷◌, [], ◌++◌, ap, append_assoc, get_or, subst, sym, take, add-one}
use Rattle.std.specs.String.{string_bytes}
use Rattle.std.proofs.Math.Seq.{take-suc}
use Rattle.std.proofs.lemmas.List.{append-nil, map-append}
use Rattle.guppy_packages.specs.Rows.{texts}
use Rattle.guppy_packages.specs.inner.Pushed.{IsPushed}
use Rattle.guppy_packages.proofs.row_texts.push_texts.Goals as goal

pub loop-item-init : goal.loop-item-init
loop-item-init c = λ before p. rw (append-nil before) p

pub loop-item-preserved : goal.loop-item-preserved
loop-item-preserved c =
    let ix = c.loop-item.item-index in
    let items = c.args.added.now in
    let item = get_or items ix (record { ref_ptr = (0, 0); now = [] }) in
    let more : texts (take (ix + 1) items) ≡ texts (take ix items) ++ item.now ∷ [] = ap (λ n. texts (take n items)) (add-one ix) ∙ ap texts (take-suc items ix (record { ref_ptr = (0, 0); now = [] }) c.loop-item-test.true) ∙ map-append (λ t. t.now) (take ix items) (item ∷ []) in
    λ before p.
    subst (λ ts. IsPushed ts (string_bytes c.push_text.new.text) c.push_text.new.ends.items)
    (append_assoc before (texts (take ix items)) (item.now ∷ []) ∙ ap (λ ts. before ++ ts) (sym more))
    (c.in_ok-push_text.ensures (before ++ texts (take ix items)) (c.loop-item.invariant before p))
