use Rattle.std.proofs.Common.{◌<◌, ◌≡◌, ◌∙◌, ◌∷◌, ◌-◌, ◌+◌, ap, arith, drop, length, subst, take}
use Rattle.guppy_packages.specs.Rows.{row_text, texts}
use Rattle.guppy_packages.specs.inner.RowTexts.{AreAt, row_texts}
use Rattle.guppy_packages.proofs.first_pass.take_row.Goals as goal

pub new-requires : goal.new-requires
new-requires c = omega (arith, c.requires.next, c.requires.names.within)

pub push_feature_row-requires : goal.push_feature_row-requires
push_feature_row-requires c =
    let all = c.args.names.now.value in
    let row = c.in-Feature.name.now ∷ texts c.in-Feature.items.now in
    let at : AreAt all c.args.at row = subst (λ r. AreAt all c.args.at (row_texts (row_text r))) c.in-Feature.is c.requires.names in
    let next : c.args.next ≡ c.args.at + length row = subst (λ r. c.args.next ≡ c.args.at + length (row_texts (row_text r))) c.in-Feature.is c.requires.next in
    let count : c.args.next - c.args.at ≡ length row = omega (arith, next) in
    let run : c.in_ok-text-in-Feature.text ≡ row = c.in_ok-text-in-Feature.ensures ∙ ap (λ n. take n (drop c.args.at all)) count ∙ at.are in
    let some : 0 < length row = omega arith in
    rw run some
