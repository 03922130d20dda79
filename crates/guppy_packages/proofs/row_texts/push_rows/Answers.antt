use Rattle.std.proofs.Common.{◌<◌, length, rules, subst, sym, take}
use Rattle.std.specs.String.{string_bytes}
use Rattle.guppy_packages.specs.inner.Pushed.{IsPushed}
use Rattle.guppy_packages.specs.inner.RowTexts.{row_texts, stored_texts}
use Rattle.guppy_packages.proofs.Lists.{drop_at}
use Rattle.guppy_packages.proofs.PartLemmas.{pushed_none}
use Rattle.guppy_packages.proofs.RowTextLemmas.{stored-next}
use Rattle.guppy_packages.proofs.row_texts.push_rows.Goals as goal

pub loop-ix-init : goal.loop-ix-init
loop-ix-init g c = rw (c.requires.text, c.requires.ends) pushed_none

pub loop-ix-preserved : goal.loop-ix-preserved
loop-ix-preserved g c =
    let all = g.S.RowSource.rows c.args.source.now in
    let i = c.loop-ix.ix in
    let at = drop_at all i _ c.row.ensures in
    let within : i < length all = search rules in
    subst (λ ts. IsPushed ts (string_bytes c.push_names.new.text) c.push_names.new.ends.items) (sym (stored-next row_texts all i _ at within)) (c.in_ok-push_names.ensures (stored_texts (take i all)) c.loop-ix.invariant)
