use Rattle.std.proofs.Common.{◌∙◌, sym}
use Rattle.feats_words.proofs.Decimals.{too_large}
use Rattle.feats_words.proofs.depths.number_of.Goals as goal

pub returns-in-Err : goal.returns-in-Err
returns-in-Err c = too_large c.args.word.now c.parse.result c.in-Err.field-0 (sym c.is_decimal.ensures ∙ c.if-not-is_decimal.false) c.parse.ensures.value.0 c.in-Err.is
