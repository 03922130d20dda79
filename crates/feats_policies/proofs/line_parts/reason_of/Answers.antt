use Rattle.std.proofs.Common.{◌≡◌, ◌∙◌, ◌<◌, List, ℕ, length, get_or, ap, sym, arith}
use Rattle.std.proofs.lemmas.Str.{IsCharBoundary-after_ascii}
use Rattle.feats_policies.proofs.line_parts.reason_of.Goals as goal

pub range_from-requires : goal.range_from-requires
range_from-requires c =
    let line = c.args.line.now in
    let at = c.reason_at-at.result in
    let within : at < length c.as_bytes.result.now = omega (arith, c.if-at-line.true, ap (λ (t : List ℕ). length t) c.as_bytes.ensures.value) in
    let mark : get_or line at 0 ≡ 35 = ap (λ (t : List ℕ). get_or t at 0) (sym c.as_bytes.ensures.value) ∙ c.reason_at-at.ensures.mark within in
    λ _. IsCharBoundary-after_ascii line at c.utf8.line c.if-at-line.true (omega (arith, mark))
