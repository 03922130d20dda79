use Rattle.std.proofs.Common.{IsUtf8, inl, refl, rules}
use Rattle.feats_files.specs.Files.{IsCfgRefusal, text_message}
use Rattle.feats_files.proofs.Says.{says_of}
use Rattle.feats_files.proofs.files.target.Goals as goal

pub returns-in_default-clause-fault : goal.returns-in_default-clause-fault
returns-in_default-clause-fault c =
    let not_text : IsUtf8 c.args.bytes.now → ⊥ = search rules in
    says_of c.refused.result (text_message c.args.triple.now) (IsCfgRefusal c.args.triple.now c.args.bytes.now) c.refused.ensures (inl (not_text, refl))
