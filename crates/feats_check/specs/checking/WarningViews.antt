-- The values that Rust's types contain.
use Rattle.std.specs.Prelude.{List, String, map, string_bytes}
use Rattle.std.specs.Global.{Global}
use Rattle.cargo_workspaces.specs.Workspaces.{Text}
use Rattle.feats_policies.specs.Views.{rule_text}
use Rattle.feats_check.specs.checking.Warnings.{PolicyWordsText}
use Rattle.feats_check.specs.declared.checking.warnings.PolicyWords.{PolicyWords}

abbrev pub policy_words : PolicyWords → PolicyWordsText
policy_words p = record { file = p.file.now; every_choice = p.every_choice; strict = p.strict; rules = map rule_text p.rules.now }

abbrev pub string_texts : List (String Global) → List Text
string_texts = map string_bytes
