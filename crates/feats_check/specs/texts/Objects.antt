-- The JSON objects of broken rules.
use Rattle.std.specs.Prelude.{List, ◌∷◌, ◌++◌, Option, None, codes}
use Rattle.json.specs.Token.{Token, begin_object}
use Rattle.feats_lines.specs.parts.Members.{number_member, object_line, optional_member, text_member}
use Rattle.feats_policies.specs.Lines.{Text}
use Rattle.feats_policies.specs.Rules.{KindText, RuleText, deny, deny_duplicates, require}
use Rattle.feats_policies.specs.declared.checks.judged.Judged.{Judged}
use Rattle.feats_policies.specs.declared.checks.judged.Judged.TheVariants.{ForEveryChoice, InBuild, WithAll}

-- The members of what a rule demands: its first word, the word that it is about, and its platform or null.
abbrev pub kind_members : Text → Text → Option Text → List Token
kind_members verb word on = text_member (codes "rule") verb ++ (text_member (codes "word") word ++ optional_member (codes "platform") on)

abbrev pub members_of : KindText → List Token
members_of (deny word on) = kind_members (codes "deny") word on
members_of (require word) = kind_members (codes "require") word None
members_of (deny_duplicates word) = kind_members (codes "deny-duplicates") word None

-- Where a rule is judged, in a word.
abbrev pub judged_word : Judged → Text
judged_word InBuild = codes "build"
judged_word WithAll = codes "all"
judged_word ForEveryChoice = codes "every-choice"

-- The members of a rule, with the number of its line, its reason or null, and where it is judged.
abbrev pub rule_members : Judged → RuleText → List Token
rule_members judged r =
    number_member (codes "line") r.line ++ (members_of r.kind ++ (optional_member (codes "reason") r.reason ++ text_member (codes "judged") (judged_word judged)))

-- The line of a rule.
abbrev pub rule_line : Judged → RuleText → Text
rule_line judged r = object_line (begin_object ∷ rule_members judged r)
