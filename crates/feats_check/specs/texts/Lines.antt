-- The lines about a broken rule.
use Rattle.std.specs.Prelude.{ℕ, [], ◌∷◌, ◌++◌, Bool, true, not, Option, Some, None, codes, ◌==◌, ◌&&◌, if◌then◌else◌}
use Rattle.std.specs.Fmt.{decimal}
use Rattle.feats_policies.specs.Lines.{Text}
use Rattle.feats_policies.specs.Rules.{KindText, RuleText, deny, deny_duplicates, require}
use Rattle.shown_texts.specs.Shown.{escaped}
use Rattle.feats_policies.specs.declared.checks.judged.Judged.{Judged}
use Rattle.feats_policies.specs.declared.checks.judged.Judged.TheVariants.{ForEveryChoice, InBuild, WithAll}

-- The end of a rule for one platform.
abbrev pub platform_end : Option Text → Text
platform_end None = []
platform_end (Some triple) = codes " on " ++ triple

-- A rule in its own words.
abbrev pub kind_words : KindText → Text
kind_words (deny word on) = codes "deny " ++ (word ++ platform_end on)
kind_words (require word) = codes "require " ++ word
kind_words (deny_duplicates word) = codes "deny-duplicates " ++ word

-- What breaks a deny, where it is judged.
abbrev pub denied_breach : Judged → Text
denied_breach InBuild = codes ": it is on"
denied_breach WithAll = codes ": it is on with all members, features and tests"
denied_breach ForEveryChoice = codes ": some choice may break it"

-- What breaks a rule.
abbrev pub breach : Judged → KindText → Text
breach judged (deny word on) = denied_breach judged
breach judged (require word) = codes ": it is off"
breach judged (deny_duplicates word) = codes ": several are built"

-- The reason, in brackets.
abbrev pub reason_end : Option Text → Text
reason_end None = []
reason_end (Some reason) = codes " (" ++ (reason ++ codes ")")

-- The place of a line in a file. Control characters in the name of the file are escaped.
abbrev pub place : Text → ℕ → Text
place file line = escaped file ++ (codes ":" ++ (decimal line ++ codes ": "))

-- The first line: the place of the rule, the rule, what breaks it, and the reason.
abbrev pub first_line : Text → Judged → RuleText → Text
first_line file judged r = place file r.line ++ (kind_words r.kind ++ (breach judged r.kind ++ (reason_end r.reason ++ 10 ∷ [])))

abbrev pub is_line_feed : ℕ → Bool
is_line_feed c = c == 10

-- A text with four spaces before each of its lines that isn't empty. `starts` is whether it begins at the start of a line.
abbrev pub indented_from : Bool → Text → Text
indented_from starts [] = []
indented_from starts (c ∷ cs) = (if starts && not (is_line_feed c) then codes "    " else []) ++ c ∷ indented_from (is_line_feed c) cs

abbrev pub indented : Text → Text
indented text = indented_from true text

-- THE LINES about a broken rule of this file: the first line, and the lines that explain what is on.
abbrev pub verdict_lines : Text → Judged → RuleText → Text → Text
verdict_lines file judged r whys = first_line file judged r ++ indented whys
