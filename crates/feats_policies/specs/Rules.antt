-- Rules, and what the words of a line spell.
use Rattle.std.specs.Prelude.{ℕ, List, [], ◌∷◌, Option, Some, None, Result, Ok, Err, codes, if◌then◌else◌}
use Rattle.std.specs.Str.{bytes_eq}
use Rattle.feats_policies.specs.Lines.{Text}
use Rattle.feats_policies.specs.declared.problem.Problem.{Problem}
use Rattle.feats_policies.specs.declared.problem.Problem.TheVariants.{ExtraWord, NoRule, NoTriple, NoWord}

-- What a rule demands: a feature is off, everywhere or on a platform; a feature is on; no two packages of a name are built.
pub data KindText : Type 0 where
  deny : Text → Option Text → KindText
  require : Text → KindText
  deny_duplicates : Text → KindText

-- A rule, with the number of its line, from 1.
pub record RuleText : Type 0 where
  pub line : ℕ
  pub kind : KindText
  pub reason : Option Text

-- The words after one that takes a word alone.
abbrev pub with_word : (Text → KindText) → List Text → Result KindText Problem
with_word kind [] = Err NoWord
with_word kind (word ∷ []) = Ok (kind word)
with_word kind (word ∷ more ∷ others) = Err ExtraWord

-- The words after `deny FEATURE on`.
abbrev pub denied_on : Text → List Text → Result KindText Problem
denied_on feature [] = Err NoTriple
denied_on feature (triple ∷ []) = Ok (deny feature (Some triple))
denied_on feature (triple ∷ more ∷ others) = Err ExtraWord

-- The words after `deny`.
abbrev pub denied : List Text → Result KindText Problem
denied [] = Err NoWord
denied (feature ∷ []) = Ok (deny feature None)
denied (feature ∷ word ∷ others) = if bytes_eq word (codes "on") then denied_on feature others else Err ExtraWord

-- The rule that begins with `verb`, and goes on with these words.
abbrev pub kind_of : Text → List Text → Result KindText Problem
kind_of verb words =
    if bytes_eq verb (codes "deny") then denied words
    else if bytes_eq verb (codes "require") then with_word require words
    else if bytes_eq verb (codes "deny-duplicates") then with_word deny_duplicates words
    else Err NoRule
