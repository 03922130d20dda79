-- The finding about a word, by its meaning.
use Rattle.std.proofs.Common.{◌≡◌, List, ap, sym, ◌∙◌, map}
use Rattle.std.specs.Borrow.{Bor}
use Rattle.std.specs.Global.{Vec}
use Rattle.cargo_workspaces.specs.Workspaces.{Text}
use Rattle.plan_names.specs.Names.{NamedText}
use Rattle.plan_names.specs.Views.{named_text}
use Rattle.plan_names.specs.declared.named.Named.{Named}
use Rattle.feats_policies.specs.checks.Found.{FoundText, ambiguous, of_meaning}
use Rattle.feats_policies.specs.checks.Meanings.{MeaningText}
use Rattle.feats_policies.specs.declared.checks.meaning.Meaning.{Meaning}
use Rattle.feats_policies.specs.declared.checks.meaning.Meaning.TheVariants.{Parts, Several}
use Rattle.feats_policies.specs.checks.inner.Returned.{meaning_text}

pub of_these : (f : List NamedText → FoundText) (m : Meaning) (given : MeaningText) (parts : Vec Named) → meaning_text m ≡ given → m ≡ Parts parts → f (map named_text parts.items) ≡ of_meaning f given
of_these f m given parts e is = ap (of_meaning f) (sym (ap meaning_text is) ∙ e)

pub of_several : (f : List NamedText → FoundText) (m : Meaning) (given : MeaningText) (word : Bor Text) (candidates : Vec Named) → meaning_text m ≡ given → m ≡ Several word candidates
    → ambiguous word.now (map named_text candidates.items) ≡ of_meaning f given
of_several f m given word candidates e is = ap (of_meaning f) (sym (ap meaning_text is) ∙ e)
