-- The messages about rules that can't be checked.
use Rattle.std.proofs.Common.{◌≡◌, ◌∙◌, ℕ, ◌<◌, List, [], ◌∷◌, ◌++◌, ap, append-nil, map, sym, take, drop, length, get_or, suc, Some}
use Rattle.std.specs.Prelude.{flat_map, slice_get, string_bytes}
use Rattle.std.proofs.Math.Seq.{split_at}
use Rattle.std.proofs.lemmas.Grind.{flat_map-append}
use Rattle.std.proofs.lemmas.List.{map-append}
use Rattle.cargo_workspaces.specs.Workspaces.{Text}
use Rattle.feats_files.specs.Messages.{Says}
use Rattle.feats_files.specs.declared.fault.Fault.{Fault}
use Rattle.feats_files.specs.declared.fault.Fault.TheVariants as fault
use Rattle.feats_policies.specs.Rules.{RuleText}
use Rattle.feats_policies.specs.checks.Checks.{IsFirstRefusal, RefusalText, no_platform_in, out_of_memory, refusals, several_in}
use Rattle.feats_check.specs.texts.Messages.{IsCheckMessage}
use Rattle.feats_check.specs.checking.Broken.{IsFirstMessage, IsRuleRefusal, unchecked_by, unchecked_in, unchecked_rules}
use Rattle.feats_check.specs.checking.Questions.{QuestionText}
use Rattle.feats_check.specs.checking.Scenes.{SceneText, ScenesText, judged, judged_in}
use Rattle.feats_check.specs.checking.inner.Rules.{IsFirstUnchecked, alone}
use Rattle.feats_check.proofs.Verdicts.{unchecked_alone}

pub says_more : (f : Fault) (P Q : Text → Type 0) → ((m : Text) → P m → Q m) → Says f P → Says f Q
says_more (fault.Refused message) P Q more p = more (string_bytes message) p
says_more (fault.Listed message) P Q more p = more (string_bytes message) p
says_more fault.Memory P Q more p = tt
says_more fault.CannotWrite P Q more p = absurd p

-- the first of the values
first_of : {X Y : Type 0} (f : X → Y) (xs : List X) (e : X) → slice_get xs 0 ≡ Some e → slice_get (map f xs) 0 ≡ Some (f e)
first_of f [] e is = cc
first_of f (x ∷ xs) e is = ap (λ z. Some (f z)) (search is)

first_before : {X : Type 0} (xs ys : List X) (e : X) → slice_get xs 0 ≡ Some e → slice_get (xs ++ ys) 0 ≡ Some e
first_before [] ys e is = cc
first_before (x ∷ xs) ys e is = is

-- the message about the first of the rules that are judged in one scene
module _ (asked : QuestionText) (s : SceneText) (rules : List RuleText) (f : Fault) where
  claimed : (refusal : RefusalText) → slice_get (refusals s.build rules) 0 ≡ Some refusal → Says f (IsCheckMessage s.build asked.file refusal) → Says f (IsFirstUnchecked asked (alone s) rules)
  claimed refusal is h = says_more f (IsCheckMessage s.build asked.file refusal) (IsFirstUnchecked asked (alone s) rules) (λ m says.
      record {
        first = unchecked_in s.build refusal;
        is_first = ap (λ z. slice_get z 0) (unchecked_alone s rules) ∙ first_of (unchecked_in s.build) (refusals s.build rules) refusal is;
        is_message = says;
      }) h

  pub first_refused : (refusal : RefusalText) → IsFirstRefusal (refusals s.build rules) refusal → Says f (IsCheckMessage s.build asked.file refusal) → Says f (IsFirstUnchecked asked (alone s) rules)
  first_refused (several_in line word candidates) is h = claimed (several_in line word candidates) is h
  first_refused (no_platform_in line triple) is h = claimed (no_platform_in line triple) is h
  first_refused out_of_memory is h = says_more f (IsCheckMessage s.build asked.file out_of_memory) (IsFirstUnchecked asked (alone s) rules) (λ m says. absurd says) h

-- the message about one rule
pub rule_refused : (asked : QuestionText) (s : SceneText) (r : RuleText) (rules : List RuleText) (f : Fault) → rules ≡ r ∷ [] → Says f (IsFirstUnchecked asked (alone s) rules) → Says f (IsRuleRefusal asked (judged_in s r))
rule_refused asked s r rules f is h = says_more f (IsFirstUnchecked asked (alone s) rules) (IsRuleRefusal asked (judged_in s r)) (λ m says. record {
  first = says.first;
  is_first = ap (λ z. slice_get z 0) (sym (ap (unchecked_rules (alone s)) is ∙ append-nil (unchecked_by (judged_in s r)))) ∙ says.is_first;
  is_message = says.is_message;
}) h

-- the message about the first of the rules
pub rules_refused : {V : Type 0} (asked : QuestionText) (s : ScenesText) (view : V → RuleText) (items : List V) (i : ℕ) (d : V) (f : Fault) → i < length items → unchecked_rules s (map view (take i items)) ≡ []
    → Says f (IsRuleRefusal asked (judged s (view (get_or items i d)))) → Says f (IsFirstMessage asked (unchecked_rules s (map view items)))
rules_refused asked s view items i d f within none h =
    let unchecked = λ (x : RuleText). unchecked_by (judged s x) in
    let r = view (get_or items i d) in
    let after = map view (drop (suc i) items) in
    let whole : unchecked_rules s (map view items) ≡ unchecked r ++ flat_map unchecked after =
    ap (λ z. flat_map unchecked (map view z)) (split_at items i d within) ∙ ap (flat_map unchecked) (map-append view (take i items) (get_or items i d ∷ drop (suc i) items))
    ∙ flat_map-append unchecked (map view (take i items)) (r ∷ after) ∙ ap (λ z. z ++ flat_map unchecked (r ∷ after)) none in
    says_more f (IsRuleRefusal asked (judged s r)) (IsFirstMessage asked (unchecked_rules s (map view items))) (λ m says.
    record { first = says.first; is_first = ap (λ z. slice_get z 0) whole ∙ first_before (unchecked r) (flat_map unchecked after) says.first says.is_first; is_message = says.is_message }) h
