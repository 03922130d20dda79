-- The verdicts on rules that are judged in one scene.
use Rattle.std.proofs.Common.{◌≡◌, ◌∙◌, Bool, true, false, not, List, [], ◌∷◌, ◌++◌, sym, subst, ap, arith, refl, length, map, append-nil}
use Rattle.std.specs.Prelude.{flat_map, nat_eq}
use Rattle.std.proofs.lemmas.Bool.{eqb-true}
use Rattle.std.proofs.lemmas.List.{map-append}
use Rattle.cargo_workspaces.specs.Workspaces.{Text}
use Rattle.feats_policies.specs.Rules.{RuleText}
use Rattle.feats_policies.specs.checks.Checks.{AreVerdicts, VerdictText, refusal_of, refusals, verdict_on}
use Rattle.feats_check.specs.checking.Broken.{ArePrinted, IsRuleText, are_any, broken_by, broken_in, broken_rules, unchecked_by, unchecked_in, unchecked_rules}
use Rattle.feats_check.specs.checking.Questions.{PrintedText, QuestionText}
use Rattle.feats_check.specs.checking.Scenes.{SceneText, judged_in}
use Rattle.feats_check.specs.checking.inner.Rules.{AreRulesPrinted, alone}

any_map : {X Y : Type 0} (f : X → Y) (xs : List X) → are_any (map f xs) ≡ are_any xs
any_map f [] = refl
any_map f (x ∷ xs) = refl

-- whether there are any, by how many there are
any_shown : {X Y : Type 0} (view : X → Y) (xs : List X) (none : Bool) → none ≡ nat_eq (length xs) 0 → not none ≡ are_any (map view xs)
any_shown view [] none h = ap not h
any_shown view (x ∷ xs) true h = absurd (omega (arith, eqb-true (length (x ∷ xs)) 0 (sym h)))
any_shown view (x ∷ xs) false h = refl

flat_mapped : {X Y Z : Type 0} (f : Y → Z) (g : X → List Y) (xs : List X) → flat_map (λ x. map f (g x)) xs ≡ map f (flat_map g xs)
flat_mapped f g [] = refl
flat_mapped f g (x ∷ xs) = ap (λ z. map f (g x) ++ z) (flat_mapped f g xs) ∙ sym (map-append f (g x) (flat_map g xs))

-- those that can't be checked
pub unchecked_alone : (s : SceneText) (rules : List RuleText) → unchecked_rules (alone s) rules ≡ map (unchecked_in s.build) (refusals s.build rules)
unchecked_alone s rules = flat_mapped (unchecked_in s.build) (refusal_of s.build) rules

rules_printed : (asked : QuestionText) (s : SceneText) (rules : List RuleText) (verdicts : List VerdictText) (text : Text) (is_broken : Bool) → AreVerdicts s.build rules verdicts
    → ArePrinted asked (map (broken_in s) verdicts) text → is_broken ≡ are_any verdicts → AreRulesPrinted asked (alone s) rules (record { text = text; is_broken = is_broken })
rules_printed asked s rules verdicts text is_broken are printed any =
    let same : broken_rules (alone s) rules ≡ map (broken_in s) verdicts = flat_mapped (broken_in s) (verdict_on s.build) rules ∙ ap (map (broken_in s)) (sym are.are_broken) in
    record {
      can_be_checked = unchecked_alone s rules ∙ ap (map (unchecked_in s.build)) are.can_be_checked;
      are_printed = subst (λ bs. ArePrinted asked bs text) (sym same) printed;
      is_broken = any ∙ sym (any_map (broken_in s) verdicts) ∙ ap are_any (sym same);
    }

-- the same, read through a reference
pub all_printed : {X : Type 0} (view : X → VerdictText) (asked : QuestionText) (s : SceneText) (rules : List RuleText) (items lent : List X) (text : Text) (none : Bool) → AreVerdicts s.build rules (map view items) → lent ≡ items
    → ArePrinted asked (map (broken_in s) (map view lent)) text → none ≡ nat_eq (length items) 0 → AreRulesPrinted asked (alone s) rules (record { text = text; is_broken = not none })
all_printed view asked s rules items lent text none are same printed empty =
    rules_printed asked s rules (map view items) text (not none) are (subst (λ vs. ArePrinted asked (map (broken_in s) (map view vs)) text) same printed) (any_shown view items none empty)

-- the text of one
pub rule_printed : (asked : QuestionText) (s : SceneText) (r : RuleText) (rules : List RuleText) (printed : PrintedText) → rules ≡ r ∷ [] → AreRulesPrinted asked (alone s) rules printed → IsRuleText asked (judged_in s r) printed
rule_printed asked s r rules printed is are =
    let one : AreRulesPrinted asked (alone s) (r ∷ []) printed = subst (λ rs. AreRulesPrinted asked (alone s) rs printed) is are in
    record {
      can_be_checked = sym (append-nil (unchecked_by (judged_in s r))) ∙ one.can_be_checked;
      are_printed = subst (λ bs. ArePrinted asked bs printed.text) (append-nil (broken_by (judged_in s r))) one.are_printed;
      is_broken = one.is_broken ∙ ap are_any (append-nil (broken_by (judged_in s r)));
    }
