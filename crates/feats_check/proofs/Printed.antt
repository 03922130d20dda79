-- The texts of broken rules, one after the other.
use Rattle.std.proofs.Common.{◌≡◌, ◌∙◌, ℕ, ◌<◌, ◌+◌, Bool, ◌||◌, List, [], ◌∷◌, ◌++◌, sym, subst, ap, refl, map, take, length, get_or, append_assoc, append-nil}
use Rattle.std.specs.Prelude.{flat_map}
use Rattle.std.proofs.lemmas.Grind.{flat_map-append}
use Rattle.std.proofs.lemmas.List.{map-append, take_more}
use Rattle.cargo_workspaces.specs.Workspaces.{Text}
use Rattle.feats_policies.specs.Rules.{RuleText}
use Rattle.feats_check.specs.checking.Broken.{ArePrinted, BrokenText, IsRuleText, are_any, broken_by, broken_rules, unchecked_by, unchecked_rules}
use Rattle.feats_check.specs.checking.Questions.{PrintedText, QuestionText}
use Rattle.feats_check.specs.checking.Scenes.{ScenesText, judged}

-- one more item of a list
pub map_more : {X Y : Type 0} (f : X → Y) (items : List X) (i : ℕ) (d : X) → i < length items → map f (take i items) ++ f (get_or items i d) ∷ [] ≡ map f (take (i + 1) items)
map_more f items i d within = sym (map-append f (take i items) (get_or items i d ∷ [])) ∙ ap (map f) (sym (take_more items i d within))

module _ (asked : QuestionText) where
  pub both_printed : (xs ys : List BrokenText) (s t : Text) → ArePrinted asked xs s → ArePrinted asked ys t → ArePrinted asked (xs ++ ys) (s ++ t)
  both_printed [] ys s t none more = subst (λ z. ArePrinted asked ys (z ++ t)) (sym none) more
  both_printed (x ∷ xs) ys s t (here, rest, is_here, are, all) more =
      (here, rest ++ t, is_here, both_printed xs ys rest t are more, ap (λ z. z ++ t) all ∙ append_assoc here rest t)

any_of : {X : Type 0} (xs ys : List X) → are_any (xs ++ ys) ≡ (are_any xs || are_any ys)
any_of [] ys = refl
any_of (x ∷ xs) ys = refl

-- what is printed of these rules
pub record IsSo (asked : QuestionText) (s : ScenesText) (rules : List RuleText) (text : Text) (is_broken : Bool) : Type 0 where
  pub can_be_checked : unchecked_rules s rules ≡ []
  pub are_printed : ArePrinted asked (broken_rules s rules) text
  pub is_any : is_broken ≡ are_any (broken_rules s rules)

-- one more rule
next_so : (asked : QuestionText) (s : ScenesText) (rules : List RuleText) (r : RuleText) (text : Text) (is_broken : Bool) (one : PrintedText) → IsSo asked s rules text is_broken → IsRuleText asked (judged s r) one
    → IsSo asked s (rules ++ r ∷ []) (text ++ one.text) (is_broken || one.is_broken)
next_so asked s rules r text is_broken one so is =
    let unchecked = λ (x : RuleText). unchecked_by (judged s x) in
    let broken = λ (x : RuleText). broken_by (judged s x) in
    let all : broken_rules s (rules ++ r ∷ []) ≡ broken_rules s rules ++ broken r = flat_map-append broken rules (r ∷ []) ∙ ap (λ z. broken_rules s rules ++ z) (append-nil (broken r)) in
    record {
      can_be_checked = flat_map-append unchecked rules (r ∷ []) ∙ ap (λ z. z ++ flat_map unchecked (r ∷ [])) so.can_be_checked ∙ append-nil (unchecked r) ∙ is.can_be_checked;
      are_printed = subst (λ z. ArePrinted asked z (text ++ one.text)) (sym all) (both_printed asked (broken_rules s rules) (broken r) text one.text so.are_printed is.are_printed);
      is_any = ap (λ z. z || one.is_broken) so.is_any ∙ ap (λ z. are_any (broken_rules s rules) || z) is.is_broken ∙ sym (any_of (broken_rules s rules) (broken r)) ∙ ap are_any (sym all);
    }

pub so_more : {V : Type 0} (asked : QuestionText) (s : ScenesText) (view : V → RuleText) (items : List V) (i : ℕ) (d : V) (text new : Text) (is_broken now_broken : Bool) (one : PrintedText) → i < length items
    → IsSo asked s (map view (take i items)) text is_broken → IsRuleText asked (judged s (view (get_or items i d))) one → new ≡ text ++ one.text → now_broken ≡ (is_broken || one.is_broken)
    → IsSo asked s (map view (take (i + 1) items)) new now_broken
so_more asked s view items i d text new is_broken now_broken one within so is grown any =
    subst (λ z. IsSo asked s z new now_broken) (map_more view items i d within)
    (subst (λ z. IsSo asked s (map view (take i items) ++ view (get_or items i d) ∷ []) z now_broken) (sym grown)
    (subst (λ z. IsSo asked s (map view (take i items) ++ view (get_or items i d) ∷ []) (text ++ one.text) z) (sym any)
    (next_so asked s (map view (take i items)) (view (get_or items i d)) text is_broken one so is)))
