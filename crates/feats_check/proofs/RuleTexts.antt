-- The texts of broken rules, from what explains their spots.
use Rattle.std.proofs.Common.{◌≡◌, ◌∙◌, ℕ, ◌+◌, ◌<◌, List, [], ◌∷◌, ◌++◌, true, Option, Some, None, refl, subst, sym, ap, add-one, append_assoc, arith, drop, drop-cons, get_or, length, map, take}
use Rattle.std.specs.Prelude.{flat_map, nat_eq}
use Rattle.std.specs.List.{AllZip, drop-map, take-map}
use Rattle.std.proofs.lemmas.Bool.{eqb-true}
use Rattle.std.proofs.lemmas.List.{length-map}
use Rattle.cargo_plans.specs.Plans.{WordsText}
use Rattle.cargo_workspaces.specs.Workspaces.{PackageText, Text}
use Rattle.plan_whys.specs.StepViews.{spot_text}
use Rattle.plan_whys.specs.Steps.{SpotText, WhyText}
use Rattle.plan_whys.specs.Whys.{AnswersBy}
use Rattle.feats_why.specs.Lines.{why_lines}
use Rattle.feats_why.specs.Settings.{SettingsText, settings_of}
use Rattle.feats_policies.specs.Rules.{RuleText}
use Rattle.feats_policies.specs.Views.{rule_text as rule_view}
use Rattle.feats_policies.specs.checks.Checks.{VerdictText}
use Rattle.feats_policies.specs.checks.Views.{verdict_text}
use Rattle.feats_policies.specs.declared.checks.judged.Judged.{Judged}
use Rattle.feats_policies.specs.declared.checks.verdict.Verdict.{Verdict}
use Rattle.feats_words.specs.declared.command_arguments.Format.TheVariants as format
use Rattle.feats_check.specs.checking.Broken.{AreFound, ArePrinted, broken_in}
use Rattle.feats_check.specs.checking.Questions.{QuestionText}
use Rattle.feats_check.specs.checking.Scenes.{SceneText}
use Rattle.feats_check.specs.checking.Whys.{after_gap, found_lines, rule_text, text_by, whys_lines}
use Rattle.feats_check.specs.checking.inner.RuleTexts.{gapped, steps_or_none, texts_by}
use Rattle.feats_check.specs.texts.Lines.{verdict_lines}

-- the parts of a list that belong to two others
zip_parts : {X Y : Type 0} (R : X → Y → Type 0) (xs ys : List X) (zs : List Y) → AllZip R (xs ++ ys) zs → AllZip R xs (take (length xs) zs) × AllZip R ys (drop (length xs) zs)
zip_parts R [] ys zs h = (tt, h)
zip_parts R (x ∷ xs) ys [] h = absurd h
zip_parts R (x ∷ xs) ys (z ∷ zs) h = let more = zip_parts R xs ys zs h.1 in ((h.0, more.0), more.1)

-- the texts of all, where their spots are explained
texts_printed : (asked : QuestionText) (s : SceneText) (vs : List VerdictText) (founds : List (Option (List WhyText))) → AreFound s (flat_map (λ v. v.spots) vs) founds
    → ArePrinted asked (map (broken_in s) vs) (texts_by (rule_text asked s.build.judged s.workspace.packages s.words) vs founds)
texts_printed asked s [] founds h = refl
texts_printed asked s (v ∷ vs) founds h =
    let own = take (length v.spots) founds in
    let others = drop (length v.spots) founds in
    let text = rule_text asked s.build.judged s.workspace.packages s.words in
    let parts = zip_parts (AnswersBy s.workspace s.words s.build.plan.on) v.spots (flat_map (λ (w : VerdictText). w.spots) vs) founds h in
    (text v.rule own, texts_by text vs others, record { founds = own; are_found = parts.0; is_text = refl }, texts_printed asked s vs others parts.1, refl)

-- the same of a text that is these
pub printed_from : (asked : QuestionText) (s : SceneText) (vs : List VerdictText) (spots : List SpotText) (founds : List (Option (List WhyText))) (text : Text) → spots ≡ flat_map (λ v. v.spots) vs → AreFound s spots founds
    → text ≡ texts_by (rule_text asked s.build.judged s.workspace.packages s.words) vs founds → ArePrinted asked (map (broken_in s) vs) text
printed_from asked s vs spots founds text are found is =
    subst (λ t. ArePrinted asked (map (broken_in s) vs) t) (sym is) (texts_printed asked s vs founds (subst (λ ss. AreFound s ss founds) are found))

-- one more rule
pub texts_more : {X Y : Type 0} (text : RuleText → List Y → Text) (view : X → Y) (verdicts : List Verdict) (i : ℕ) (x : Verdict) (n : ℕ) (left own rest : List X) (whole old new : Text)
    → i < length verdicts → x ≡ get_or verdicts i x → n ≡ length x.spots.items → own ≡ take n left → rest ≡ drop n left
    → whole ≡ old ++ texts_by text (map verdict_text (drop i verdicts)) (map view left) → new ≡ old ++ text (rule_view x.rule) (map view own)
    → whole ≡ new ++ texts_by text (map verdict_text (drop (i + 1) verdicts)) (map view rest)
texts_more text view verdicts i x n left own rest whole old new within is many is_own is_rest so grown =
    let at : drop i verdicts ≡ x ∷ drop (i + 1) verdicts = (rw (add-one, drop-cons verdicts i x within) refl) ∙ ap (λ (y : Verdict). y ∷ drop (i + 1) verdicts) (sym is) in
    let later = map verdict_text (drop (i + 1) verdicts) in
    let k = length (map spot_text x.spots.items) in
    let count : k ≡ n = length-map x.spots.items spot_text ∙ sym many in
    let front : take k (map view left) ≡ map view own = ap (λ j. take j (map view left)) count ∙ take-map view n left ∙ ap (map view) (sym is_own) in
    let back : drop k (map view left) ≡ map view rest = ap (λ j. drop j (map view left)) count ∙ drop-map view n left ∙ ap (map view) (sym is_rest) in
    so ∙ ap (λ (vs : List Verdict). old ++ texts_by text (map verdict_text vs) (map view left)) at
    ∙ ap (λ z. old ++ (text (rule_view x.rule) z ++ texts_by text later (drop k (map view left)))) front
    ∙ ap (λ z. old ++ (text (rule_view x.rule) (map view own) ++ texts_by text later z)) back
    ∙ sym (append_assoc old (text (rule_view x.rule) (map view own)) (texts_by text later (map view rest)))
    ∙ ap (λ z. z ++ texts_by text later (map view rest)) (sym grown)

-- the same texts, from other items
texts_mapped : {X Y : Type 0} (text : RuleText → List Y → Text) (other : RuleText → List X → Text) (f : X → Y) → ((r : RuleText) (xs : List X) → text r (map f xs) ≡ other r xs) → (vs : List VerdictText) (items : List X)
    → texts_by text vs (map f items) ≡ texts_by other vs items
texts_mapped text other f h [] items = refl
texts_mapped text other f h (v ∷ vs) items =
    let n = length v.spots in
    ap (λ z. text v.rule z ++ texts_by text vs (drop n (map f items))) (take-map f n items)
    ∙ ap (λ z. text v.rule (map f (take n items)) ++ texts_by text vs z) (drop-map f n items)
    ∙ ap (λ z. z ++ texts_by text vs (map f (drop n items))) (h v.rule (take n items))
    ∙ ap (λ z. other v.rule (take n items) ++ z) (texts_mapped text other f h vs (drop n items))

module _ (packages : List PackageText) (words : WordsText) where
  others_lines : (fs : List (Option (List WhyText))) → flat_map (λ t. 10 ∷ t) (map (found_lines packages words) fs) ≡ flat_map (after_gap packages words) fs
  others_lines [] = refl
  others_lines (f ∷ fs) = ap (λ z. (10 ∷ found_lines packages words f) ++ z) (others_lines fs)

  gapped_lines : (fs : List (Option (List WhyText))) → gapped (map (found_lines packages words) fs) ≡ whys_lines packages words fs
  gapped_lines [] = refl
  gapped_lines (f ∷ fs) = ap (λ z. found_lines packages words f ++ z) (others_lines fs)

  found_one : (f : Option (List WhyText)) → why_lines packages (settings_of words) (steps_or_none f) ≡ found_lines packages words f
  found_one None = refl
  found_one (Some steps) = refl

  -- the lines of what was found of each spot
  found_each : (fs : List (Option (List WhyText))) → map (why_lines packages (settings_of words)) (map steps_or_none fs) ≡ map (found_lines packages words) fs
  found_each [] = refl
  found_each (f ∷ fs) = ap (λ z. z ∷ map (why_lines packages (settings_of words)) (map steps_or_none fs)) (found_one f) ∙ ap (λ z. found_lines packages words f ∷ z) (found_each fs)

  -- the same, by equal settings and lists
  pub founds_lined : (s : SettingsText) (fs : List (Option (List WhyText))) (lists : List (List WhyText)) (lines : List Text) → s ≡ settings_of words → lists ≡ map steps_or_none fs
      → lines ≡ map (why_lines packages s) lists → lines ≡ map (found_lines packages words) fs
  founds_lined s fs lists lines same are lined =
      lined ∙ ap (λ z. map (why_lines packages z) lists) same ∙ ap (map (why_lines packages (settings_of words))) are ∙ found_each fs

  -- the lines of all rules
  pub lines_texts : (file : Text) (judged : Judged) (vs : List VerdictText) (fs : List (Option (List WhyText))) (lines : List Text) → lines ≡ map (found_lines packages words) fs
      → texts_by (λ r own. verdict_lines file judged r (gapped own)) vs lines ≡ texts_by (text_by format.Text file judged packages words) vs fs
  lines_texts file judged vs fs lines is =
      ap (texts_by (λ r own. verdict_lines file judged r (gapped own)) vs) is
      ∙ texts_mapped (λ r own. verdict_lines file judged r (gapped own)) (text_by format.Text file judged packages words) (found_lines packages words)
      (λ r xs. ap (verdict_lines file judged r) (gapped_lines xs)) vs fs

-- Appending a text to an empty text returns the same text.
pub onto_none : (old new more : Text) → old ≡ [] → new ≡ old ++ more → new ≡ more
onto_none old new more none grown = grown ∙ ap (λ z. z ++ more) none

-- no rule is broken
pub none_printed : {X : Type 0} (asked : QuestionText) (s : SceneText) (view : X → VerdictText) (xs : List X) (text : Text) → nat_eq (length xs) 0 ≡ true → text ≡ [] → ArePrinted asked (map (broken_in s) (map view xs)) text
none_printed asked s view [] text h none = none
none_printed asked s view (x ∷ xs) text h none = absurd (omega (arith, eqb-true (length (x ∷ xs)) 0 h))
