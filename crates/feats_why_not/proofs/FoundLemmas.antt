-- What is said of one widening, from the steps that were found in its plan, or from the reason why there is no plan.
use Rattle.std.proofs.Common.{◌≡◌, ◌∙◌, ap, sym, subst, refl, ℕ, Bool, true, false, ◌||◌, List, [], ◌∷◌, map, Option, None, Some}
use Rattle.std.specs.Prelude.{IsFalse, zip}
use Rattle.std.specs.Global.{Vec}
use Rattle.std.specs.List.{AllZip, list_any}
use Rattle.std.proofs.lemmas.Bool.{or_parts}
use Rattle.cargo_plans.specs.built_parts.Built.{state_of}
use Rattle.cargo_plans.specs.declared.built_parts.state.PartState.{PartState}
use Rattle.cargo_plans.specs.Plans.{IsPlanOf, WordsText, settings_by}
use Rattle.cargo_plans.specs.Refusals.{IsRefusal, is_memory}
use Rattle.cargo_plans.specs.declared.fault.PlanFault.{PlanFault}
use Rattle.cargo_plans.specs.plan_starts.PackageVisits.{is_on}
use Rattle.cargo_plans.specs.plan_steps.Plans.{PlanText}
use Rattle.cargo_workspaces.specs.Workspaces.{Text, WorkspaceText}
use Rattle.feats_words.specs.declared.command_arguments.Format.{Format}
use Rattle.feature_labels.specs.Names.{LabelName}
use Rattle.feats_files.specs.plan_messages.Messages.{plan_message}
use Rattle.plan_rows.specs.declared.side.Side.{Side}
use Rattle.plan_rows.specs.declared.side.Side.TheVariants.{Host, Target}
use Rattle.plan_whys.specs.StepViews.{found_text, spot_text}
use Rattle.plan_whys.specs.Steps.{SpotText, WhyText}
use Rattle.plan_whys.specs.Whys.{Answers, AnswersBy, AnswersEachBy}
use Rattle.plan_whys.specs.declared.steps.Spot.{Spot}
use Rattle.plan_whys.specs.declared.steps.WhyStep.{WhyStep}
use Rattle.plan_names.specs.declared.wider.widenings.widening.Widening.{Widening}
use Rattle.feats_why_not.specs.Answers.{AnswerText, IsAnswer, lacking_in, message_in, message_on, not_planned, off}
use Rattle.feats_why_not.specs.PartView.{part_text}
use Rattle.feats_why_not.specs.Parts.{PartText, spot_on}
use Rattle.feats_why_not.specs.Standings as standing
use Rattle.feats_why_not.specs.Standings.{StandingText, standing_in, standing_of}
use Rattle.feats_why_not.specs.Texts.{IsSection, section_text}
use Rattle.feats_why_not.specs.Unbuilt.{message_if}
use Rattle.feats_why_not.specs.declared.parts.OffPart.{OffPart}
use Rattle.feats_why_not.specs.declared.told.PartAnswer.{PartAnswer}
use Rattle.feats_why_not.specs.inner.Lists.{IsTold, ToldText, about_value, answer_by, answers_by, first_spot, has_part, message_about, message_by, same_sections, side_where, told_sections}
use Rattle.feats_why_not.proofs.StandingLemmas.{built_is_on, off_is_off}

true_or : (a b : Bool) → (a || b) ≡ false → (a ≡ false) × (b ≡ false)
true_or true b h = absurd (cc)
true_or false b h = (refl, h)

-- an answer by the message, and by what was found at the first spot
pub answered : (w : WorkspaceText) (words : WordsText) (plan : PlanText) (part : PartText) (found : Option (List WhyText)) → IsPlanOf w words plan
    → AnswersBy w words plan.on (first_spot (state_of words.selection.split plan) part) found → IsAnswer w words part (answer_by (message_in w words plan part, found))
answered w words plan part found is_plan answer = go (standing_of words.selection.split plan part) refl found answer
  where
    message : Side → Text
    message = message_on w words plan part

    go : (st : StandingText) → standing_of words.selection.split plan part ≡ st → (f : Option (List WhyText)) → AnswersBy w words plan.on (spot_on (side_where st) part) f → IsAnswer w words part (answer_by (message_if message st, f))
    go (standing.built_on side) is None a =
        let clash : true ≡ false = sym (built_is_on words.selection.split plan part side is) ∙ a.holds in
        absurd (cc)
    go (standing.built_on side) is (Some whys) a = record { side = side; plan = plan; is_plan = is_plan; is_built = is; is_why = a }
    go (standing.unbuilt_on side) is f a = record { side = side; plan = plan; is_plan = is_plan; is_unbuilt = is; is_message = refl }
    go standing.off is None a = record { plan = plan; is_plan = is_plan; is_off = off_is_off words.selection.split plan part is }
    go standing.off is (Some whys) a =
        let none = true_or (is_on plan.on Target part.number part.label) (is_on plan.on Host part.number part.label) (off_is_off words.selection.split plan part is) in
        let clash : true ≡ false = sym a.holds.is_on ∙ none.0 in
        absurd (cc)

-- the messages about what isn't built in the plan
module _ (w : WorkspaceText) (words : WordsText) (plan : PlanText) (states : Side → ℕ → LabelName → PartState) (lacking : ℕ → Option ℕ) (same : states ≡ state_of words.selection.split plan)
    (lacks : (q : ℕ) → lacking q ≡ lacking_in w words plan q) where
  message_is : (p : PartText) → message_about w.packages words.selection.split lacking states p ≡ message_in w words plan p
  message_is p =
      ap (λ (q : Option ℕ). message_by w.packages words.selection.split q p (standing_in states p)) (lacks p.number)
      ∙ ap (λ (s : Side → ℕ → LabelName → PartState). message_by w.packages words.selection.split (lacking_in w words plan p.number) p (standing_in s p)) same

  messages_in : (parts : List PartText) → map (message_about w.packages words.selection.split lacking states) parts ≡ map (message_in w words plan) parts
  messages_in [] = refl
  messages_in (p ∷ ps) = ap (λ m. m ∷ map (message_about w.packages words.selection.split lacking states) ps) (message_is p) ∙ ap (λ ms. message_in w words plan p ∷ ms) (messages_in ps)

  pub messages_are : (sides : Bool) (parts : List PartText) (messages : List (Option Text)) → sides ≡ words.selection.split → messages ≡ map (message_about w.packages sides lacking states) parts → messages ≡ map (message_in w words plan) parts
  messages_are sides parts messages split are = are ∙ ap (λ b. map (message_about w.packages b lacking states) parts) split ∙ messages_in parts

module _ (form : Format) (alone : Bool) (w : WorkspaceText) (here words : WordsText) (v : Widening) where
  -- the answers by the messages, and by what was found at the first spots
  each_found : (plan : PlanText) (parts : List PartText) (spots : List Spot) (founds : List (Option (Vec WhyStep))) → IsPlanOf w words plan → map spot_text spots ≡ map (first_spot (state_of words.selection.split plan)) parts
      → AllZip (λ at found. AnswersBy w words plan.on (spot_text at) (found_text found)) spots founds
      → AllZip (IsAnswer w words) parts (answers_by (map (message_in w words plan) parts) (map found_text founds))
  each_found plan [] [] [] is_plan same found = tt
  each_found plan [] [] (f ∷ fs) is_plan same found = absurd found
  each_found plan [] (s ∷ ss) founds is_plan same found = cc
  each_found plan (p ∷ ps) [] founds is_plan same found = cc
  each_found plan (p ∷ ps) (s ∷ ss) [] is_plan same found = absurd found
  each_found plan (p ∷ ps) (s ∷ ss) (f ∷ fs) is_plan same found =
      let at : spot_text s ≡ first_spot (state_of words.selection.split plan) p = cc in
      let more : map spot_text ss ≡ map (first_spot (state_of words.selection.split plan)) ps = cc in (
        answered w words plan p (found_text f) is_plan (subst (λ (spot : SpotText). AnswersBy w words plan.on spot (found_text f)) at found.0),
        each_found plan ps ss fs is_plan more found.1,
      )

  -- the sections by the answers, and by the words to type
  each_told : (parts : List PartText) (answers : List AnswerText) (tolds : List ToldText) → AllZip (IsAnswer w words) parts answers → AllZip (IsTold alone w here words) (zip parts answers) tolds
      → AllZip (IsSection form alone w here words v) parts (told_sections form w.packages words v tolds)
  each_told [] [] [] found told = tt
  each_told [] [] (t ∷ ts) found told = absurd told
  each_told [] (a ∷ rest) tolds found told = absurd found
  each_told (p ∷ ps) [] tolds found told = absurd found
  each_told (p ∷ ps) (a ∷ rest) [] found told = absurd told
  each_told (p ∷ ps) (a ∷ rest) (t ∷ ts) found told = (
    record {
      answer = a;
      is_answer = found.0;
      typed = t.1;
      is_typed = told.0.1;
      is_text = ap (λ (about : PartText × AnswerText). section_text form w.packages words v about.0 about.1 t.1) told.0.0;
    },
    each_told ps rest ts found.1 told.1,
  )

  told_by : (abouts : List PartAnswer) (tolds : List ToldText) → AllZip (λ about. IsTold alone w here words (about_value about)) abouts tolds → AllZip (IsTold alone w here words) (map about_value abouts) tolds
  told_by [] [] told = tt
  told_by [] (t ∷ ts) told = absurd told
  told_by (a ∷ rest) [] told = absurd told
  told_by (a ∷ rest) (t ∷ ts) told = (told.0, told_by rest ts told.1)

  by_each : (plan : PlanText) (spots : List Spot) (founds : List (Option (Vec WhyStep))) → AnswersEachBy w words plan.on spots founds → AllZip (λ at found. AnswersBy w words plan.on (spot_text at) (found_text found)) spots founds
  by_each plan spots founds answers = go spots founds answers.holds
    where
      go : (ss : List Spot) (fs : List (Option (Vec WhyStep))) → AllZip (λ at found. Answers w (settings_by words answers.chosen) plan.on (spot_text at) (found_text found)) ss fs
          → AllZip (λ at found. AnswersBy w words plan.on (spot_text at) (found_text found)) ss fs
      go [] [] zip = tt
      go [] (f ∷ fs) zip = absurd zip
      go (s ∷ ss) [] zip = absurd zip
      go (s ∷ ss) (f ∷ fs) zip = (record { chosen = answers.chosen; are_accepted = answers.are_accepted; holds = zip.0 }, go ss fs zip.1)

  pub explained_by : (plan : PlanText) (states : Side → ℕ → LabelName → PartState) (parts : List PartText) (messages : List (Option Text)) (spots taken : List Spot) (founds : List (Option (Vec WhyStep))) (answers : List AnswerText)
      → IsPlanOf w words plan → states ≡ state_of words.selection.split plan → messages ≡ map (message_in w words plan) parts → map spot_text spots ≡ map (first_spot states) parts
      → taken ≡ spots → AnswersEachBy w words plan.on taken founds → answers ≡ answers_by messages (map found_text founds) → AllZip (IsAnswer w words) parts answers
  explained_by plan states parts messages spots taken founds answers is_plan states_are are same is_taken found by =
      subst (AllZip (IsAnswer w words) parts) (sym (by ∙ ap (λ ms. answers_by ms (map found_text founds)) are))
      (each_found plan parts spots founds is_plan (same ∙ ap (λ (s : Side → ℕ → LabelName → PartState). map (first_spot s) parts) states_are)
      (by_each plan spots founds (subst (λ ss. AnswersEachBy w words plan.on ss founds) is_taken found)))

  pub told_sections_are : (parts : List PartText) (answers : List AnswerText) (abouts taken : List PartAnswer) (tolds : List ToldText) (sections : List Text)
      → AllZip (IsAnswer w words) parts answers → map about_value abouts ≡ zip parts answers → taken ≡ abouts → AllZip (λ about. IsTold alone w here words (about_value about)) taken tolds
      → sections ≡ told_sections form w.packages words v tolds → AllZip (IsSection form alone w here words v) parts sections
  told_sections_are parts answers abouts taken tolds sections found pairs is_taken told shown =
      subst (AllZip (IsSection form alone w here words v) parts) (sym shown)
      (each_told parts answers tolds found (subst (λ ps. AllZip (IsTold alone w here words) ps tolds) pairs (told_by abouts tolds (subst (λ ts. AllZip (λ about. IsTold alone w here words (about_value about)) ts tolds) is_taken told))))

  each_off : (plan : PlanText) (parts : List OffPart) → IsPlanOf w words plan → list_any (λ part. has_part plan.on (part_text part)) parts ≡ false
      → AllZip (IsSection form alone w here words v) (map part_text parts) (same_sections form w.packages words v off (map part_text parts))
  each_off plan [] is_plan none = tt
  each_off plan (p ∷ ps) is_plan none =
      let parts_off = or_parts _ _ none in (
        record {
          answer = off;
          is_answer = record { plan = plan; is_plan = is_plan; is_off = parts_off.0 };
          typed = None;
          is_typed = refl;
          is_text = refl;
        },
        each_off plan ps is_plan parts_off.1,
      )

  pub all_off : (plan : PlanText) (parts : List OffPart) (one_is : Bool) (sections : List Text) → IsPlanOf w words plan → one_is ≡ list_any (λ part. has_part plan.on (part_text part)) parts → one_is ≡ false
      → sections ≡ same_sections form w.packages words v off (map part_text parts) → AllZip (IsSection form alone w here words v) (map part_text parts) sections
  all_off plan parts one_is sections is_plan says none shown = subst (AllZip (IsSection form alone w here words v) (map part_text parts)) (sym shown) (each_off plan parts is_plan (sym says ∙ none))

  each_refused : (fault : PlanFault) (message : Text) (parts : List PartText) → IsRefusal w words fault → IsFalse (is_memory fault) → message ≡ plan_message w.packages fault
      → AllZip (IsSection form alone w here words v) parts (same_sections form w.packages words v (not_planned message) parts)
  each_refused fault message [] refusal claimed is = tt
  each_refused fault message (p ∷ ps) refusal claimed is = (
    record {
      answer = not_planned message;
      is_answer = record { fault = fault; is_fault = refusal; is_claimed = claimed; is_message = is };
      typed = None;
      is_typed = refl;
      is_text = refl;
    },
    each_refused fault message ps refusal claimed is,
  )

  pub unplanned : (fault : PlanFault) (parts : List PartText) (sections : List Text) → IsRefusal w words fault → IsFalse (is_memory fault)
      → sections ≡ same_sections form w.packages words v (not_planned (plan_message w.packages fault)) parts → AllZip (IsSection form alone w here words v) parts sections
  unplanned fault parts sections refusal claimed shown =
      subst (AllZip (IsSection form alone w here words v) parts) (sym shown) (each_refused fault (plan_message w.packages fault) parts refusal claimed refl)
