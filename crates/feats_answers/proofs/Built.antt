-- The answer of spots that are built, and of those that are on and not built.
use Rattle.std.proofs.Common.{◌≡◌, ◌∙◌, ℕ, List, [], ◌∷◌, ◌++◌, Bool, Option, ap, refl, subst, flat_map, length, map, ◌==◌, vec_len, arith}
use Rattle.std.proofs.lemmas.Bool.Decides.{nat_tests}
use Rattle.std.specs.Global.{Vec}
use Rattle.cargo_plans.specs.built_parts.Built.{is_part_built, state_of}
use Rattle.cargo_plans.specs.declared.built_parts.state.PartState.{PartState}
use Rattle.cargo_plans.specs.declared.built_parts.state.PartState.TheVariants.{Built}
use Rattle.cargo_plans.specs.Plans.{WordsText}
use Rattle.cargo_plans.specs.plan_steps.Plans.{PlanText}
use Rattle.cargo_workspaces.specs.Workspaces.{Text, WorkspaceText}
use Rattle.feature_labels.specs.Names.{LabelName}
use Rattle.feats_words.specs.declared.command_arguments.Format.{Format}
use Rattle.plan_names.specs.Names.{NamedText}
use Rattle.plan_rows.specs.declared.side.Side.{Side}
use Rattle.plan_whys.specs.Steps.{SpotText}
use Rattle.feats_why.specs.Unbuilt.{UnbuiltText}
use Rattle.feats_answers.specs.AnswerTexts.{AnswerText}
use Rattle.feats_answers.specs.AnswerViews.{texts_of}
use Rattle.feats_answers.specs.BuiltSpots.{spots_in, unbuilt_text_of, with_script}
use Rattle.feats_answers.specs.Gathered.{AreShown}
use Rattle.feats_answers.specs.WhyTexts.{IsSpotShown, IsWhyAnswerOf, answer_of, gathered_why, is_none, spots_of_part, unless_empty}

abbrev unbuilt_at : SpotText → Option ℕ → UnbuiltText
unbuilt_at s lacking = record { spot = s; lacking = lacking }

-- scripts that are the same for each package
pub same_scripts : (f g : ℕ → Option ℕ) → ((q : ℕ) → f q ≡ g q) → (spots : List SpotText) → map (with_script f) spots ≡ map (with_script g) spots
same_scripts f g same [] = refl
same_scripts f g same (s ∷ ss) =
    ap (λ (lacking : Option ℕ). unbuilt_at s lacking ∷ map (with_script f) ss) (same s.number) ∙ ap (λ (us : List UnbuiltText). with_script g s ∷ us) (same_scripts f g same ss)

-- whether a list contains no text
none_of : (ts : List (Vec ℕ)) → (length ts == 0) ≡ is_none (texts_of ts)
none_of [] = refl
none_of (t ∷ ts) = grind (arith, nat_tests)

pub none_shown : (texts : Vec (Vec ℕ)) (b : Bool) → b ≡ (vec_len texts == 0) → b ≡ is_none (texts_of texts.items)
none_shown texts b is = is ∙ ap (λ (n : ℕ). n == 0) texts.ok.0 ∙ none_of texts.items

module _ (form : Format) (all : Bool) (w : WorkspaceText) (words : WordsText) (plan : PlanText) (word : Text) (parts : List NamedText) where
  abbrev answered : List Text → Bool → AnswerText
  answered texts is_negative = record { content = (gathered_why form w.packages word parts texts).content; is_negative = is_negative }

  -- the answer by the state of each spot
  pub why_answer : (answer : AnswerText) (shown texts : List Text) (lines : Text) (is_negative : Bool) (spots : List SpotText) (state : Side → ℕ → LabelName → PartState) (built : Side → ℕ → LabelName → Bool)
      → spots ≡ flat_map spots_of_part parts → state ≡ state_of words.selection.split plan → built ≡ is_part_built words.selection.split plan
      → AreShown (IsSpotShown form all w words plan) (spots_in state Built spots) shown → lines ≡ unbuilt_text_of form w.packages words state built spots
      → texts ≡ shown ++ unless_empty lines → is_negative ≡ is_none shown → answer ≡ answered texts is_negative → IsWhyAnswerOf form all w words plan word parts answer
  why_answer answer shown texts lines is_negative spots state built are_spots is_state is_built shows are_lines are_texts negates is =
      let every = flat_map spots_of_part parts in
      let split = words.selection.split in
      record {
        shown = shown;
        are_shown = subst (λ (f : Side → ℕ → LabelName → PartState). AreShown (IsSpotShown form all w words plan) (spots_in f Built every) shown) is_state
            (subst (λ (ss : List SpotText). AreShown (IsSpotShown form all w words plan) (spots_in state Built ss) shown) are_spots shows);
        is_answer = is ∙ ap (λ (ts : List Text). answered ts is_negative) are_texts ∙ ap (λ (b : Bool). answered (shown ++ unless_empty lines) b) negates
            ∙ ap (answer_of form w.packages word parts shown) (are_lines ∙ ap (unbuilt_text_of form w.packages words state built) are_spots
            ∙ ap (λ (f : Side → ℕ → LabelName → PartState). unbuilt_text_of form w.packages words f built every) is_state
            ∙ ap (λ (f : Side → ℕ → LabelName → Bool). unbuilt_text_of form w.packages words (state_of split plan) f every) is_built);
      }
