use Rattle.std.proofs.Common.{◌≡◌, ◌∙◌, ap, ap₂, refl, sym, Option, None, Some, List}
use Rattle.std.proofs.lemmas.Result.{IfOk-weaker}
use Rattle.std.specs.Prelude.{option_map, option_and_then}
use Rattle.clap.specs.Words.{Row, Text, found_of, rows_of, subcommand_rows_of}
use Rattle.feats_words.specs.Requests.{request_of}
use Rattle.feats_words.proofs.request.request_in.Goals as goal

-- a pair by its parts
some_pair : (o : Option (Text × List Row)) (name : Text) (rows : List Row) → option_map (λ (p : Text × List Row). p.0) o ≡ Some name → option_map (λ (p : Text × List Row). p.1) o ≡ Some rows → o ≡ Some (name, rows)
some_pair None name rows h k = cc
some_pair (Some p) name rows h k =
    let n : p.0 ≡ name = cc in
    let r : p.1 ≡ rows = cc in
    ap Some (ap₂ (λ a b. (a, b)) n r)

no_pair : (o : Option (Text × List Row)) → option_map (λ (p : Text × List Row). p.0) o ≡ None → o ≡ None
no_pair None h = refl
no_pair (Some p) h = cc

name_of_rows : {A : Type 0} (f : A → Text) (g : A → List Row) (o : Option A) → option_map f o ≡ option_map (λ (p : Text × List Row). p.0) (option_map (λ b. (f b, g b)) o)
name_of_rows f g None = refl
name_of_rows f g (Some b) = refl

pub returns-in-None : goal.returns-in-None
returns-in-None c =
    let none : subcommand_rows_of c.args.matches.now ≡ None = no_pair (subcommand_rows_of c.args.matches.now) (sym (name_of_rows _ _ _) ∙ sym c.in-None.ensures.name) in
    sym (ap (option_and_then request_of) none)

pub returns-in-Some : goal.returns-in-Some
returns-in-Some c =
    let is : subcommand_rows_of c.args.matches.now ≡ Some (c.in-Some.name.now, rows_of (found_of c.in-Some.matches.now)) =
    some_pair (subcommand_rows_of c.args.matches.now) _ _ (sym (name_of_rows _ _ _) ∙ sym c.in-Some.ensures.name) (sym c.in-Some.ensures.rows) in
    IfOk-weaker c.request_of.result _ _ (λ r h. h ∙ sym (ap (option_and_then request_of) is)) c.request_of.ensures
