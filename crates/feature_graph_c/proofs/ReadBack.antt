-- Requests that are written as numbers and read.
use Rattle.std.proofs.Common.{◌≡◌, ℕ, List, [], ◌∷◌, ◌++◌, true, length, take, drop, Some, None, arith, refl, ap, sym, ◌∙◌, length-append, append-nil}
use Rattle.std.specs.Prelude.{IsTrue, nat_le, ◌==◌, ◌&&◌, option_and_then, flat_map, if◌then◌else◌}
use Rattle.std.specs.Option.{option_map}
use Rattle.std.proofs.lemmas.Bool.Decides.{nat_tests}
use Rattle.feature_graph_c.specs.binary.Words.{counted}
use Rattle.guppy_packages.specs.declared.direction.DependencyDirection.{DependencyDirection}
use Rattle.guppy_packages.specs.declared.direction.DependencyDirection.TheVariants.{Forward, Reverse}
use Rattle.walk_engine.specs.declared.walks.Half.{Half}
use Rattle.walk_engine.specs.declared.walks.Half.TheVariants.{Full, Required, Optional}
use Rattle.walk_engine.specs.declared.walks.Step.{Step}
use Rattle.walk_engine.specs.declared.walks.StepReason.{StepReason}
use Rattle.walk_engine.specs.declared.walks.StepReason.TheVariants.{Initial, Edge, Offer}
use Rattle.feature_graph_c.specs.requests.Contents.{half_number, reason_number, reason_edge}
use Rattle.feature_graph_c.specs.requests.Requests.{Choice, refuse, accept, by_edge, are_below, half_in, reason_in, start_in, choice_in, step_in, offer_in, many_in, list_in, at_end, lists_in}
use Rattle.feature_graph_c.specs.requests.Written.{IsChoice, start_numbers, choice_numbers, step_numbers, offer_numbers, list_numbers}

taken : (xs rest : List ℕ) → take (length xs) (xs ++ rest) ≡ xs
taken [] rest = refl
taken (x ∷ xs) rest = ap (λ z. x ∷ z) (taken xs rest)

dropped : (xs rest : List ℕ) → drop (length xs) (xs ++ rest) ≡ rest
dropped [] rest = refl
dropped (x ∷ xs) rest = dropped xs rest

fits : (xs rest : List ℕ) → nat_le (length xs) (length (xs ++ rest)) ≡ true
fits xs rest = let h = length-append xs rest in grind (arith, nat_tests, h)

pub counted_back : (xs rest : List ℕ) → counted (length xs ∷ (xs ++ rest)) ≡ Some (xs, rest)
counted_back xs rest =
    ap (λ b. if b then Some (take (length xs) (xs ++ rest), drop (length xs) (xs ++ rest)) else None) (fits xs rest)
    ∙ ap (λ z. Some (z, drop (length xs) (xs ++ rest))) (taken xs rest) ∙ ap (λ z. Some (xs, z)) (dropped xs rest)

pub start_back : (count : ℕ) (direction : DependencyDirection) (nodes rest : List ℕ) → IsTrue (are_below count nodes) → start_in count (start_numbers direction nodes rest) ≡ Some (direction, (nodes, rest))
start_back count Forward nodes rest h = ap (option_map (λ p. (Forward, p))) (ap (option_and_then (λ p. if are_below count p.0 then Some p else None)) (counted_back nodes rest) ∙ ap (λ b. if b then Some (nodes, rest) else None) h)
start_back count Reverse nodes rest h = ap (option_map (λ p. (Reverse, p))) (ap (option_and_then (λ p. if are_below count p.0 then Some p else None)) (counted_back nodes rest) ∙ ap (λ b. if b then Some (nodes, rest) else None) h)

same : (n : ℕ) → (n == n) ≡ true
same n = grind (arith, nat_tests)

pub choice_back : (edges : ℕ) (choice : Choice) → IsChoice edges choice → choice_in edges (choice_numbers choice) ≡ Some choice
choice_back edges refuse h = refl
choice_back edges accept h = refl
choice_back edges (by_edge table) (long, h) =
    let first : (length table == edges) ≡ true = ap (λ n. length table == n) (sym long) ∙ same (length table) in
    ap (λ b. if b && (b && are_below 4 table) then Some (by_edge table) else None) first ∙ ap (λ b. if b then Some (by_edge table) else None) h

half_back : (h : Half) → half_in (half_number h) ≡ Some h
half_back Full = refl
half_back Required = refl
half_back Optional = refl

reason_back : (r : StepReason) → reason_in (reason_number r) (reason_edge r) ≡ Some r
reason_back Initial = refl
reason_back (Edge e) = refl
reason_back (Offer e Full) = refl
reason_back (Offer e Required) = refl
reason_back (Offer e Optional) = refl

pub steps_back : (steps : List Step) (rest : List ℕ) → many_in step_in (length steps) (flat_map step_numbers steps ++ rest) ≡ Some (steps, rest)
steps_back [] rest = refl
steps_back (s ∷ steps) rest =
    ap (λ z. option_and_then {T = Step × List ℕ} (λ x. option_map (λ p. (x.0 ∷ p.0, p.1)) (many_in step_in (length steps) x.1)) (option_map (λ reason. (record { node = s.node; reason = reason }, flat_map step_numbers steps ++ rest)) z)) (reason_back s.reason)
    ∙ ap (option_map (λ p. (s ∷ p.0, p.1))) (steps_back steps rest)

pub offers_back : (offers : List (ℕ × Half)) (rest : List ℕ) → many_in offer_in (length offers) (flat_map offer_numbers offers ++ rest) ≡ Some (offers, rest)
offers_back [] rest = refl
offers_back (o ∷ offers) rest =
    ap (λ z. option_and_then {T = (ℕ × Half) × List ℕ} (λ x. option_map (λ p. (x.0 ∷ p.0, p.1)) (many_in offer_in (length offers) x.1)) (option_map (λ half. ((o.0, half), flat_map offer_numbers offers ++ rest)) z)) (half_back o.1)
    ∙ ap (option_map (λ p. (o ∷ p.0, p.1))) (offers_back offers rest)

pub lists_back : (steps : List Step) (refused : List (ℕ × Half)) → lists_in (list_numbers steps refused) ≡ Some (steps, refused)
lists_back steps refused =
    ap (option_and_then (λ steps. option_and_then (λ refused. at_end (steps.0, refused.0) refused.1) (list_in offer_in steps.1))) (steps_back steps (length refused ∷ flat_map offer_numbers refused))
    ∙ ap (option_and_then (λ refused. at_end (steps, refused.0) refused.1)) (ap (many_in offer_in (length refused)) (sym (append-nil (flat_map offer_numbers refused))) ∙ offers_back refused [])
