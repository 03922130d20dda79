-- Items that are read, one after the other.
use Rattle.std.proofs.Common.{◌≡◌, ◌∙◌, sym, ap, refl, ℕ, ◌+◌, ◌<◌, List, [], ◌∷◌, ◌++◌, drop, length, get_or, append_assoc, add-one, drop-cons, Result, Ok, Err, Bor}
use Rattle.clap.specs.Words.{Text}
use Rattle.feats_words.specs.Refusals.{Refusal, IfNotMemory, bad_platform, bad_resolver, two_resolvers, bad_format, graph_format, summary_format, routes_of_all, list_of_nothing, unused_of_one, packages_of_every_choice, exclude_alone, bad_command, bad_depth, bad_edges, out_of_memory, each, ◌>>=◌}
use Rattle.feats_words.specs.Requests.{texts}

-- What was read, before what is read.
abbrev pub prefixed : {B : Type 0} → List B → Result (List B) Refusal → Result (List B) Refusal
prefixed front rest = rest >>= λ ys. Ok (front ++ ys)

pub none_yet : {B : Type 0} (r : Result (List B) Refusal) → r ≡ prefixed [] r
none_yet (Ok ys) = refl
none_yet (Err e) = refl

onto : {B : Type 0} (front : List B) (y : B) (r : Result (List B) Refusal) → prefixed front (r >>= λ ys. Ok (y ∷ ys)) ≡ prefixed (front ++ y ∷ []) r
onto front y (Ok ys) = ap Ok (sym (append_assoc front (y ∷ []) ys))
onto front y (Err e) = refl

texts_at : (words : List (Bor Text)) (i : ℕ) (w : Bor Text) → i < length words → texts (drop i words) ≡ (get_or words i w).now ∷ texts (drop (i + 1) words)
texts_at words i w within = let at : drop i words ≡ get_or words i w ∷ drop (i + 1) words = rw (add-one, drop-cons words i w within) refl in ap texts at

-- one more item is read
pub one_more : {B : Type 0} (read : Text → Result B Refusal) (words : List (Bor Text)) (i : ℕ) (w : Bor Text) (front : List B) (y : B) (all : Result (List B) Refusal) → i < length words
    → all ≡ prefixed front (each read (texts (drop i words))) → read (get_or words i w).now ≡ Ok y → all ≡ prefixed (front ++ y ∷ []) (each read (texts (drop (i + 1) words)))
one_more read words i w front y all within so is =
    so ∙ ap (λ ts. prefixed front (each read ts)) (texts_at words i w within)
    ∙ ap (λ r. prefixed front (r >>= λ z. each read (texts (drop (i + 1) words)) >>= λ zs. Ok (z ∷ zs))) is
    ∙ onto front y (each read (texts (drop (i + 1) words)))

-- an item is refused
pub one_refused : {B : Type 0} (read : Text → Result B Refusal) (words : List (Bor Text)) (i : ℕ) (w : Bor Text) (front : List B) (e : Refusal) (all : Result (List B) Refusal) → i < length words
    → all ≡ prefixed front (each read (texts (drop i words))) → read (get_or words i w).now ≡ Err e → all ≡ Err e
one_refused read words i w front e all within so is =
    so ∙ ap (λ ts. prefixed front (each read ts)) (texts_at words i w within)
    ∙ ap (λ r. prefixed front (r >>= λ z. each read (texts (drop (i + 1) words)) >>= λ zs. Ok (z ∷ zs))) is

pub if_not_memory : (e : Refusal) {P Q : Type 0} → (P → Q) → IfNotMemory e P → IfNotMemory e Q
if_not_memory (bad_platform word) f p = f p
if_not_memory (bad_resolver word) f p = f p
if_not_memory two_resolvers f p = f p
if_not_memory (bad_format word) f p = f p
if_not_memory graph_format f p = f p
if_not_memory summary_format f p = f p
if_not_memory routes_of_all f p = f p
if_not_memory list_of_nothing f p = f p
if_not_memory unused_of_one f p = f p
if_not_memory packages_of_every_choice f p = f p
if_not_memory exclude_alone f p = f p
if_not_memory (bad_command word) f p = f p
if_not_memory (bad_depth word) f p = f p
if_not_memory (bad_edges word) f p = f p
if_not_memory out_of_memory f p = tt
