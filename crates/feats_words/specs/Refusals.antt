-- Refusals of words, and steps that may be refused.
use Rattle.std.specs.Prelude.{◌≡◌, List, [], ◌∷◌, Result, Ok, Err}
use Rattle.clap.specs.Words.{Text}
use Rattle.feats_words.specs.declared.fault.WordsFault.{WordsFault}
use Rattle.feats_words.specs.declared.fault.WordsFault.TheVariants as fault

pub data Refusal : Type 0 where
  bad_platform : Text → Refusal
  bad_resolver : Text → Refusal
  two_resolvers : Refusal
  bad_format : Text → Refusal
  graph_format : Refusal
  summary_format : Refusal
  routes_of_all : Refusal
  list_of_nothing : Refusal
  unused_of_one : Refusal
  packages_of_every_choice : Refusal
  exclude_alone : Refusal
  bad_command : Text → Refusal
  bad_depth : Text → Refusal
  bad_edges : Text → Refusal
  out_of_memory : Refusal

abbrev pub refusal_of : WordsFault → Refusal
refusal_of (fault.Platform word) = bad_platform word.now
refusal_of (fault.Resolver word) = bad_resolver word.now
refusal_of fault.TwoResolvers = two_resolvers
refusal_of (fault.Format word) = bad_format word.now
refusal_of fault.GraphFormat = graph_format
refusal_of fault.SummaryFormat = summary_format
refusal_of fault.RoutesOfAll = routes_of_all
refusal_of fault.ListOfNothing = list_of_nothing
refusal_of fault.UnusedOfOne = unused_of_one
refusal_of fault.PackagesOfEveryChoice = packages_of_every_choice
refusal_of fault.ExcludeAlone = exclude_alone
refusal_of (fault.Command word) = bad_command word.now
refusal_of (fault.Depth word) = bad_depth word.now
refusal_of (fault.Edges word) = bad_edges word.now
refusal_of fault.Memory = out_of_memory

-- Nothing is claimed if an allocation fails.
abbrev pub IfNotMemory : Refusal → Type 0 → Type 0
IfNotMemory out_of_memory claim = Unit {0}
IfNotMemory _ claim = claim

-- A call returned the expected result, with its value seen through `view`.
abbrev pub Gives : {X Y : Type 0} → (X → Y) → Result X WordsFault → Result Y Refusal → Type 0
Gives view (Ok x) given = given ≡ Ok (view x)
Gives view (Err e) given = IfNotMemory (refusal_of e) (given ≡ Err (refusal_of e))

-- The second step, if the first returned a value.
infixl 10 ◌>>=◌
abbrev pub ◌>>=◌ : {A B : Type 0} → Result A Refusal → (A → Result B Refusal) → Result B Refusal
(Ok x) >>= f = f x
(Err e) >>= f = Err e

-- The values of the items, or the first refusal.
abbrev pub each : {A B : Type 0} → (A → Result B Refusal) → List A → Result (List B) Refusal
each read [] = Ok []
each read (x ∷ xs) = read x >>= λ y. each read xs >>= λ ys. Ok (y ∷ ys)
