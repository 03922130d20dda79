-- Refusals of a command line, and steps that may be refused.
use Rattle.std.specs.Prelude.{◌≡◌, ℕ, List, Option, Some, None, Result, Ok, Err}
use Rattle.cargo_workspaces.specs.Workspaces.{Text}
use Rattle.plan_words.specs.declared.fault.WordFault.{WordFault}
use Rattle.plan_words.specs.declared.fault.WordFault.TheVariants as fault

pub data Refusal : Type 0 where
  unknown_package : Text → Refusal
  ambiguous_package : Text → List ℕ → Refusal
  no_packages : Refusal
  no_member : Refusal
  unknown_feature : Text → Refusal
  no_feature : ℕ → Text → Refusal
  no_dependency : ℕ → Text → Refusal
  out_of_memory : Refusal

abbrev pub refusal_of : WordFault → Refusal
refusal_of (fault.UnknownPackage word) = unknown_package word.now
refusal_of (fault.AmbiguousPackage word candidates) = ambiguous_package word.now candidates.items
refusal_of fault.NoPackages = no_packages
refusal_of fault.NoMember = no_member
refusal_of (fault.UnknownFeature word) = unknown_feature word.now
refusal_of (fault.NoFeature owner feature) = no_feature owner feature.now
refusal_of (fault.NoDependency owner dependency) = no_dependency owner dependency.now
refusal_of fault.Memory = out_of_memory

-- Nothing is claimed if an allocation fails.
abbrev pub IfNotMemory : Refusal → Type 0 → Type 0
IfNotMemory out_of_memory claim = Unit {0}
IfNotMemory _ claim = claim

-- A call returned the expected result, with its value seen through `view`.
abbrev pub Gives : {X Y : Type 0} → (X → Y) → Result X WordFault → Result Y Refusal → Type 0
Gives view (Ok x) given = given ≡ Ok (view x)
Gives view (Err e) given = IfNotMemory (refusal_of e) (given ≡ Err (refusal_of e))

-- A check returned the expected refusal, if there is one.
abbrev pub Checks : {X : Type 0} → Result X WordFault → Option Refusal → Type 0
Checks (Ok x) refusal = refusal ≡ None
Checks (Err e) refusal = IfNotMemory (refusal_of e) (refusal ≡ Some (refusal_of e))

-- The second step, if the first returned a value.
infixl 10 ◌>>=◌
abbrev pub ◌>>=◌ : {A B : Type 0} → Result A Refusal → (A → Result B Refusal) → Result B Refusal
(Ok x) >>= f = f x
(Err e) >>= f = Err e

-- The value, if nothing is refused.
abbrev pub unless : {A : Type 0} → Option Refusal → A → Result A Refusal
unless None x = Ok x
unless (Some refusal) x = Err refusal
