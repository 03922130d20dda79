-- Maps of groups, and sets of texts.
use Rattle.std.specs.Prelude.{◌≡◌, ℕ, List, []}
use Rattle.std.specs.Borrow.{Bor}
use Rattle.std.specs.BTreeMap.{BTreeMap, get_by}
use Rattle.std.specs.BTreeSet.{BTreeSet}
use Rattle.std.specs.Cmp.Lexicographic.{slice_cmp}
use Rattle.std.specs.Global.{Vec}
use Rattle.std.specs.List.{list_any}
use Rattle.std.specs.Option.{option_map_or}
use Rattle.std.specs.Ordering.{is_eq, nat_cmp}
use Rattle.std.specs.Str.{bytes_eq}
use Rattle.cargo_workspaces.specs.Views.{texts}
use Rattle.cargo_workspaces.specs.Workspaces.{DeclarationText, Text, text_cmp}
use Rattle.feats_unused.specs.Requests.{RequestText, asked_of, leads_of}

-- The group of a number; empty if there is none.
abbrev pub group_at : {T : Type 0} → BTreeMap ℕ (Vec T) → ℕ → List T
group_at groups q = option_map_or (λ g. g.items) (get_by (nat_cmp q) groups) []

-- The numbers of a name; empty if there are none.
abbrev pub named : BTreeMap (Bor Text) (Vec ℕ) → Text → List ℕ
named names q = option_map_or (λ g. g.items) (get_by (λ k. slice_cmp nat_cmp q k.now) names) []

-- Each name has the numbers of the packages to which its declarations lead.
abbrev pub HasLeads : BTreeMap (Bor Text) (Vec ℕ) → List DeclarationText → Type 0
HasLeads names declarations = (q : Text) → named names q ≡ leads_of declarations q

-- Each package has the features that it is asked for.
abbrev pub HasAsked : BTreeMap ℕ (Vec (Bor Text)) → List RequestText → Type 0
HasAsked groups requests = (q : ℕ) → texts (group_at groups q) ≡ asked_of requests q

-- A set has these texts and no others.
abbrev pub HasTexts : BTreeSet (Bor Text) → List Text → Type 0
HasTexts set names = (q : Bor Text) → list_any (λ k. is_eq (text_cmp q.now k.now)) set.keys ≡ list_any (bytes_eq q.now) names
