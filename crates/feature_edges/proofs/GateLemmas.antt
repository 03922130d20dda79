-- The gate of a package link, as a number that is 0 if there is none.
use Rattle.std.proofs.Common.{◌≡◌, ◌∙◌, ◌+◌, ◌++◌, ◌∷◌, [], ℕ, zero, suc, List, length, Bool, true, false, cond, Some, ap, map, sym, subst, arith, ⊎_elim}
use Rattle.std.specs.Prelude.{◌<◌, ◌↔◌, slice_get, slice_index}
use Rattle.std.specs.List.{list_any}
use Rattle.guppy_packages.specs.Rows.{Text, Declared}
use Rattle.guppy_packages.specs.Stored.{declared}
use Rattle.guppy_packages.specs.Tables.{LinkTable, Tables, AreTables}
use Rattle.guppy_packages.specs.declared.declaration.Declaration.{Declaration}
use Rattle.feature_labels.specs.Names.LabelName.{base, optional}
use Rattle.feature_labels.specs.declared.link_declarations.LinkDeclarations.TheVariants.{Optional}
use Rattle.feature_links.specs.Links.{IsLink, has_declaration}
use Rattle.feature_edges.specs.Edges.{IsGate}
use Rattle.feature_edges.specs.Nodes.{NodeAt}
use Rattle.feature_edges.specs.inner.GateNodes.{AreGateNodes}
use Rattle.feature_edges.specs.inner.Parts.{start_of}
use Rattle.feature_edges.specs.inner.Weak.{IsOptionalLink}
use Rattle.feature_edges.proofs.LabelLemmas.{one_optional}
use Rattle.feature_edges.proofs.MaterialLemmas.{link_within}
use Rattle.feature_edges.proofs.NodeLabels.{element_within, index_there}
use Rattle.feature_edges.proofs.PushLemmas.{list_any-map}
use Rattle.feature_edges.proofs.Places.{get_cases, got_same}

-- a link with an optional declaration has a place in the list
pub gate_within : (t : Tables) (k : ℕ) (gates : List ℕ) → AreGateNodes t gates → IsOptionalLink t k → k < length gates
gate_within t k gates are is = omega (arith, link_within t k is.link is.is_link, are.long)

pub gate_of_list : (t : Tables) (k : ℕ) (gates : List ℕ) → AreGateNodes t gates → IsOptionalLink t k → IsGate t k (slice_index gates k)
gate_of_list t k gates are is =
    let e = element_within gates k (gate_within t k gates are is) in
    subst (IsGate t k) (sym (index_there gates k e.0 e.1)) (are.each k e.0 e.1 is)

-- one more number, with the list's length as its place
pub pushed-each : (P : ℕ → ℕ → Type 0) (xs ys : List ℕ) (n x : ℕ) → ys ≡ xs ++ x ∷ [] → length xs ≡ n → P n x → ((k d : ℕ) → slice_get xs k ≡ Some d → P k d) → (k d : ℕ) → slice_get ys k ≡ Some d → P k d
pushed-each P xs ys n x is long new old k d h = ⊎_elim (old k d) (λ m. last m.0 m.1 m.2) (get_cases xs (x ∷ []) k d (subst (λ z. slice_get z k ≡ Some d) is h))
  where
    last : (m : ℕ) → k ≡ length xs + m → slice_get (x ∷ []) m ≡ Some d → P k d
    last zero e i = subst (P k) (got_same x d i) (subst (λ z. P z x) (omega (arith, e, long)) new)
    last (suc m) e i = cc

-- the test of a link's declarations
pub optional_test : (held : List Declaration) (link : LinkTable) (b : Bool) → map declared held ≡ link.declarations → b ≡ list_any (λ d. (declared d).optional) held → b ≡ has_declaration Optional link
optional_test held link b same is = is ∙ sym (list_any-map declared (λ d. d.optional) held) ∙ ap (list_any (λ d. d.optional)) same

-- a link without an optional declaration has no gate
pub no_gate : (t : Tables) (k : ℕ) (link : LinkTable) → IsLink t k link → has_declaration Optional link ≡ false → IsOptionalLink t k → ⊥
no_gate t k link is none some =
    let same : some.link ≡ link = got_same some.link link (sym some.is_link ∙ is) in
    let no = sym (ap (has_declaration Optional) same) ∙ some.is_optional in
    cc

-- the node of a link's name among the optional dependencies of its source is its gate
pub gate_there : (t : Tables) (k d p : ℕ) (link : LinkTable) (name : Text) → IsLink t k link → p ≡ link.from → name ≡ link.name → NodeAt t d p (optional name) → IsGate t k d
gate_there t k d p link name is from same at = record {
  within = link_within t k link is;
  node = λ other h.
      subst (λ z. NodeAt t d z.from (optional z.name)) (got_same link other (sym is ∙ h))
      (subst (λ z. NodeAt t d z (optional link.name)) from (subst (λ z. NodeAt t d p (optional z)) same at));
}

-- an optional declaration starts from the gate of its link
pub start_gate : (t : Tables) → AreTables t → (k gate : ℕ) (link : LinkTable) (d : Declared) → IsLink t k link → d.optional ≡ true → IsGate t k gate → (n : ℕ) → (gate ≡ n) ↔ NodeAt t n link.from (start_of link d)
start_gate t tables k gate link d is o is_gate n =
    let table = element_within t.packages link.from (tables.ends k link is).0 in
    let at = is_gate.node link is in
    subst (λ label. (gate ≡ n) ↔ NodeAt t n link.from label) (sym (ap (λ b. cond b (optional link.name) base) o))
    (λ e. subst (λ z. NodeAt t z link.from (optional link.name)) e at, λ h. one_optional t link.from table.0 table.1 tables link.name gate n at h)
