-- Refusals of the feature graph as refusals of the program, and the texts of a list's elements.
use Rattle.std.proofs.Common.{◌≡◌, ℕ, zero, suc, ◌+◌, ◌≤◌, List, [], ◌∷◌, ◌++◌, Bool, true, length, map, drop, Some, add-one, append_assoc, append-nil, sym, ap, ◌∙◌, subst, refl, arith}
use Rattle.guppy_packages.specs.Rows.{Text}
use Rattle.guppy_packages.specs.Tables.{Tables, PackageTable, AreTables}
use Rattle.walk_engine.specs.declared.walks.Half.{Half}
use Rattle.walk_engine.specs.Walks.{Call, Agrees, GoesAlong}
use Rattle.walk_engine.specs.Laws.{every}
use Rattle.feature_labels.specs.Names.{LabelName, id_text}
use Rattle.feature_core.specs.Errors as graph
use Rattle.std.specs.Prelude.{Contains, flat_map, slice_get}
use Rattle.feature_labels.specs.Lists.{ListValue, SameLabels, joined}
use Rattle.feature_core.specs.Nodes.{labels_of}
use Rattle.feature_graph.specs.Names.{RefusesNames, RefusesPackage, ListsPackage}
use Rattle.guppy_tool.proofs.LabelLists.{place_of_element}
use Rattle.guppy_tool.specs.Faults.{Refusal, IfNotMemory, unknown_feature, unknown_package, out_of_memory}
use Rattle.guppy_tool.specs.Answers.{NamesUnknown, NamesNoPackage, ListsFeatures, IsToldAs, IsPackageToldAs, MayRefuseIds, MayRefusePackage}
use Rattle.guppy_tool.proofs.RefusalLemmas.{if_not_memory}

-- nothing is claimed if an allocation fails
at_memory : (r : Refusal) (P : Type 0) → r ≡ out_of_memory → IfNotMemory r P
at_memory r P e = subst (λ s. IfNotMemory s P) (sym e) tt

pub names_unknown : (t : Tables) (ids : List (Text × LabelName)) (refused : graph.Refusal) (r : Refusal) → RefusesNames t ids refused → IsToldAs r refused → IfNotMemory r (NamesUnknown t ids r)
names_unknown t ids (graph.unknown_feature id) r first told = if_not_memory r (r ≡ unknown_feature (id_text id)) (NamesUnknown t ids r) (λ e. record { id = id; first = first; named = e }) told
names_unknown t ids graph.no_memory r known told = at_memory r (NamesUnknown t ids r) told
names_unknown t ids (graph.unknown_package id) r h told = absurd h
names_unknown t ids (graph.internal_error from to) r h told = absurd h

pub may_refuse : (t : Tables) (ids : List (Text × LabelName)) (refused : graph.Refusal) → RefusesNames t ids refused → MayRefuseIds refused
may_refuse t ids (graph.unknown_feature id) h = tt
may_refuse t ids graph.no_memory h = tt
may_refuse t ids (graph.unknown_package id) h = absurd h
may_refuse t ids (graph.internal_error from to) h = absurd h

-- a run that accepted every offer agrees with the set of all offers
pub agrees_all : {O : Type 0} (gives : O → ℕ → Half → Bool → O → Type 0) → ((s : O) (e : ℕ) (h : Half) (b : Bool) (u : O) → gives s e h b u → b ≡ true) → (s t : O) (run : List Call) → GoesAlong gives s run t → Agrees every run
agrees_all gives says s t [] along = tt
agrees_all gives says s t (call ∷ before) (m, along, step) = (sym (says m call.edge call.half call.answer t step), agrees_all gives says s m before along)

-- the text of the elements from `k` on is the text of the element at `k` and the text of the rest
texts_next : {X : Type 0} (f : X → List ℕ) (xs : List X) (k : ℕ) (x : X) → slice_get xs k ≡ Some x → flat_map f (drop k xs) ≡ f x ++ flat_map f (drop (suc k) xs)
texts_next f [] k x e = cc
texts_next f (y ∷ ys) zero x e = let same : y ≡ x = cc in ap (λ z. f z ++ flat_map f ys) same
texts_next f (y ∷ ys) (suc k) x e = texts_next f ys k x e

-- the text so far with the text of the elements to come is unchanged by a step
pub texts_so_far : {X : Type 0} (f : X → List ℕ) (xs : List X) (k : ℕ) (x : X) (text next all : List ℕ) → slice_get xs k ≡ Some x → text ++ flat_map f (drop k xs) ≡ all → next ≡ text ++ f x → next ++ flat_map f (drop (k + 1) xs) ≡ all
texts_so_far f xs k x text next all e h n =
    ap (λ z. z ++ flat_map f (drop (k + 1) xs)) n
    ∙ ap (λ z. (text ++ f x) ++ flat_map f (drop z xs)) (add-one k)
    ∙ append_assoc text (f x) (flat_map f (drop (suc k) xs))
    ∙ ap (λ z. text ++ z) (sym (texts_next f xs k x e))
    ∙ h

-- at the end of the loop the text is that of all elements
pub texts_after : {X Y : Type 0} (g : X → Y) (f : Y → List ℕ) (xs : List X) (k : ℕ) (text first : List ℕ) → length xs ≤ k → text ++ flat_map (λ x. f (g x)) (drop k xs) ≡ first ++ flat_map (λ x. f (g x)) xs → text ≡ first ++ flat_map f (map g xs)
texts_after g f xs k text first past h =
    sym (append-nil text)
    ∙ ap (λ z. text ++ flat_map (λ x. f (g x)) z) (sym (none_left xs k past))
    ∙ h
    ∙ ap (λ z. first ++ z) (through g f xs)
  where
    none_left : {X : Type 0} (xs : List X) (k : ℕ) → length xs ≤ k → drop k xs ≡ []
    none_left [] zero past = refl
    none_left [] (suc k) past = refl
    none_left (x ∷ xs) zero past = absurd (omega (arith, past))
    none_left (x ∷ xs) (suc k) past = none_left xs k (omega (arith, past))

    through : {X Y : Type 0} (g : X → Y) (f : Y → List ℕ) (xs : List X) → flat_map (λ x. f (g x)) xs ≡ flat_map f (map g xs)
    through g f [] = refl
    through g f (x ∷ xs) = ap (λ z. f (g x) ++ z) (through g f xs)

pub texts_done : {X Y : Type 0} (g : X → Y) (f : Y → List ℕ) (xs : List X) (k : ℕ) (text : List ℕ) → length xs ≤ k → text ++ flat_map (λ x. f (g x)) (drop k xs) ≡ flat_map (λ x. f (g x)) xs → text ≡ flat_map f (map g xs)
texts_done g f xs k text past h = texts_after g f xs k text [] past h

-- only one package has the id
pub one_table : (t : Tables) (a b : PackageTable) → AreTables t → Contains t.packages a → Contains t.packages b → a.id ≡ b.id → a ≡ b
one_table t a b tables x y e =
    let mine = place_of_element t.packages a x in
    let its = place_of_element t.packages b y in
    let same : mine.0 ≡ its.0 = tables.ids mine.0 its.0 a.id (slice_get_map (λ p. p.id) t.packages mine.0 a mine.1) (slice_get_map (λ p. p.id) t.packages its.0 b its.1 ∙ ap Some (sym e)) in
    some_same a b (sym mine.1 ∙ ap (slice_get t.packages) same ∙ its.1)
  where
    some_same : (x y : PackageTable) → ◌≡◌ (Some x) (Some y) → x ≡ y
    some_same x y e = cc

    slice_get_map : {X Y : Type 0} (f : X → Y) (xs : List X) (k : ℕ) (x : X) → slice_get xs k ≡ Some x → slice_get (map f xs) k ≡ Some (f x)
    slice_get_map f [] k x e = cc
    slice_get_map f (y ∷ ys) zero x e = let same : y ≡ x = cc in ap (λ z. Some (f z)) same
    slice_get_map f (y ∷ ys) (suc k) x e = slice_get_map f ys k x e

-- the labels of the listed package are the labels of every package with its id
pub lists_features : (t : Tables) (id : Text) (list : ListValue) (text : Text) → AreTables t → ListsPackage t id list → text ≡ joined list.labels ++ 10 ∷ [] → ListsFeatures t id text
lists_features t id list text tables l line = record {
  known = (l.table, l.is_package, l.named);
  labels = list.labels;
  ascends = l.ascends;
  own = λ table is named. subst (λ z. SameLabels (labels_of z) list.labels) (one_table t l.table table tables l.is_package is (l.named ∙ sym named)) l.labels;
  line = line;
}

-- a refused look-up names a package that doesn't exist
pub names_no_package : (t : Tables) (id : Text) (refused : graph.Refusal) (r : Refusal) → RefusesPackage t id refused → IsPackageToldAs r refused → IfNotMemory r (NamesNoPackage t id r)
names_no_package t id (graph.unknown_package other) r h told = if_not_memory r (r ≡ unknown_package other) (NamesNoPackage t id r) (λ e. (e ∙ ap unknown_package h.0, h.1)) told
names_no_package t id graph.no_memory r h told = at_memory r (NamesNoPackage t id r) told
names_no_package t id (graph.unknown_feature name) r h told = absurd h
names_no_package t id (graph.internal_error from to) r h told = absurd h

pub may_refuse_package : (t : Tables) (id : Text) (refused : graph.Refusal) → RefusesPackage t id refused → MayRefusePackage refused
may_refuse_package t id (graph.unknown_package other) h = tt
may_refuse_package t id graph.no_memory h = tt
may_refuse_package t id (graph.unknown_feature name) h = absurd h
may_refuse_package t id (graph.internal_error from to) h = absurd h
