-- The links that a limit hides, and the object that says so.
use Rattle.std.proofs.Common.{◌≡◌, ◌∙◌, ◌++◌, ◌∷◌, ap, ap₂, refl, ℕ, List, [], Bool, true, false, cond, not, ◌&&◌, Option, Result}
use Rattle.std.specs.Prelude.{IfOk}
use Rattle.std.specs.Global.{Vec}
use Rattle.std.specs.List.{list_any}
use Rattle.std.proofs.lemmas.Result.{IfOk-weaker}
use Rattle.json.specs.Token.{Token, begin_object}
use Rattle.json.specs.Written.{Written}
use Rattle.feats_lines.specs.parts.Members.{Appends, object_line}
use Rattle.feats_tree.specs.trees.Branches.{ends_of, is_cut, is_empty, is_expanded_in, is_hiding}
use Rattle.feats_tree.specs.trees.inner.Nodes.{is_hiding_at}
use Rattle.feats_tree.specs.trees.inner.Walks.{IsWalk}
use Rattle.feats_tree.specs.declared.trees.nodes.Node.{Node}
use Rattle.feats_tree.specs.declared.trees.trees.Branch.{Branch}

hides : (t : Bool) (ends : List ℕ) → not (is_empty (cond t [] ends)) ≡ (not t && not (is_empty ends))
hides true ends = refl
hides false ends = refl

-- the ends that weren't shown after a walk are those that the limit hides
pub walk_cut : (links : List (ℕ × ℕ)) (roots : List ℕ) (limit : Option ℕ) (nodes : List Node) (shown waits : List Branch) → IsWalk links roots limit nodes shown waits
    → list_any (λ (b : Branch). is_hiding_at nodes b.node) shown ≡ is_cut links limit shown
walk_cut links roots limit nodes shown waits walk = ap (λ (test : Branch → Bool). list_any test shown) (λ i b. same b i)
  where
    same : (b : Branch) → is_hiding_at nodes b.node ≡ is_hiding links limit shown b.node
    same b = ap (λ (es : List ℕ). not (is_empty es)) (walk.ends b.node) ∙ hides (is_expanded_in limit shown b.node) (ends_of links b.node)

-- the line of an object with these members
pub object_by : {E : Type 0} (r : Result (Vec ℕ) E) (text : List ℕ) (begun written : Written) (members : List Token) → begun.before ≡ text → begun.tokens ≡ begin_object ∷ [] → Appends begun written members
    → IfOk r (λ new. new.items ≡ written.before ++ object_line written.tokens) → IfOk r (λ new. new.items ≡ text ++ object_line (begin_object ∷ members))
object_by r text begun written members before tokens appends is =
    IfOk-weaker r _ _ (λ new same. same ∙ ap₂ (λ (b : List ℕ) (ts : List Token). b ++ object_line ts) (appends.before ∙ before) (appends.tokens ∙ ap (λ (ts : List Token). ts ++ members) tokens)) is
