-- A closure as a visitor.
use Rattle.std.specs.Prelude.{Bool, ◌≡◌}
use Rattle.std.specs.Borrow.{Bor}
use Rattle.feature_graph.specs.Values.{Query}
use Rattle.feature_graph.specs.LinkValues.{Link}
use Rattle.feature_graph.specs.LinkViews.{link_of}
use Rattle.feature_graph.specs.declared.link.ConditionalLink.{ConditionalLink}

-- some call of the closure with this context and link returns `answer` and leaves it in the state `t`
abbrev pub closure_gives : {F : Type 0} → (F → Bor Query → ConditionalLink → Bool → F → Type 0) → F → Query → Link → Bool → F → Type 0
closure_gives step s q l answer t =
    (c : Bor Query) × (k : ConditionalLink) × (c.now ≡ q) × (link_of k ≡ l) × step s c k answer t

-- the closure may be called with every context and link of these values
abbrev pub closure_can : {F : Type 0} → (F → Bor Query → ConditionalLink → Type 0) → F → Query → Link → Type 0
closure_can pre s q l = (c : Bor Query) (k : ConditionalLink) → c.now ≡ q → link_of k ≡ l → pre s c k
