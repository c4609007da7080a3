-- How many nodes a world's tree has, whatever its boxes are, and which asks for one are refused or free.
use Rattle.std.proofs.Common.{◌≡◌, ℕ, suc, zero, ◌-◌, ◌<◌, ◌≤◌, Bool, true, not, ◌||◌, inl, inr, refl, sym, ap, ◌∙◌, List, length}
use Rattle.std.specs.Prelude.{nat_lt}
use Rattle.std.proofs.lemmas.Bool.{cond-false, le-ltb, lt-ltb, or_cases, not-true, both_ways}
use Rattle.fixed_box.specs.declared.shapes.Box3.{Box3}
use Rattle.morton_key.specs.declared.keys.Key.{Key}
use Rattle.radix_tree.specs.declared.nodes.Node.{Node}
use Rattle.radix_tree.specs.Table.{Contents, IsTable}
use Rattle.radix_tree.specs.Fit.{nodes_from, table_of}
use Rattle.query_script.specs.declared.faults.LineFault.TheVariants.{NoSuchNode}
use Rattle.query_script.specs.declared.replies.Reply.TheVariants.{Refused}
use Rattle.world_index.specs.Worlds.{WorldState, built_order, boxes_now, table, node_reply}

-- so many nodes are written as are counted
length-nodes_from : (keys : List Key) (boxes : List Box3) (k count : ℕ) → length (nodes_from keys boxes k count) ≡ count
unfolding nodes_from
length-nodes_from keys boxes k zero = refl
length-nodes_from keys boxes k (suc count) = ap suc (length-nodes_from keys boxes (suc k) count)

-- a table has one node fewer than keys
pub length-table_of : (keys : List Key) (boxes : List Box3) → length (table_of keys boxes) ≡ length keys - 1
unfolding table_of
length-table_of keys boxes = length-nodes_from keys boxes 0 (length keys - 1)

-- and so a world's has as many nodes as any tree over the order of its build
pub length-table : (t : Contents) (world : WorldState) → IsTable t → t.keys ≡ built_order world →
    length t.nodes ≡ length (table world)
length-table t world is keys =
    is.count ∙ (ap (λ ks. length ks - 1) keys ∙ sym (length-table_of (built_order world) (boxes_now world)))

-- a number past the last node is refused
pub past_is_refused : (nodes : List Node) (number : ℕ) → length nodes ≤ number →
    Refused NoSuchNode ≡ node_reply nodes number
past_is_refused nodes number past = sym (cond-false _ _ _ (le-ltb number (length nodes) past))

-- an ask for a node that is there is free only in a world at rest
pub free_at_rest : (settled : Bool) (number count : ℕ) → number < count →
    (settled || not (nat_lt number count)) ≡ true → settled ≡ true
free_at_rest settled number count there free = elim (or_cases settled (not (nat_lt number count)) free) [
  | inl rest ↦ rest
  | inr past ↦ absurd (both_ways (nat_lt number count) (not-true (nat_lt number count) past)
      (lt-ltb number count there))
]
