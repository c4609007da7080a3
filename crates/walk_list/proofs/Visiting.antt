-- The leaves below a visit, and those of its two parts.
use Rattle.std.proofs.Common.{◌≡◌, ℕ, ◌+◌, ◌<◌, ◌⊎◌, ℤ, sym, ap, ◌∙◌, arith, inl, inr, subst, List, length}
use Rattle.std.proofs.lemmas.Bool.{cases_lt}
use Rattle.fixed_box.specs.declared.shapes.Point.{Point}
use Rattle.fixed_box.specs.declared.shapes.Tri.{Tri}
use Rattle.fixed_box.specs.Boxes.{Contains}
use Rattle.fixed_box.specs.Extent.{tri_box}
use Rattle.segment_hit.specs.Lines.{IsPassageOf}
use Rattle.traversal.specs.Nearest.{triangle_of}
use Rattle.walk_list.specs.declared.records.Leaf.{Leaf}
use Rattle.walk_list.specs.declared.records.Record.{Record}
use Rattle.walk_list.specs.declared.visits.Visit.{Visit}
use Rattle.walk_list.specs.Lists.{Contents}
use Rattle.walk_list.specs.Leaves.{leaf_at}
use Rattle.walk_list.specs.Parts.{IsSubtreeAt}
use Rattle.walk_list.specs.Records.{record_at}
use Rattle.walk_list.specs.Reaches.{StandsFrom, IsScene}
use Rattle.walk_list.specs.Visits.{IsVisit, LeavesOf, AreParts}
use Rattle.walk_list.proofs.Subtrees.{Halves, own_bounds}

-- a subtree's box contains those of its leaves' triangles
pub visit_contains : (f : Contents) (tris : List Tri) (i a : ℕ) → IsSubtreeAt f.leaves f.records i a →
    IsScene f.leaves tris → (n : ℕ) → StandsFrom f.leaves a (record_at f.records i).end n →
    Contains (record_at f.records i).fit (tri_box (triangle_of tris n))
visit_contains f tris i a subtree scene n (k, low, high, number) =
    let own = own_bounds f.leaves f.records i a subtree in
    let inside : k < length f.leaves = omega (arith, subtree.inside) in
    let leaf = scene.each k inside in
    subst (λ m. Contains (record_at f.records i).fit (tri_box (triangle_of tris m))) number
    (subst (Contains (record_at f.records i).fit) leaf.fit (own.each k low high))

module _ (f : Contents) (p q : Point) (whole : ℤ) (v a b : Visit) {next : Record}
    (h : Halves f.leaves f.records v.at v.position next) (a_at : a.at ≡ v.at + 1) (a_first : a.position ≡ v.position)
    (b_at : b.at ≡ v.at + 1 + next.escape) (b_first : b.position ≡ next.end)
    (a_way : IsPassageOf p q (record_at f.records (v.at + 1)).fit whole a.way)
    (b_way : IsPassageOf p q (record_at f.records (v.at + 1 + next.escape)).fit whole b.way) where
  -- the visit to the left part
  visit_a : IsVisit f p q whole a
  visit_a = record {
    within = omega (arith, a_at, h.left_in);
    subtree = subst (λ i. IsSubtreeAt f.leaves f.records i a.position) (sym a_at)
        (subst (λ z. IsSubtreeAt f.leaves f.records (v.at + 1) z) (sym a_first) h.left);
    way = subst (λ i. IsPassageOf p q (record_at f.records i).fit whole a.way) (sym a_at) a_way;
  }

  -- the visit to the right one
  visit_b : IsVisit f p q whole b
  visit_b = record {
    within = omega (arith, b_at, h.right_in);
    subtree = subst (λ i. IsSubtreeAt f.leaves f.records i b.position) (sym b_at)
        (subst (λ z. IsSubtreeAt f.leaves f.records (v.at + 1 + next.escape) z) (sym b_first) h.right);
    way = subst (λ i. IsPassageOf p q (record_at f.records i).fit whole b.way) (sym b_at) b_way;
  }

  -- each leaf stands in one of them
  either : (n : ℕ) → LeavesOf f v n → LeavesOf f a n ⊎ LeavesOf f b n
  either n (k, low, high, number) = elim (cases_lt k next.end) [
    | inl before ↦ inl (
      k,
      omega (arith, a_first),
      subst (λ i. k < (record_at f.records i).end) (sym a_at) (subst (λ (r : Record). k < r.end) h.next_is before),
      number,
    )
    | inr behind ↦ inr (
      k,
      omega (arith, b_first),
      subst (λ i. k < (record_at f.records i).end) (sym b_at) (subst (λ z. k < z) (sym h.right_end) high),
      number,
    )
  ]

  -- so the two visits are its parts, the left one first
  pub in_turn : AreParts f p q whole v a b
  in_turn = record {
    first = visit_a;
    second = visit_b;
    first_on = omega (arith, a_at);
    second_on = omega (arith, b_at);
    all = either;
  }

  -- or the right one
  pub in_other_turn : AreParts f p q whole v b a
  in_other_turn = record {
    first = visit_b;
    second = visit_a;
    first_on = omega (arith, b_at);
    second_on = omega (arith, a_at);
    all = λ n k. elim (either n k) [ inl l ↦ inr l | inr r ↦ inl r ];
  }

-- a visit to the first record
pub root_visit : (f : Contents) (p q : Point) (whole : ℤ) (v : Visit) → IsSubtreeAt f.leaves f.records 0 0 →
    0 < length f.records → v.at ≡ 0 → v.position ≡ 0 → IsPassageOf p q (record_at f.records 0).fit whole v.way →
    IsVisit f p q whole v
root_visit f p q whole v subtree some at first way = record {
  within = omega (arith, at, some);
  subtree = subst (λ i. IsSubtreeAt f.leaves f.records i v.position) (sym at)
      (subst (λ z. IsSubtreeAt f.leaves f.records 0 z) (sym first) subtree);
  way = subst (λ i. IsPassageOf p q (record_at f.records i).fit whole v.way) (sym at) way;
}

-- one more leaf is seen
pub one_more_seen : (leaves : List Leaf) (first i n : ℕ) → StandsFrom leaves first (i + 1) n →
    StandsFrom leaves first i n ⊎ (n ≡ (leaf_at leaves i).number)
one_more_seen leaves first i n (k, low, high, number) = elim (cases_lt k i) [
  | inl before ↦ inl (k, low, before, number)
  | inr behind ↦
      let here : k ≡ i = omega arith in
      inr (sym number ∙ ap (λ j. let l : Leaf = leaf_at leaves j in l.number) here)
]
