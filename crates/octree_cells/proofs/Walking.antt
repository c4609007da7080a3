-- One step of the walk: what it adds at a leaf, at a cell, and at a node from what it added at the children.
use Rattle.std.proofs.Common.{◌≡◌, ℕ, ◌+◌, ◌-◌, ◌<◌, ◌≤◌, refl, sym, ap, ◌∙◌, subst, arith, inl, inr, List, [], ◌∷◌, ◌++◌, length, get_or, append-nil, append_assoc}
use Rattle.std.proofs.lemmas.Bool.{cases_eq}
use Rattle.morton_key.specs.declared.keys.TheConstants.{LEVELS}
use Rattle.morton_key.specs.declared.keys.Key.{Key}
use Rattle.radix_tree.specs.declared.nodes.Node.{Node}
use Rattle.radix_tree.specs.declared.nodes.Child.{Child}
use Rattle.radix_tree.specs.declared.nodes.Child.TheVariants.{Leaf, Inner}
use Rattle.radix_tree.specs.Split.{split}
use Rattle.radix_tree.specs.Ranges.{IsNode, HasRange}
use Rattle.radix_tree.specs.Table.{Contents, node_at, IsTable}
use Rattle.radix_tree.proofs.SplitLaws.{split_laws}
use Rattle.radix_tree.proofs.NumberLaws.{proper, one_range}
use Rattle.radix_tree.proofs.NodeLaws.{node_within, root_node}
use Rattle.radix_tree.proofs.RowLaws.{node_is}
use Rattle.radix_tree.proofs.DescentLaws.{row_range}
use Rattle.octree_cells.specs.declared.cell.Cell.{Cell}
use Rattle.octree_cells.specs.CellsOf.{cells_of}
use Rattle.octree_cells.specs.Levels.{shared_level, IsApart, cell_over, cells_in}
use Rattle.octree_cells.proofs.Runs.{cells_of_run, cells_of_one}
use Rattle.octree_cells.proofs.Parting.{cells_in-parted, left_apart, right_apart, run_from_shared, one_run, cells_of-whole, cells_of-empty, whole_apart}

-- a node's range lies among the keys, and its split parts it
record IsParted (keys : List Key) (node : Node) : Type 0 where
  low : node.first ≤ node.split
  high : node.split < node.last
  within : node.last < length keys

module _ (t : Contents) (table : IsTable t) (level : ℕ) (deep : level ≤ LEVELS) where
  -- fewer than two keys have no cell
  pub no_cells : length t.nodes ≡ 0 → cells_of t.keys level ≡ []
  no_cells none = elim (cases_eq (length t.keys) 0) [
    | inl e ↦ cells_of-empty t.keys level e
    | inr ne ↦
        let last : 0 ≡ length t.keys - 1 = omega (arith, table.count) in
        cells_of-whole t.keys level (omega arith)
        ∙ cells_of_one t.keys table.lawful level deep 0 (length t.keys - 1)
        (one_run t.keys level 0 (length t.keys - 1) last (omega arith) (whole_apart t.keys level)) last
  ]

  -- a range of a child is its only one
  same_range : (child : Child) (a b c d : ℕ) → HasRange t.keys child a b → HasRange t.keys child c d →
      (a ≡ c) × (b ≡ d)
  same_range (Leaf p) a b c d (x, y) (z, w) = (sym x ∙ z, sym y ∙ w)
  same_range (Inner i) a b c d x y = one_range t.keys table.lawful x y

  -- so where one range stands alone, so do all
  pub apart_from : (child : Child) (c d : ℕ) → HasRange t.keys child c d → IsApart t.keys level c d → (a b : ℕ) →
      HasRange t.keys child a b → IsApart t.keys level a b
  apart_from child c d r apart a b s =
      let same = same_range child c d a b r s in
      subst (λ z. IsApart t.keys level a z) same.1 (subst (λ z. IsApart t.keys level z d) same.0 apart)

  -- the root stands alone
  pub root_apart : (a b : ℕ) → IsNode t.keys 0 a b → IsApart t.keys level a b
  root_apart a b d =
      let lt = proper t.keys table.lawful d in
      let h = node_within t.keys table.lawful d in
      let root = root_node t.keys table.lawful (length t.keys - 1) refl (omega arith) in
      apart_from (Inner 0) 0 (length t.keys - 1) root (whole_apart t.keys level) a b d

  -- the cells of the whole range are all, added to none or others
  pub root_adds_all : 0 < length t.nodes → (before after : List Cell) →
      ((a b : ℕ) → IsNode t.keys 0 a b → after ≡ before ++ cells_in t.keys level a b) →
      after ≡ before ++ cells_of t.keys level
  root_adds_all some before after added =
      added 0 (length t.keys - 1)
      (root_node t.keys table.lawful (length t.keys - 1) refl (omega (arith, table.count)))
      ∙ ap (λ xs. before ++ xs) (sym (cells_of-whole t.keys level (omega (arith, table.count))))

  -- one key adds no cell
  pub leaf_adds_none : (p : ℕ) → p < length t.keys → (before : List Cell) (a b : ℕ) → HasRange t.keys (Leaf p) a b →
      IsApart t.keys level a b → before ≡ before ++ cells_in t.keys level a b
  leaf_adds_none p h before a b (e, f) apart =
      let one : a ≡ b = sym e ∙ f in
      sym (ap (λ xs. before ++ xs)
      (cells_of_one t.keys table.lawful level deep a b (one_run t.keys level a b one (omega arith) apart) one)
      ∙ append-nil before)

  module _ (k : ℕ) (inside : k < length t.nodes) where
    -- the node of that number
    abbrev node : Node
    node = node_at t.nodes k

    -- its range lies among the keys, and its split in it
    parted : IsParted t.keys node
    parted =
        let row = table.each k inside in
        let order = proper t.keys table.lawful row.range in
        let within = node_within t.keys table.lawful row.range in
        let q = split_laws t.keys table.lawful node.first node.last node.split order within (sym row.part) in
        record { low = q.low; high = q.high; within = within }

    -- a node that was read is that of the table
    pub read_is : (nodes : List Node) (x : Node) → nodes ≡ t.nodes → x ≡ get_or nodes k x → x ≡ node
    read_is nodes x same e =
        node_is nodes k x (subst (λ xs. k < length xs) (sym same) inside) e ∙ ap (λ xs. node_at xs k) same

    -- so its range lies among the keys
    pub first_within : (x : Node) → x ≡ node → x.first < length t.keys
    first_within x e = omega (arith, ap (λ y. y.first) e, parted.low, parted.high, parted.within)

    -- to its end
    pub last_within : (x : Node) → x ≡ node → x.last < length t.keys
    last_within x e = omega (arith, ap (λ y. y.last) e, parted.within)

    -- and shares what the table's node does
    pub read_shares : (keys : List Key) (x : Node) → keys ≡ t.keys → x ≡ node →
        shared_level keys x.first x.last ≡ shared_level t.keys node.first node.last
    read_shares keys x same e =
        ap (λ ks. shared_level ks x.first x.last) same ∙ ap (λ y. shared_level t.keys y.first y.last) e

    -- and its cell is the table's node's
    pub read_cell : (x : Node) → x ≡ node →
        cell_over t.keys level x.first x.last ≡ cell_over t.keys level node.first node.last
    read_cell x e = ap (λ y. cell_over t.keys level y.first y.last) e

    -- its split is that of its range
    split_is : split t.keys node.first node.last ≡ node.split
    split_is = sym (table.each k inside).part

    -- a node's range stands alone where each of it as a child does
    pub own_apart : (child : Child) → child ≡ Inner k →
        ((a b : ℕ) → HasRange t.keys child a b → IsApart t.keys level a b) →
        IsApart t.keys level node.first node.last
    own_apart child is apart = apart node.first node.last
        (subst (λ x. HasRange t.keys x node.first node.last) (sym is) (table.each k inside).range)

    -- a node whose keys share the level is a cell
    pub node_adds_cell : level ≤ shared_level t.keys node.first node.last → (cell : Cell) →
        cell ≡ cell_over t.keys level node.first node.last → (before after : List Cell) → after ≡ before ++ cell ∷ [] →
        IsApart t.keys level node.first node.last → (a b : ℕ) → IsNode t.keys k a b →
        after ≡ before ++ cells_in t.keys level a b
    node_adds_cell shared cell e before after grown apart a b d =
        let row = row_range t table k a b d in
        let order : node.first < node.last = omega (arith, parted.low, parted.high) in
        let run = run_from_shared t.keys table.lawful level deep node.first node.last (omega arith) parted.within shared
        apart in
        grown
        ∙ ap (λ xs. before ++ xs) (ap (λ c. c ∷ []) e
        ∙ (sym (cells_of_run t.keys table.lawful level deep node.first node.last run order)
        ∙ (ap (cells_in t.keys level node.first) row.2 ∙ ap (λ z. cells_in t.keys level z b) row.1)))

    -- at any other the left child's cells are added, and then the right one's
    pub node_adds_both : (before middle after : List Cell) →
        middle ≡ before ++ cells_in t.keys level node.first node.split →
        after ≡ middle ++ cells_in t.keys level (node.split + 1) node.last → (a b : ℕ) → IsNode t.keys k a b →
        after ≡ before ++ cells_in t.keys level a b
    node_adds_both before middle after on_left on_right a b d =
        let row = row_range t table k a b d in
        let first = cells_in t.keys level node.first node.split in
        let then = cells_in t.keys level (node.split + 1) node.last in
        let whole = sym (cells_in-parted t.keys level node.first node.split node.last parted.low parted.high)
        ∙ (ap (cells_in t.keys level node.first) row.2 ∙ ap (λ z. cells_in t.keys level z b) row.1) in
        on_right ∙ (ap (λ xs. xs ++ then) on_left ∙ (append_assoc before first then ∙ ap (λ xs. before ++ xs) whole))

    -- where a node's keys do not share the level, the range of its left child stands alone
    pub left_alone : shared_level t.keys node.first node.last < level → IsApart t.keys level node.first node.last →
        IsApart t.keys level node.first node.split
    left_alone less apart = left_apart t.keys table.lawful level deep node.first node.last node.split
        (omega (arith, parted.low, parted.high)) parted.within split_is less apart

    -- so does that of its right child
    pub right_alone : shared_level t.keys node.first node.last < level → IsApart t.keys level node.first node.last →
        IsApart t.keys level (node.split + 1) node.last
    right_alone less apart = right_apart t.keys table.lawful level deep node.first node.last node.split
        (omega (arith, parted.low, parted.high)) parted.within split_is less apart
