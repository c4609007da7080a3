-- A table of nodes while it is written from the packets of their children. No public clause cites this module.
use Rattle.std.specs.Prelude.{ℕ, suc, ◌≡◌, ◌<◌, ◌≤◌, ◌+◌, ◌-◌, ◌⊎◌, Bool, List, length, slice_set, Option, Some, None}
use Rattle.fixed_box.specs.declared.shapes.Box3.{Box3}
use Rattle.fixed_box.specs.Extent.{union_of}
use Rattle.morton_key.specs.declared.keys.Key.{Key}
use Rattle.radix_tree.specs.declared.nodes.Node.{Node}
use Rattle.radix_tree.specs.Split.{split}
use Rattle.radix_tree.specs.Ranges.{IsNode}
use Rattle.radix_tree.specs.Filling.{HasRow}
use Rattle.arrival_core.specs.declared.packets.Packet.{Packet}
use Rattle.box_handoff.specs.declared.fitted.Fitted.{Fitted}
use Rattle.box_handoff.specs.declared.slots.SlotPacket.{SlotPacket}
use Rattle.box_handoff.specs.declared.views.Given.{Given}
use Rattle.box_handoff.specs.Gathering.{HasBefore}
use Rattle.box_handoff.specs.Packets.{AreFitted}

-- the row that a packet tells
abbrev pub row : Packet → Node
row p = record { first = p.first; last = p.last; split = p.split; fit = p.fit }

-- the row of a child is put at its number, where the child is inner
abbrev pub PutsChild : List Node → List Node → ℕ → Packet → Type 0
PutsChild old new number p =
    ((p.first < p.last) × (new ≡ slice_set old number (row p))) ⊎ ((p.last ≤ p.first) × (new ≡ old))

-- the root's row, from the packets of its children
abbrev pub root_row : ℕ → Packet → Packet → Node
root_row s l r = record { first = 0; last = r.last; split = s; fit = union_of l.fit r.fit }

-- whether these are the packets of the root's children
abbrev pub IsRoot : List Node → Packet → Packet → Type 0
IsRoot nodes l r = (l.first ≡ 0) × (r.last ≡ length nodes)

-- the root's row is put at 0, where they are
abbrev pub PutsRoot : List Node → List Node → ℕ → Packet → Packet → Type 0
PutsRoot old new s l r = (IsRoot old l r × (new ≡ slice_set old 0 (root_row s l r))) ⊎
    ((¬ IsRoot old l r) × (new ≡ old))

-- both children's rows and the root's are put, one after another
abbrev pub PutsRows : List Node → List Node → ℕ → Packet → Packet → Type 0
PutsRows old new t l r = (b c : List Node) × PutsChild old b t l × PutsChild b c (t + 1) r × PutsRoot c new t l r

-- the row of a child that was taken out of its slot is put at its number
abbrev pub PutsSlot : List Node → List Node → ℕ → Option Packet → Type 0
PutsSlot old new number (Some p) = new ≡ slice_set old number (row p)
PutsSlot old new number None = new ≡ old

-- where a left child begins, and a right one ends, by what was taken of it: a leaf has no slot
abbrev pub first_taken : ℕ → Option Packet → ℕ
first_taken split (Some p) = p.first
first_taken split None = split

abbrev pub last_taken : ℕ → Option Packet → ℕ
last_taken split (Some p) = p.last
last_taken split None = split + 1

-- the rows of all children of nodes with a split below t are there, and the root's, if its split is below t
pub record AreWritten (keys : List Key) (boxes : List Box3) (t : ℕ) (nodes : List Node) : Type 0 where
  pub lefts : (i a b s : ℕ) → IsNode keys i a b → split keys a b ≡ s → a < s → s < t → HasRow keys boxes nodes s
  pub rights : (i a b s : ℕ) → IsNode keys i a b → split keys a b ≡ s → suc s < b → s < t →
      HasRow keys boxes nodes (suc s)
  pub root : (b : ℕ) → 0 < b → suc b ≡ length keys → split keys 0 b < t → HasRow keys boxes nodes 0

-- whatever boxes the packets are fitted to
pub record IsWriting (keys : List Key) (x : Fitted) (t : ℕ) (nodes : List Node) : Type 0 where
  pub count : length nodes ≡ length keys - 1
  pub written : (boxes : List Box3) → length boxes ≡ length keys → AreFitted keys boxes x →
      AreWritten keys boxes t nodes

-- while rows are written out of a closed table over all leaves
pub record IsWritingOut (g : Given) (slots : List SlotPacket) (filled : List Bool) (places : ℕ)
    (here : SlotPacket) (t : ℕ) (nodes : List Node) : Type 0 where
  pub taking : HasBefore g slots filled places t here
  pub count : length nodes ≡ length g.keys - 1
  pub written : AreWritten g.keys g.boxes t nodes
