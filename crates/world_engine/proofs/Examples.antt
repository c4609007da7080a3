-- Worked values, tried on the definitions alone: of codes, of the tree over eight keys, and of whole outputs.
use Rattle.std.proofs.Common.{◌≡◌, ℕ, ◌+◌, ◌*◌, ◌^◌, pos, refl, List, [], ◌∷◌, ◌++◌, Some, None}
use Rattle.std.specs.Prelude.{codes, decimal}
use Rattle.fixed_box.specs.declared.shapes.Tri.{Tri}
use Rattle.fixed_box.specs.Extent.{point_box, union_of, corner_box, tri_box, crosses, boxes_meet}
use Rattle.morton_key.specs.declared.keys.Key.{Key}
use Rattle.morton_key.specs.Bits.{prefix, differing}
use Rattle.morton_key.specs.Codes.{interleaved, raised, middle, code_of}
use Rattle.morton_key.specs.Keys.{key_at, code_at}
use Rattle.morton_key.specs.Measure.{measure}
use Rattle.morton_key.specs.Order.{keys_from, is_before, put_key, sorted_keys, order_of}
use Rattle.radix_tree.specs.Split.{last_clear, split}
use Rattle.radix_tree.specs.Shape.{Row, grown, shape_in, shape_of, height_of, rows, row_at}
use Rattle.radix_tree.specs.Table.{no_box, no_node, node_at}
use Rattle.radix_tree.specs.Fit.{box_of_triangle, boxes_in, joined, least_box_of, node_of_row, nodes_from, table_of}
use Rattle.segment_hit.specs.HitOf.{greatest_from, lowest_terms, shares_of, negated, faced, is_inside, fraction_of, hit_of}
use Rattle.traversal.specs.NearestOf.{ratio_le, nearer_of, numbered_hit, nearest_from, nearest_of}
use Rattle.traversal.specs.Overlaps.{overlaps_from, overlaps_of, is_at_or_above, is_reached, count_reached, work_of}
use Rattle.query_script.specs.Asks.{steps_of}
use Rattle.query_script.specs.Replies.{line_of, ratio_word, refusal_text}
use Rattle.query_script.specs.declared.faults.LineFault.TheVariants.{UnknownWord, WrongCount, NotANumber, OutOfRange, NoSuchNode}
use Rattle.world_engine.specs.declared.status.Status.TheVariants.{Done, MeshRefused, LinesRefused}
use Rattle.world_engine.specs.Outputs.{says, file_output}

-- ---- codes and keys

-- the triangle (0,0,0), (4,0,0), (0,4,0)
abbrev small : Tri
small = record {
  a = record { x = pos 0; y = pos 0; z = pos 0 };
  b = record { x = pos 4; y = pos 0; z = pos 0 };
  c = record { x = pos 0; y = pos 4; z = pos 0 };
}

-- its middle is (2,2,0), and 131072 is 2^17
code_of_small : code_of (tri_box small) ≡ 7 * 2 ^ 51 + 48
unfolding code_of interleaved middle raised tri_box corner_box point_box union_of
code_of_small = refl

-- a key with that code and number
abbrev key : ℕ → ℕ → Key
key code tri = record { code = code; tri = tri }

-- keys with these codes
abbrev eight : List Key
eight = key 1 1 ∷ key 2 2 ∷ key 4 3 ∷ key 5 4 ∷ key 19 5 ∷ key 24 6 ∷ key 25 7 ∷ key 30 8 ∷ []

-- neighbours of eight are measured by the bits that their codes share
first_measure : measure eight 0 1 ≡ 52
unfolding measure prefix code_at key_at
first_measure = refl

-- the next two share one bit fewer
second_measure : measure eight 1 2 ≡ 51
unfolding measure prefix code_at key_at
second_measure = refl

-- the two in the middle share fewer still
middle_measure : measure eight 3 4 ≡ 49
unfolding measure prefix code_at key_at
middle_measure = refl

-- equal codes are measured by their positions
equal_codes : measure (key 9 1 ∷ key 9 2 ∷ []) 0 1 ≡ 73
unfolding measure prefix code_at key_at
equal_codes = refl

-- ---- the tree

-- a row of the table of nodes
abbrev row : ℕ → ℕ → ℕ → ℕ → Row
row number first last parted = record { number = number; first = first; last = last; split = parted }

-- its nodes from the top, each with its range and split
rows_of_eight
    : rows 0 (shape_of eight)
    ≡ row 0 0 7 3 ∷ row 3 0 3 1 ∷ row 1 0 1 0 ∷ row 2 2 3 2 ∷ row 4 4 7 4 ∷ row 5 5 7 6 ∷ row 6 5 6 5 ∷ []
unfolding rows shape_of shape_in grown split last_clear differing code_at key_at
rows_of_eight = refl

-- and its height
height_of_eight : height_of (shape_of eight) ≡ 4
unfolding height_of shape_of shape_in grown split last_clear differing code_at key_at
height_of_eight = refl

-- five equal codes are parted by the bits of their positions, not in their middle
five_equal_codes : split (key 7 1 ∷ key 7 2 ∷ key 7 3 ∷ key 7 4 ∷ key 7 5 ∷ []) 0 4 ≡ 3
unfolding split last_clear differing code_at key_at
five_equal_codes = refl

-- ---- whole outputs

-- lines, one behind the other
abbrev all : List (List ℕ) → List ℕ
all [] = []
all (line ∷ lines) = line ++ all lines

-- a count with its colon
abbrev count : ℕ → List ℕ
count n = decimal n ++ codes ":"

-- a mesh of that triangle
abbrev once : List ℕ
once = codes "v 0 0 0\nv 4 0 0\nv 0 4 0\nf 1 2 3\n"

-- and of that triangle twice
abbrev twice : List ℕ
twice = once ++ codes "f 1 2 3\n"

boxes_touch
    : file_output 1 (Some once) (Some (codes "box 4 4 0 9 9 0\nwork\n"))
    ≡ Some (says (all
    (line_of (codes "overlaps") (count 1 ∷ decimal 1 ∷ []) ∷ line_of (codes "work") (decimal 1 ∷ []) ∷ [])) Done)
unfolding steps_of overlaps_of overlaps_from boxes_meet crosses tri_box corner_box point_box union_of
    order_of sorted_keys put_key is_before keys_from code_of interleaved middle raised work_of
boxes_touch = refl

struck
    : file_output 1 (Some twice) (Some (codes "seg 1 1 -1 1 1 1\nseg 1 1 1 1 1 3"))
    ≡ Some (says (all
    (line_of (codes "hit") (decimal 1 ∷ (decimal 1 ++ (codes "/" ++ decimal 2)) ∷ []) ∷ codes "miss\n" ∷ [])) Done)
unfolding steps_of nearest_of nearest_from numbered_hit nearer_of ratio_le ratio_word
    hit_of fraction_of faced shares_of negated is_inside lowest_terms greatest_from
struck = refl

refused_lines
    : file_output 1 (Some once)
    (Some (codes "frob 1\nseg 1 2 3\nbox a 0 0 1 1 1\n# none\nbox 2147483648 0 0 0 0 0\nnode 0\n"))
    ≡ Some (says (all
    (refusal_text 1 UnknownWord ∷ refusal_text 2 WrongCount ∷ refusal_text 3 NotANumber ∷ [] ∷ refusal_text 5 OutOfRange
    ∷ refusal_text 6 NoSuchNode ∷ [])) LinesRefused)
unfolding steps_of table_of nodes_from order_of sorted_keys put_key is_before keys_from code_of interleaved middle
    raised tri_box corner_box point_box union_of
refused_lines = refl

refused_mesh
    : file_output 64 (Some (codes "v 0 0 0\nv 1 2\n")) None
    ≡ Some (says (codes "mesh line " ++ (decimal 2 ++ codes ": too few words\n")) MeshRefused)
refused_mesh = refl

-- a square floor and a ramp, as exporters write them
abbrev level : List ℕ
level = codes "# level\nmtllib level.mtl\no Floor\nv 0.000000 0.000000 0.000000\nv 4.000000 0.000000 0.000000\n"
    ++ codes "v 4.000000 4.000000 0.000000\nv 0.000000 4.000000 0.000000\n"
    ++ codes "vt 0.000000 0.000000\nvn 0.0000 0.0000 1.0000\n"
    ++ codes "usemtl Stone\ns off\nf 1/1/1 2/1/1 3/1/1 4/1/1\no Ramp\nv 4.000000 0.000000 0.000000\n"
    ++ codes "v 6.500000 0.000000 1.250000\nv 6.500000 4.000000 1.250000\n"
    ++ codes "v 4.000000 4.000000 0.000000\nf 5//1 6//1 7//1 8//1\n"

-- the corners of a box in the plane z = 0, or with its top above it
abbrev from_floor : ℕ → ℕ → ℕ → ℕ → List (List ℕ)
from_floor x to y top = decimal x ∷ decimal 0 ∷ decimal 0 ∷ decimal to ∷ decimal y ∷ decimal top ∷ []

level_answers
    : file_output 64 (Some level) (Some (codes "groups\nbox 3 1 -1 3.5 2 1\nwork\nnode 0\nnode 2\n"))
    ≡ Some (says (all
    (line_of (codes "groups") (count 2 ∷ codes "Floor" ∷ decimal 2 ∷ codes "Ramp" ∷ decimal 2 ∷ [])
    ∷ line_of (codes "overlaps") (count 2 ∷ decimal 1 ∷ decimal 2 ∷ [])
    ∷ line_of (codes "work") (decimal 5 ∷ [])
    ∷ line_of (codes "node") (decimal 0 ∷ decimal 0 ∷ decimal 3 ∷ decimal 1 ∷ from_floor 0 416 256 80)
    ∷ line_of (codes "node") (decimal 2 ∷ decimal 2 ∷ decimal 3 ∷ decimal 2 ∷ from_floor 256 416 256 80)
    ∷ [])) Done)
unfolding steps_of overlaps_of overlaps_from boxes_meet crosses tri_box corner_box point_box union_of
    order_of sorted_keys put_key is_before keys_from code_of interleaved middle raised
    work_of count_reached is_reached is_at_or_above table_of nodes_from node_of_row least_box_of joined boxes_in
    box_of_triangle no_box no_node node_at
    row_at rows shape_of shape_in grown split last_clear differing code_at key_at
level_answers = refl
