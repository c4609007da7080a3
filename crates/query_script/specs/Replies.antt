-- The texts of replies, byte for byte.
use Rattle.std.specs.Prelude.{ℕ, Bool, true, false, List, [], ◌∷◌, ◌++◌, length, map, codes, decimal}
use Rattle.std.specs.Fmt.{signed_decimal}
use Rattle.fixed_box.specs.declared.shapes.Point.{Point}
use Rattle.fixed_box.specs.declared.shapes.Box3.{Box3}
use Rattle.radix_tree.specs.declared.nodes.Node.{Node}
use Rattle.octree_cells.specs.declared.cell.Cell.{Cell}
use Rattle.segment_hit.specs.HitOf.{Ratio}
use Rattle.query_script.specs.declared.faults.LineFault.{LineFault}
use Rattle.query_script.specs.declared.groups.GroupCount.{GroupCount}
use Rattle.query_script.specs.declared.replies.Reply.{Reply}
use Rattle.query_script.specs.declared.replies.Reply.TheVariants.{Nothing, Overlaps, Hit, Miss, Moved, Refitted, Rebuilt, NodeIs, CellsAre, GroupsAre, StatIs, WorkIs, Refused}
use Rattle.query_script.specs.Reasons.{fault_text}

-- each word behind a space
abbrev pub spaced : List (List ℕ) → List ℕ
spaced [] = []
spaced (word ∷ words) = codes " " ++ (word ++ spaced words)

-- a line of words: the first, the others each behind a space, and a line feed
abbrev pub line_of : List ℕ → List (List ℕ) → List ℕ
line_of first words = first ++ (spaced words ++ codes "\n")

-- a count, and where it is not 0 a colon and the numbers that it counts
abbrev pub counted_words : List ℕ → List (List ℕ)
counted_words [] = decimal 0 ∷ []
counted_words (n ∷ ns) = (decimal (length (n ∷ ns)) ++ codes ":") ∷ map decimal (n ∷ ns)

-- a fraction
unfoldable pub ratio_word : Ratio → List ℕ
ratio_word at = signed_decimal at.num ++ (codes "/" ++ signed_decimal at.den)

-- the names of groups, each with its count of triangles
abbrev pub tally_words : List GroupCount → List (List ℕ)
tally_words [] = []
tally_words (g ∷ gs) = g.name ∷ decimal g.count ∷ tally_words gs

-- a count of groups, and where it is not 0 a colon and the groups
abbrev pub group_words : List GroupCount → List (List ℕ)
group_words [] = decimal 0 ∷ []
group_words (g ∷ gs) = (decimal (length (g ∷ gs)) ++ codes ":") ∷ tally_words (g ∷ gs)

-- the coordinates of a point
abbrev pub point_words : Point → List (List ℕ)
point_words p = signed_decimal p.x ∷ signed_decimal p.y ∷ signed_decimal p.z ∷ []

-- the corners of a box
abbrev pub box_words : Box3 → List (List ℕ)
box_words b = point_words b.lo ++ point_words b.hi

-- the range of a node, and its split
abbrev pub range_words : Node → List (List ℕ)
range_words node = decimal node.first ∷ decimal node.last ∷ decimal node.split ∷ []

-- what is told of a node: its range, its split and its box
abbrev pub node_words : Node → List (List ℕ)
node_words node = range_words node ++ box_words node.fit

-- the prefixes of cells
abbrev pub prefixes : List Cell → List ℕ
prefixes cells = map (λ cell. cell.prefix) cells

-- the counts behind the words that name them
abbrev pub stat_words : ℕ → ℕ → ℕ → ℕ → List (List ℕ)
stat_words triangles nodes height cells =
    decimal triangles ∷ codes "nodes" ∷ decimal nodes ∷ codes "height" ∷ decimal height ∷ codes "cells"
    ∷ decimal cells ∷ []

-- the line of this number is refused
abbrev pub refusal_text : ℕ → LineFault → List ℕ
refusal_text line fault = codes "line " ++ (decimal line ++ (codes ": " ++ (fault_text fault ++ codes "\n")))

-- the reply to the line of this number
abbrev pub reply_text : ℕ → Reply → List ℕ
reply_text line Nothing = []
reply_text line (Overlaps ns) = line_of (codes "overlaps") (counted_words ns)
reply_text line (Hit tri at) = line_of (codes "hit") (decimal tri ∷ ratio_word at ∷ [])
reply_text line Miss = codes "miss\n"
reply_text line (Moved vertex) = line_of (codes "moved") (decimal vertex ∷ [])
reply_text line Refitted = codes "refitted\n"
reply_text line Rebuilt = codes "rebuilt\n"
reply_text line (NodeIs number node) = line_of (codes "node") (decimal number ∷ node_words node)
reply_text line (CellsAre level cells) = line_of (codes "cells") (decimal level ∷ counted_words (prefixes cells))
reply_text line (GroupsAre groups) = line_of (codes "groups") (group_words groups)
reply_text line (StatIs triangles nodes height cells) =
    line_of (codes "triangles") (stat_words triangles nodes height cells)
reply_text line (WorkIs work) = line_of (codes "work") (decimal work ∷ [])
reply_text line (Refused fault) = refusal_text line fault

-- the reply is a refusal
abbrev pub is_refused : Reply → Bool
is_refused (Refused fault) = true
is_refused Nothing = false
is_refused (Overlaps ns) = false
is_refused (Hit tri at) = false
is_refused Miss = false
is_refused (Moved vertex) = false
is_refused Refitted = false
is_refused Rebuilt = false
is_refused (NodeIs number node) = false
is_refused (CellsAre level cells) = false
is_refused (GroupsAre groups) = false
is_refused (StatIs triangles nodes height cells) = false
is_refused (WorkIs work) = false
