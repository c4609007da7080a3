-- What one joined line of a mesh text gives, or the first fault of it in the order of its checks.
use Rattle.std.specs.Prelude.{ℕ, ◌+◌, ◌-◌, Bool, true, false, List, [], ◌∷◌, ◌==◌, ◌||◌, ◌&&◌, nat_lt, nat_le, not, length, if◌then◌else◌, ℤ, neg_ℤ, int_lt, int_le, codes, Result, Ok, Err}
use Rattle.std.specs.Str.{bytes_eq}
use Rattle.fixed_box.specs.declared.shapes.Point.{Point}
use Rattle.fixed_box.specs.declared.shapes.TheConstants.{HALF}
use Rattle.text_words.specs.Lines.{is_word}
use Rattle.text_words.specs.Numbers.{value_after, starts_minus, digits_of, past_digits, past_sign}
use Rattle.decimals.specs.Values.{grid_of}
use Rattle.decimals.specs.declared.fault.NumberFault.{NumberFault}
use Rattle.obj_text.specs.declared.face.Face.{Face}
use Rattle.obj_text.specs.declared.fault.Why.{Why}
use Rattle.obj_text.specs.declared.fault.Why.TheVariants.{NotANumber, NumberTooLong, Outside, TooFewWords, BadReference, NoSuchVertex, TooManyVertices, TooManyTriangles}
use Rattle.obj_text.specs.declared.limits.TheConstants.{MOST_POINTS, MOST_FACES}

-- what a value gives where there is no fault, else the fault
abbrev pub onward : {A B : Type 0} → Result A Why → (A → Result B Why) → Result B Why
onward (Ok x) f = f x
onward (Err why) f = Err why

-- a number of grid steps, where it is a coordinate of the world
abbrev pub in_world : ℤ → Result ℤ Why
in_world x = if int_le (neg_ℤ HALF) x && int_lt x HALF then Ok x else Err Outside

-- the coordinate of a grid value
abbrev pub coordinate : Result ℤ NumberFault → Result ℤ Why
coordinate (Ok x) = in_world x
coordinate (Err NumberFault.NotANumber) = Err NotANumber
coordinate (Err NumberFault.TooLong) = Err NumberTooLong

-- the coordinate that a word writes, with so many grid steps to its unit
abbrev pub coordinate_of : ℕ → List ℕ → Result ℤ Why
coordinate_of unit word = coordinate (grid_of unit word)

-- the point that three words write
abbrev pub point_of : ℕ → List ℕ → List ℕ → List ℕ → Result Point Why
point_of unit x y z =
    onward (coordinate_of unit x) (λ a.
    onward (coordinate_of unit y) (λ b.
    onward (coordinate_of unit z) (λ c. Ok (record { x = a; y = b; z = c }))))

-- a number stands at the front: an optional sign, and digits; and what follows it
abbrev pub has_number : List ℕ → Bool
has_number text = is_word (digits_of (past_sign text))

abbrev pub past_number : List ℕ → List ℕ
past_number text = past_digits (past_sign text)

-- a part stands at the front: a '/', with a number behind it or with nothing; and what follows it
abbrev pub has_part : List ℕ → Bool
has_part [] = false
has_part (b ∷ bs) = b == 47

abbrev pub past_part : List ℕ → List ℕ
past_part [] = []
past_part (b ∷ bs) = if has_number bs then past_number bs else bs

-- nothing, or one part; nothing, or one or two parts
abbrev pub at_most_one_part : List ℕ → Bool
at_most_one_part text = not (is_word text) || (has_part text && not (is_word (past_part text)))

abbrev pub at_most_two_parts : List ℕ → Bool
at_most_two_parts text = not (is_word text) || (has_part text && at_most_one_part (past_part text))

-- a number, and up to two parts
abbrev pub is_reference : List ℕ → Bool
is_reference word = has_number word && at_most_two_parts (past_number word)

-- the position of the vertex that a number names, in a text with so many vertices, of which so many stand before this
-- line; numbers count from 1, those with a minus back from this line, and positions count from 0
abbrev pub position : ℕ → ℕ → Bool → ℕ → Result ℕ Why
position vertices before true number =
    if nat_lt 0 number && nat_le number before then Ok (before - number) else Err NoSuchVertex
position vertices before false number =
    if nat_lt 0 number && nat_le number vertices then Ok (number - 1) else Err NoSuchVertex

-- the position of the vertex that a word names
abbrev pub position_of : ℕ → ℕ → List ℕ → Result ℕ Why
position_of vertices before word =
    if is_reference word
    then position vertices before (starts_minus word) (value_after 0 (digits_of (past_sign word)))
    else Err BadReference

-- the positions that words name, or the fault of the first that has one
abbrev pub positions_of : ℕ → ℕ → List (List ℕ) → Result (List ℕ) Why
positions_of vertices before [] = Ok []
positions_of vertices before (word ∷ words) =
    onward (position_of vertices before word) (λ corner.
    onward (positions_of vertices before words) (λ corners. Ok (corner ∷ corners)))

-- the triangles of a first corner with each two that follow one another
abbrev pub fan_from : ℕ → ℕ → List ℕ → List Face
fan_from first last [] = []
fan_from first last (next ∷ corners) = record { a = first; b = last; c = next } ∷ fan_from first next corners

abbrev pub fan : List ℕ → List Face
fan [] = []
fan (first ∷ []) = []
fan (first ∷ second ∷ corners) = fan_from first second corners

-- what a line gives
pub data Given : Type 0 where
  Nothing : Given
  Vertex : Point → Given
  Triangles : List Face → Given
  GroupName : List ℕ → Given

-- a vertex behind so many others
abbrev pub one_more_vertex : ℕ → Point → Result Given Why
one_more_vertex before point = if nat_lt before MOST_POINTS then Ok (Vertex point) else Err TooManyVertices

-- triangles behind so many others
abbrev pub more_triangles : ℕ → List Face → Result Given Why
more_triangles before faces =
    if nat_le (before + length faces) MOST_FACES then Ok (Triangles faces) else Err TooManyTriangles

-- what stands behind the word `v`, behind so many vertices: the words after the third are not read
abbrev pub vertex_of : ℕ → ℕ → List (List ℕ) → Result Given Why
vertex_of unit before (x ∷ y ∷ z ∷ words) = onward (point_of unit x y z) (one_more_vertex before)
vertex_of unit before words = Err TooFewWords

-- what stands behind the word `f`, in a text with so many vertices, behind so many vertices and triangles
abbrev pub triangles_of : ℕ → ℕ → ℕ → List (List ℕ) → Result Given Why
triangles_of vertices before triangles (x ∷ y ∷ z ∷ words) =
    onward (positions_of vertices before (x ∷ y ∷ z ∷ words)) (λ corners. more_triangles triangles (fan corners))
triangles_of vertices before triangles words = Err TooFewWords

-- the name behind the word `g` or `o`
abbrev pub name_of : List (List ℕ) → List ℕ
name_of [] = codes "default"
name_of (word ∷ words) = word

-- what a line gives by its first word
abbrev pub given_by : ℕ → ℕ → ℕ → ℕ → List ℕ → List (List ℕ) → Result Given Why
given_by unit vertices before triangles keyword words =
    if bytes_eq keyword (codes "v") then vertex_of unit before words
    else (if bytes_eq keyword (codes "f") then triangles_of vertices before triangles words
    else (if bytes_eq keyword (codes "g") || bytes_eq keyword (codes "o") then Ok (GroupName (name_of words))
    else Ok Nothing))

-- what a line gives, in a text with so many vertices, behind so many vertices and triangles
abbrev pub given_of : ℕ → ℕ → ℕ → ℕ → List (List ℕ) → Result Given Why
given_of unit vertices before triangles [] = Ok Nothing
given_of unit vertices before triangles (keyword ∷ words) = given_by unit vertices before triangles keyword words

-- the line begins with the word `v`, whether it has a fault or not
abbrev pub is_vertex : List (List ℕ) → Bool
is_vertex [] = false
is_vertex (keyword ∷ words) = bytes_eq keyword (codes "v")

-- the vertices that a line gives, and its triangles
abbrev pub points_of : Given → List Point
points_of (Vertex point) = point ∷ []
points_of Nothing = []
points_of (Triangles faces) = []
points_of (GroupName name) = []

abbrev pub faces_of : Given → List Face
faces_of (Triangles faces) = faces
faces_of Nothing = []
faces_of (Vertex point) = []
faces_of (GroupName name) = []

-- the current name behind a line, where it was this name before it
abbrev pub name_after : List ℕ → Given → List ℕ
name_after name (GroupName next) = next
name_after name Nothing = name
name_after name (Vertex point) = name
name_after name (Triangles faces) = name
