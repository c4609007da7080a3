-- Lines that are read as if no vertex stood before them give the same wherever they stand, in each text that has the
-- vertices that their triangles name, and room for theirs.
use Rattle.std.proofs.Common.{◌≡◌, ◌≤◌, ◌<◌, ℕ, ◌+◌, ◌-◌, Bool, true, false, List, [], ◌∷◌, ◌++◌, ◌&&◌, ◌||◌, length, cond, nat_lt, nat_le, refl, sym, ap, ◌∙◌, subst, length-append, arith, Ok, Err, Result, None}
use Rattle.std.specs.Prelude.{codes, Option}
use Rattle.std.specs.Str.{bytes_eq}
use Rattle.std.specs.List.{All}
use Rattle.std.specs.Borrow.{Bor}
use Rattle.std.proofs.lemmas.List.Elements.{All-cons, All-nil, All-head, All-tail}
use Rattle.std.proofs.lemmas.Bool.{and_parts, and_from}
use Rattle.std.proofs.lemmas.Bool.Decides.{nat_tests}
use Rattle.fixed_box.specs.declared.shapes.Point.{Point}
use Rattle.text_words.specs.Numbers.{starts_minus, value_after, digits_of, past_sign}
use Rattle.text_words.specs.Joins.{JoinedLine}
use Rattle.obj_text.specs.Meshes.{IsFaceOf}
use Rattle.obj_text.specs.Rows.{Given, Nothing, Vertex, Triangles, GroupName, onward, point_of, is_reference, position, position_of, positions_of, fan_from, fan, one_more_vertex, more_triangles, vertex_of, triangles_of, name_of, given_of, is_vertex, points_of, faces_of}
use Rattle.obj_text.specs.Texts.{Reading, vertices_of, points_in, faces_in, first_faulty, fault_or, points_read, faces_read}
use Rattle.obj_text.specs.Places.{before, readings_at}
use Rattle.obj_text.specs.Names.{known_names, last_known}
use Rattle.obj_text.specs.Parts.{IsPart}
use Rattle.obj_text.specs.declared.face.Face.{Face}
use Rattle.obj_text.specs.declared.fault.Why.{Why}
use Rattle.obj_text.specs.declared.fault.Why.TheVariants.{NoSuchVertex, BadReference, TooManyVertices, TooManyTriangles}
use Rattle.obj_text.specs.declared.limits.TheConstants.{MOST_POINTS, MOST_FACES}
use Rattle.obj_text.specs.declared.place.Place.{Place}
use Rattle.obj_text.specs.declared.place.Place.TheVariants.{Behind, Anywhere}
use Rattle.obj_text.specs.declared.part.Run.{Run}
use Rattle.obj_text.proofs.Givens.{onward_ok, cond_ok, given_is}
use Rattle.obj_text.proofs.Faultless.{lines_lawful}

-- what holds of all of two lists holds of all of the first
all_left : {A : Type 0} (P : A → Type 0) (xs ys : List A) → All P (xs ++ ys) → All P xs
all_left P [] ys all = All-nil P
all_left P (x ∷ xs) ys all =
    All-cons P x xs (All-head P x (xs ++ ys) all) (all_left P xs ys (All-tail P x (xs ++ ys) all))

-- and of all of the second
all_right : {A : Type 0} (P : A → Type 0) (xs ys : List A) → All P (xs ++ ys) → All P ys
all_right P [] ys all = all
all_right P (x ∷ xs) ys all = all_right P xs ys (All-tail P x (xs ++ ys) all)

-- no number counts back where no vertex stands before the line
none_back : (n : ℕ) → (nat_lt 0 n && nat_le n 0) ≡ true → ⊥
none_back n e = let p = and_parts (nat_lt 0 n) (nat_le n 0) e in grind (arith, nat_tests, p.0, p.1)

-- a number that names one of so many vertices
in_text : (n others vertices corner : ℕ) → (nat_lt 0 n && nat_le n others) ≡ true → n - 1 ≡ corner
    → corner < vertices → (nat_lt 0 n && nat_le n vertices) ≡ true
in_text n others vertices corner e same lt =
    let p = and_parts (nat_lt 0 n) (nat_le n others) e in
    let some : 0 < n = grind (arith, nat_tests, p.0) in
    let small : n ≤ vertices = omega (arith, some, same, lt) in
    let within : nat_le n vertices ≡ true = grind (arith, nat_tests, small) in
    and_from (nat_lt 0 n) (nat_le n vertices) p.0 within

-- a reference, by whether the word is one and begins with a minus
by_sign : (ref minus : Bool) (n others vertices first corner : ℕ)
    → cond ref (position others 0 minus n) (Err BadReference) ≡ Ok corner → corner < vertices
    → cond ref (position vertices first minus n) (Err BadReference) ≡ Ok corner
by_sign false minus n others vertices first corner e lt = absurd (cc)
by_sign true true n others vertices first corner e lt =
    absurd (none_back n (cond_ok (nat_lt 0 n && nat_le n 0) (0 - n) NoSuchVertex corner e).0)
by_sign true false n others vertices first corner e lt =
    let t = cond_ok (nat_lt 0 n && nat_le n others) (n - 1) NoSuchVertex corner e in
    ap (λ k. cond k (Ok (n - 1)) (Err NoSuchVertex)) (in_text n others vertices corner t.0 t.1 lt) ∙ ap Ok t.1

-- a word that names a corner which the text has
position_anywhere : (others vertices first : ℕ) (word : List ℕ) (corner : ℕ)
    → position_of others 0 word ≡ Ok corner → corner < vertices → position_of vertices first word ≡ Ok corner
position_anywhere others vertices first word corner e lt =
    by_sign (is_reference word) (starts_minus word) (value_after 0 (digits_of (past_sign word))) others vertices first
    corner e lt

-- words that do
positions_anywhere : (others vertices first : ℕ) (words : List (List ℕ)) (corners : List ℕ)
    → positions_of others 0 words ≡ Ok corners → All (λ k. k < vertices) corners
    → positions_of vertices first words ≡ Ok corners
positions_anywhere others vertices first [] corners e all = e
positions_anywhere others vertices first (word ∷ words) corners e all =
    let s = onward_ok (position_of others 0 word) _ corners e in
    let t = onward_ok (positions_of others 0 words) _ corners s.2 in
    let same : s.0 ∷ t.0 ≡ corners = cc in
    let each = subst (All (λ k. k < vertices)) (sym same) all in
    ap (λ o. onward o (λ corner. onward (positions_of vertices first words) (λ rest. Ok (corner ∷ rest))))
    (position_anywhere others vertices first word s.0 s.1 (All-head (λ k. k < vertices) s.0 t.0 each))
    ∙ ap (λ o. onward o (λ rest. Ok (s.0 ∷ rest)))
    (positions_anywhere others vertices first words t.0 t.1 (All-tail (λ k. k < vertices) s.0 t.0 each))
    ∙ ap Ok same

-- the corners of a fan behind its second stand in its triangles
fan_from_names : (vertices first last : ℕ) (corners : List ℕ) → All (IsFaceOf vertices) (fan_from first last corners)
    → All (λ k. k < vertices) corners
fan_from_names vertices first last [] all = All-nil (λ k. k < vertices)
fan_from_names vertices first last (next ∷ corners) all =
    let face : Face = record { a = first; b = last; c = next } in
    let here = All-head (IsFaceOf vertices) face (fan_from first next corners) all in
    All-cons (λ k. k < vertices) next corners here.c
    (fan_from_names vertices first next corners
    (All-tail (IsFaceOf vertices) face (fan_from first next corners) all))

-- and so do its first two, where it has three
fan_names : (vertices a b c : ℕ) (corners : List ℕ) → All (IsFaceOf vertices) (fan (a ∷ b ∷ c ∷ corners))
    → All (λ k. k < vertices) (a ∷ b ∷ c ∷ corners)
fan_names vertices a b c corners all =
    let face : Face = record { a = a; b = b; c = c } in
    let here = All-head (IsFaceOf vertices) face (fan_from a c corners) all in
    All-cons (λ k. k < vertices) a (b ∷ c ∷ corners) here.a
    (All-cons (λ k. k < vertices) b (c ∷ corners) here.b (fan_from_names vertices a b (c ∷ corners) all))

-- three words or more that name corners name as many
three_named : (others first : ℕ) (x y z : List ℕ) (words : List (List ℕ)) (corners : List ℕ)
    → positions_of others first (x ∷ y ∷ z ∷ words) ≡ Ok corners
    → (a b c : ℕ) × (rest : List ℕ) × (a ∷ b ∷ c ∷ rest ≡ corners)
three_named others first x y z words corners e =
    let s = onward_ok (position_of others first x) _ corners e in
    let t = onward_ok (positions_of others first (y ∷ z ∷ words)) _ corners s.2 in
    let u = onward_ok (position_of others first y) _ t.0 t.1 in
    let v = onward_ok (positions_of others first (z ∷ words)) _ t.0 u.2 in
    let w = onward_ok (position_of others first z) _ v.0 v.1 in
    let r = onward_ok (positions_of others first words) _ v.0 w.2 in
    let third : w.0 ∷ r.0 ≡ v.0 = cc in
    let second : u.0 ∷ v.0 ≡ t.0 = cc in
    let all : s.0 ∷ t.0 ≡ corners = cc in
    (s.0, u.0, w.0, r.0, ap (λ k. s.0 ∷ u.0 ∷ k) third ∙ ap (λ k. s.0 ∷ k) second ∙ all)

-- triangles of corners, by what these are
corners_anywhere : (corners : Result (List ℕ) Why) (triangles : ℕ) (given : Given)
    → onward corners (λ all. more_triangles triangles (fan all)) ≡ Ok given
    → (all : List ℕ) × (corners ≡ Ok all) × (faces_of given ≡ fan all)
corners_anywhere corners triangles given e =
    let s = onward_ok corners (λ all. more_triangles triangles (fan all)) given e in
    let t = cond_ok (nat_le (triangles + length (fan s.0)) MOST_FACES) (Triangles (fan s.0)) TooManyTriangles given s.2 in
    (s.0, s.1, ap faces_of (sym t.1))

-- a line that begins with `f`
triangles_anywhere : (others vertices first triangles : ℕ) (words : List (List ℕ)) (given : Given)
    → triangles_of others 0 triangles words ≡ Ok given → All (IsFaceOf vertices) (faces_of given)
    → triangles_of vertices first triangles words ≡ Ok given
triangles_anywhere others vertices first triangles [] given e all = absurd (cc)
triangles_anywhere others vertices first triangles (x ∷ []) given e all = absurd (cc)
triangles_anywhere others vertices first triangles (x ∷ y ∷ []) given e all = absurd (cc)
triangles_anywhere others vertices first triangles (x ∷ y ∷ z ∷ words) given e all =
    let s = corners_anywhere (positions_of others 0 (x ∷ y ∷ z ∷ words)) triangles given e in
    let n = three_named others 0 x y z words s.0 s.1 in
    let faces = subst (All (IsFaceOf vertices)) (s.2 ∙ ap fan (sym n.4)) all in
    let corners = subst (All (λ k. k < vertices)) n.4 (fan_names vertices n.0 n.1 n.2 n.3 faces) in
    ap (λ o. onward o (λ all. more_triangles triangles (fan all)))
    (positions_anywhere others vertices first (x ∷ y ∷ z ∷ words) s.0 s.1 corners ∙ sym s.1)
    ∙ e

-- a vertex, where there is room for one behind so many
room_anywhere : (first : ℕ) (point : Point) (given : Given) → one_more_vertex 0 point ≡ Ok given
    → first + length (points_of given) ≤ MOST_POINTS → one_more_vertex first point ≡ Ok given
room_anywhere first point given e room =
    let same : Vertex point ≡ given = (cond_ok (nat_lt 0 MOST_POINTS) (Vertex point) TooManyVertices given e).1 in
    let one : length (points_of given) ≡ 1 = ap (λ k. length (points_of k)) (sym same) in
    let fits : first < MOST_POINTS = omega (arith, room, one) in
    let test : nat_lt first MOST_POINTS ≡ true = grind (arith, nat_tests, fits) in
    ap (λ k. cond k (Ok (Vertex point)) (Err TooManyVertices)) test ∙ ap Ok same

-- a line that begins with `v`
vertex_anywhere : (unit first : ℕ) (words : List (List ℕ)) (given : Given) → vertex_of unit 0 words ≡ Ok given
    → first + length (points_of given) ≤ MOST_POINTS → vertex_of unit first words ≡ Ok given
vertex_anywhere unit first [] given e room = e
vertex_anywhere unit first (x ∷ []) given e room = e
vertex_anywhere unit first (x ∷ y ∷ []) given e room = e
vertex_anywhere unit first (x ∷ y ∷ z ∷ words) given e room =
    let s = onward_ok (point_of unit x y z) (one_more_vertex 0) given e in
    ap (λ o. onward o (one_more_vertex first)) s.1 ∙ room_anywhere first s.0 given s.2 room

-- a line, by the tests of its first word
by_keyword : (v f g : Bool) (unit others vertices first triangles : ℕ) (words : List (List ℕ)) (given : Given)
    → cond v (vertex_of unit 0 words) (cond f (triangles_of others 0 triangles words)
    (cond g (Ok (GroupName (name_of words))) (Ok Nothing))) ≡ Ok given
    → All (IsFaceOf vertices) (faces_of given) → first + length (points_of given) ≤ MOST_POINTS
    → cond v (vertex_of unit first words) (cond f (triangles_of vertices first triangles words)
    (cond g (Ok (GroupName (name_of words))) (Ok Nothing))) ≡ Ok given
by_keyword true f g unit others vertices first triangles words given e all room =
    vertex_anywhere unit first words given e room
by_keyword false true g unit others vertices first triangles words given e all room =
    triangles_anywhere others vertices first triangles words given e all
by_keyword false false g unit others vertices first triangles words given e all room = e

-- a line without a fault
given_anywhere : (unit others vertices first triangles : ℕ) (words : List (List ℕ)) (given : Given)
    → given_of unit others 0 triangles words ≡ Ok given
    → All (IsFaceOf vertices) (faces_of given) → first + length (points_of given) ≤ MOST_POINTS
    → given_of unit vertices first triangles words ≡ Ok given
given_anywhere unit others vertices first triangles [] given e all room = e
given_anywhere unit others vertices first triangles (keyword ∷ words) given e all room =
    by_keyword (bytes_eq keyword (codes "v")) (bytes_eq keyword (codes "f"))
    (bytes_eq keyword (codes "g") || bytes_eq keyword (codes "o")) unit others vertices first triangles words given e
    all room

-- a line and those behind it
line_anywhere : (unit others vertices points triangles : ℕ) (line : JoinedLine) (lines : List JoinedLine)
    (outcome : Result Given Why)
    → given_of unit others 0 triangles line.words ≡ outcome
    → triangles ≤ MOST_FACES
    → (let later = readings_at unit others Anywhere (points + cond (is_vertex line.words) 1 0)
    (triangles + length (faces_read outcome)) lines in
    fault_or line.number outcome (first_faulty later) ≡ None
    → All (IsFaceOf vertices) (faces_read outcome ++ faces_in later)
    → points + length (points_read outcome ++ points_in later) ≤ MOST_POINTS
    → (triangles + length (faces_read outcome) ≤ MOST_FACES → first_faulty later ≡ None
    → All (IsFaceOf vertices) (faces_in later)
    → points + cond (is_vertex line.words) 1 0 + length (points_in later) ≤ MOST_POINTS
    → readings_at unit vertices (Behind 0) (points + cond (is_vertex line.words) 1 0)
    (triangles + length (faces_read outcome)) lines ≡ later)
    → record { number = line.number; given = given_of unit vertices (0 + points) triangles line.words }
    ∷ readings_at unit vertices (Behind 0) (points + cond (is_vertex line.words) 1 0)
    (triangles + length (faces_read (given_of unit vertices (0 + points) triangles line.words))) lines
    ≡ record { number = line.number; given = outcome } ∷ later)
line_anywhere unit others vertices points triangles line lines (Err why) e few none all room behind = absurd (cc)
line_anywhere unit others vertices points triangles line lines (Ok given) e few none all room behind =
    let one : ℕ = cond (is_vertex line.words) 1 0 in
    let later = readings_at unit others Anywhere (points + one) (triangles + length (faces_of given)) lines in
    let is = given_is unit others 0 triangles line.words given (omega arith) few e in
    let sum = length-append (points_of given) (points_in later) in
    let same : given_of unit vertices (0 + points) triangles line.words ≡ Ok given =
    given_anywhere unit others vertices (0 + points) triangles line.words given e
    (all_left (IsFaceOf vertices) (faces_of given) (faces_in later) all) (omega (arith, room, sum)) in
    let rest = behind is.1.few_faces none
    (all_right (IsFaceOf vertices) (faces_of given) (faces_in later) all) (omega (arith, room, sum, is.0)) in
    ap (λ o. record { number = line.number; given = o }
    ∷ readings_at unit vertices (Behind 0) (points + one) (triangles + length (faces_read o)) lines) same
    ∙ ap (λ k. record { number = line.number; given = Ok given } ∷ k) rest

-- lines without a fault that are read as if they stood anywhere are those of a whole text with so many vertices
pub lines_anywhere : (unit others vertices points triangles : ℕ) (lines : List JoinedLine) → triangles ≤ MOST_FACES
    → first_faulty (readings_at unit others Anywhere points triangles lines) ≡ None
    → All (IsFaceOf vertices) (faces_in (readings_at unit others Anywhere points triangles lines))
    → points + length (points_in (readings_at unit others Anywhere points triangles lines)) ≤ MOST_POINTS
    → readings_at unit vertices (Behind 0) points triangles lines
    ≡ readings_at unit others Anywhere points triangles lines
lines_anywhere unit others vertices points triangles [] few none all room = refl
lines_anywhere unit others vertices points triangles (line ∷ lines) few none all room =
    let outcome = given_of unit others 0 triangles line.words in
    line_anywhere unit others vertices points triangles line lines outcome refl few none all room
    (λ f n a r. lines_anywhere unit others vertices (points + cond (is_vertex line.words) 1 0)
    (triangles + length (faces_read outcome)) lines f n a r)

-- a part that is read so, of a text that has the vertices that it names, and as many as it gives
pub part_anywhere : (unit others : ℕ) (lines : List JoinedLine) (points : List Point) (faces : List Face)
    (runs : List Run) (name : Option (Bor (List ℕ))) → IsPart unit others Anywhere lines points faces runs name
    → length points ≤ MOST_POINTS → All (IsFaceOf (length points)) faces
    → IsPart unit (vertices_of lines) (Behind 0) lines points faces runs name
part_anywhere unit others lines points faces runs name p few all =
    let read = readings_at unit others Anywhere 0 0 lines in
    let is = lines_lawful unit others Anywhere 0 0 lines (omega arith) (omega arith) (omega arith) p.faultless in
    let count : length points ≡ vertices_of lines = ap (λ k. length k) p.points_are ∙ is.as_many in
    let named = subst (All (IsFaceOf (vertices_of lines))) p.faces_are (subst (λ n. All (IsFaceOf n) faces) count all) in
    let same : readings_at unit (vertices_of lines) (Behind 0) 0 0 lines ≡ read =
    lines_anywhere unit others (vertices_of lines) 0 0 lines (omega arith) p.faultless named
    (omega (arith, few, ap (λ k. length k) p.points_are)) in
    record {
      faultless = ap first_faulty same ∙ p.faultless;
      points_are = p.points_are ∙ ap points_in (sym same);
      faces_are = p.faces_are ∙ ap faces_in (sym same);
      names_are = p.names_are ∙ ap (known_names None) (sym same);
      name_is = p.name_is ∙ ap (last_known None) (sym same);
    }
