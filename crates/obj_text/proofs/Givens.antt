-- What a line without a fault gives: points of the world, corners that the text has, a vertex where its first word says
-- so, and no more than there is room for.
use Rattle.std.proofs.Common.{◌≡◌, ℕ, ◌+◌, ◌-◌, ◌<◌, ◌≤◌, Bool, true, false, List, [], ◌∷◌, ◌&&◌, ◌||◌, cond, nat_lt, nat_le, length, refl, arith, Ok, Err, Result, ℤ, neg_ℤ, int_le, int_lt, sym, ap, subst}
use Rattle.std.specs.Prelude.{codes}
use Rattle.std.specs.Str.{bytes_eq}
use Rattle.std.specs.List.{All}
use Rattle.std.proofs.lemmas.List.Elements.{All-cons, All-nil, All-head, All-tail}
use Rattle.std.proofs.lemmas.Int.{ints}
use Rattle.std.proofs.lemmas.Bool.{and_parts}
use Rattle.std.proofs.lemmas.Bool.Decides.{nat_tests}
use Rattle.fixed_box.specs.World.{IsCoordinate, InWorld}
use Rattle.fixed_box.specs.declared.shapes.Point.{Point}
use Rattle.fixed_box.specs.declared.shapes.TheConstants.{HALF}
use Rattle.text_words.specs.Numbers.{starts_minus, value_after, digits_of, past_sign}
use Rattle.decimals.specs.Values.{grid_of}
use Rattle.decimals.specs.declared.fault.NumberFault.{NumberFault}
use Rattle.obj_text.specs.Meshes.{IsFaceOf}
use Rattle.obj_text.specs.Rows.{Given, Nothing, Vertex, Triangles, GroupName, onward, in_world, coordinate, coordinate_of, point_of, is_reference, position, position_of, positions_of, fan_from, fan, one_more_vertex, vertex_of, triangles_of, name_of, given_of, is_vertex, points_of, faces_of}
use Rattle.obj_text.specs.declared.fault.Why.{Why}
use Rattle.obj_text.specs.declared.fault.Why.TheVariants.{Outside, NoSuchVertex, BadReference, TooManyVertices, TooManyTriangles}
use Rattle.obj_text.specs.declared.limits.TheConstants.{MOST_POINTS, MOST_FACES}

-- what a line gives is lawful in a text with so many vertices, behind so many vertices and triangles; a line that gives
-- no vertex may stand behind more than there is room for
pub record IsGivenOf (vertices before triangles : ℕ) (given : Given) : Type 0 where
  pub points : All InWorld (points_of given)
  pub faces : All (IsFaceOf vertices) (faces_of given)
  pub few_points : before ≤ MOST_POINTS → before + length (points_of given) ≤ MOST_POINTS
  pub few_faces : triangles + length (faces_of given) ≤ MOST_FACES

-- the value behind a step that gave one
pub onward_ok : {A B : Type 0} (o : Result A Why) (f : A → Result B Why) (y : B) → onward o f ≡ Ok y
    → (x : A) × (o ≡ Ok x) × (f x ≡ Ok y)
onward_ok (Err why) f y e = absurd (cc)
onward_ok (Ok x) f y e = (x, refl, e)

-- a choice that gives a value holds, and gives that value
pub cond_ok : {A : Type 0} (k : Bool) (x : A) (why : Why) (y : A) → cond k (Ok x) (Err why) ≡ Ok y → (k ≡ true) × (x ≡ y)
cond_ok true x why y e = (refl, cc)
cond_ok false x why y e = absurd (cc)

-- a number that is kept in the world is a coordinate
in_world_is : (x y : ℤ) → in_world x ≡ Ok y → IsCoordinate y
in_world_is x y e =
    let t = cond_ok (int_le (neg_ℤ HALF) x && int_lt x HALF) x Outside y e in
    let b = and_parts (int_le (neg_ℤ HALF) x) (int_lt x HALF) t.0 in
    subst IsCoordinate t.1 (record { low = grind (arith, ints, b.0); high = grind (arith, ints, b.1) })

-- so is one that is read
by_grid : (r : Result ℤ NumberFault) (y : ℤ) → coordinate r ≡ Ok y → IsCoordinate y
by_grid (Ok x) y e = in_world_is x y e
by_grid (Err NumberFault.NotANumber) y e = absurd (cc)
by_grid (Err NumberFault.TooLong) y e = absurd (cc)

-- a point that is read is in the world
point_is : (unit : ℕ) (x y z : List ℕ) (p : Point) → point_of unit x y z ≡ Ok p → InWorld p
point_is unit x y z p e =
    let s = onward_ok (coordinate_of unit x) _ p e in
    let t = onward_ok (coordinate_of unit y) _ p s.2 in
    let u = onward_ok (coordinate_of unit z) _ p t.2 in
    let q : Ok (record { x = s.0; y = t.0; z = u.0 }) ≡ Ok p = u.2 in
    let r : record { x = s.0; y = t.0; z = u.0 } ≡ p = cc in
    subst InWorld r (record {
      x = by_grid (grid_of unit x) s.0 s.1;
      y = by_grid (grid_of unit y) t.0 t.1;
      z = by_grid (grid_of unit z) u.0 u.1;
    })

-- a position that a number names is one of the text's
by_sign : (vertices before number k : ℕ) (minus : Bool) → before ≤ vertices
    → position vertices before minus number ≡ Ok k → k < vertices
by_sign vertices before number k true few e =
    let t = cond_ok (nat_lt 0 number && nat_le number before) (before - number) NoSuchVertex k e in
    let b = and_parts (nat_lt 0 number) (nat_le number before) t.0 in
    grind (arith, nat_tests, b.0, b.1, t.1, few)
by_sign vertices before number k false few e =
    let t = cond_ok (nat_lt 0 number && nat_le number vertices) (number - 1) NoSuchVertex k e in
    let b = and_parts (nat_lt 0 number) (nat_le number vertices) t.0 in
    grind (arith, nat_tests, b.0, b.1, t.1)

-- so is a word of the form of a reference
by_form : (is minus : Bool) (vertices before number k : ℕ) → before ≤ vertices
    → cond is (position vertices before minus number) (Err BadReference) ≡ Ok k → k < vertices
by_form true minus vertices before number k few e = by_sign vertices before number k minus few e
by_form false minus vertices before number k few e = absurd (cc)

-- positions that words name
positions_are : (vertices before : ℕ) (words : List (List ℕ)) (corners : List ℕ) → before ≤ vertices
    → positions_of vertices before words ≡ Ok corners → All (λ k. k < vertices) corners
positions_are vertices before [] corners few e =
    let none : [] ≡ corners = cc in subst (All (λ k. k < vertices)) none (All-nil (λ k. k < vertices))
positions_are vertices before (word ∷ words) corners few e =
    let s = onward_ok (position_of vertices before word) _ corners e in
    let t = onward_ok (positions_of vertices before words) _ corners s.2 in
    let q : Ok (s.0 ∷ t.0) ≡ Ok corners = t.2 in
    let r : s.0 ∷ t.0 ≡ corners = cc in
    subst (All (λ k. k < vertices)) r (All-cons (λ k. k < vertices) s.0 t.0
    (by_form (is_reference word) (starts_minus word) vertices before
    (value_after 0 (digits_of (past_sign word))) s.0 few s.1) (positions_are vertices before words t.0 few t.1))

-- a fan of corners of the text is of faces of the text
fan_from_is : (vertices first last : ℕ) (corners : List ℕ) → first < vertices → last < vertices
    → All (λ k. k < vertices) corners → All (IsFaceOf vertices) (fan_from first last corners)
fan_from_is vertices first last [] f l all = All-nil (IsFaceOf vertices)
fan_from_is vertices first last (next ∷ corners) f l all =
    let n = All-head (λ k. k < vertices) next corners all in
    All-cons (IsFaceOf vertices) (record { a = first; b = last; c = next }) (fan_from first next corners)
    (record { a = f; b = l; c = n })
    (fan_from_is vertices first next corners f n (All-tail (λ k. k < vertices) next corners all))

-- a fan over positions of the text
fan_is : (vertices : ℕ) (corners : List ℕ) → All (λ k. k < vertices) corners → All (IsFaceOf vertices) (fan corners)
fan_is vertices [] all = All-nil (IsFaceOf vertices)
fan_is vertices (first ∷ []) all = All-nil (IsFaceOf vertices)
fan_is vertices (first ∷ second ∷ corners) all =
    let rest = All-tail (λ k. k < vertices) first (second ∷ corners) all in
    fan_from_is vertices first second corners (All-head (λ k. k < vertices) first (second ∷ corners) all)
    (All-head (λ k. k < vertices) second corners rest) (All-tail (λ k. k < vertices) second corners rest)

-- a vertex more fits where fewer stand before it
vertex_fits : (before : ℕ) → nat_lt before MOST_POINTS ≡ true → before + 1 ≤ MOST_POINTS
vertex_fits before e = grind (arith, nat_tests, e)

-- a line that begins with `v` and has no fault gives one point
vertex_is : (unit vertices before triangles : ℕ) (words : List (List ℕ)) (given : Given) → triangles ≤ MOST_FACES
    → vertex_of unit before words ≡ Ok given
    → (length (points_of given) ≡ 1) × IsGivenOf vertices before triangles given
vertex_is unit vertices before triangles [] given few e = absurd (cc)
vertex_is unit vertices before triangles (x ∷ []) given few e = absurd (cc)
vertex_is unit vertices before triangles (x ∷ y ∷ []) given few e = absurd (cc)
vertex_is unit vertices before triangles (x ∷ y ∷ z ∷ words) given few e =
    let s = onward_ok (point_of unit x y z) (one_more_vertex before) given e in
    let t = cond_ok (nat_lt before MOST_POINTS) (Vertex s.0) TooManyVertices given s.2 in
    subst (λ g. (length (points_of g) ≡ 1) × IsGivenOf vertices before triangles g) t.1 (
      refl,
      record {
        points = All-cons InWorld s.0 [] (point_is unit x y z s.0 s.1) (All-nil InWorld);
        faces = All-nil (IsFaceOf vertices);
        few_points = λ room. vertex_fits before t.0;
        few_faces = omega (arith, few);
      },
    )

-- no vertex more fits always
no_more : (before : ℕ) → before ≤ MOST_POINTS → before + 0 ≤ MOST_POINTS
no_more before room = omega (arith, room)

-- a line that begins with `f` and has no fault gives triangles of the text
triangles_are : (vertices before triangles : ℕ) (words : List (List ℕ)) (given : Given) → before ≤ vertices
    → triangles_of vertices before triangles words ≡ Ok given
    → (length (points_of given) ≡ 0) × IsGivenOf vertices before triangles given
triangles_are vertices before triangles [] given few e = absurd (cc)
triangles_are vertices before triangles (x ∷ []) given few e = absurd (cc)
triangles_are vertices before triangles (x ∷ y ∷ []) given few e = absurd (cc)
triangles_are vertices before triangles (x ∷ y ∷ z ∷ words) given few e =
    let s = onward_ok (positions_of vertices before (x ∷ y ∷ z ∷ words)) _ given e in
    let t =
    cond_ok (nat_le (triangles + length (fan s.0)) MOST_FACES) (Triangles (fan s.0)) TooManyTriangles given s.2 in
    subst (λ g. (length (points_of g) ≡ 0) × IsGivenOf vertices before triangles g) t.1 (
      refl,
      record {
        points = All-nil InWorld;
        faces = fan_is vertices s.0 (positions_are vertices before (x ∷ y ∷ z ∷ words) s.0 few s.1);
        few_points = λ room. no_more before room;
        few_faces = grind (arith, nat_tests, t.0);
      },
    )

-- a line that gives neither points nor triangles
neither : (vertices before triangles : ℕ) (given : Given) → triangles ≤ MOST_FACES
    → points_of given ≡ [] → faces_of given ≡ []
    → (length (points_of given) ≡ 0) × IsGivenOf vertices before triangles given
neither vertices before triangles given f e g = (
  ap (λ k. length k) e,
  record {
    points = subst (All InWorld) (sym e) (All-nil InWorld);
    faces = subst (All (IsFaceOf vertices)) (sym g) (All-nil (IsFaceOf vertices));
    few_points = λ room. subst (λ k. before + length k ≤ MOST_POINTS) (sym e) (no_more before room);
    few_faces = omega (arith, f, ap (λ k. length k) g);
  },
)

-- the same, by the tests of the first word
by_keyword : (unit vertices before triangles : ℕ) (words : List (List ℕ)) (given : Given) (v f g : Bool)
    → before ≤ vertices → triangles ≤ MOST_FACES
    → cond v (vertex_of unit before words) (cond f (triangles_of vertices before triangles words)
    (cond g (Ok (GroupName (name_of words))) (Ok Nothing))) ≡ Ok given
    → (length (points_of given) ≡ cond v 1 0) × IsGivenOf vertices before triangles given
by_keyword unit vertices before triangles words given true f g few q e =
    vertex_is unit vertices before triangles words given q e
by_keyword unit vertices before triangles words given false true g few q e =
    triangles_are vertices before triangles words given few e
by_keyword unit vertices before triangles words given false false true few q e =
    let r : GroupName (name_of words) ≡ given = cc in
    subst (λ k. (length (points_of k) ≡ 0) × IsGivenOf vertices before triangles k) r
    (neither vertices before triangles (GroupName (name_of words)) q refl refl)
by_keyword unit vertices before triangles words given false false false few q e =
    let r : Nothing ≡ given = cc in
    subst (λ k. (length (points_of k) ≡ 0) × IsGivenOf vertices before triangles k) r
    (neither vertices before triangles Nothing q refl refl)

-- a line without a fault gives a vertex exactly where its first word is `v`, and is lawful
pub given_is : (unit vertices before triangles : ℕ) (words : List (List ℕ)) (given : Given)
    → before ≤ vertices → triangles ≤ MOST_FACES
    → given_of unit vertices before triangles words ≡ Ok given
    → (length (points_of given) ≡ cond (is_vertex words) 1 0) × IsGivenOf vertices before triangles given
given_is unit vertices before triangles [] given few q e =
    let r : Nothing ≡ given = cc in
    subst (λ k. (length (points_of k) ≡ 0) × IsGivenOf vertices before triangles k) r
    (neither vertices before triangles Nothing q refl refl)
given_is unit vertices before triangles (keyword ∷ words) given few q e =
    by_keyword unit vertices before triangles words given (bytes_eq keyword (codes "v"))
    (bytes_eq keyword (codes "f")) (bytes_eq keyword (codes "g") || bytes_eq keyword (codes "o")) few q e
