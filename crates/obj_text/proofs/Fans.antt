-- The triangles of an `f` line, taken corner by corner.
use Rattle.std.proofs.Common.{◌≡◌, ◌≤◌, ◌<◌, ◌+◌, ℕ, Bool, true, false, List, [], ◌∷◌, ◌++◌, length, length-append, append-nil, append_assoc, drop, cond, refl, sym, ap, ◌∙◌, arith, Ok, Err, Result}
use Rattle.std.specs.Prelude.{nat_le, IfErr, ⊤, Option}
use Rattle.fixed_box.specs.declared.shapes.Point.{Point}
use Rattle.obj_text.specs.Rows.{Given, Triangles, onward, position_of, positions_of, fan_from, fan, more_triangles, triangles_of, vertex_of}
use Rattle.obj_text.specs.Steps.{IsAdded, IsLineFault, IsOutcome, extended, few, fan_left, all_three, first_corners_of}
use Rattle.obj_text.specs.declared.line_fault.LineFault.{LineFault}
use Rattle.obj_text.specs.declared.line_fault.LineFault.TheVariants.{Faulty, Memory}
use Rattle.obj_text.specs.declared.face.Face.{Face}
use Rattle.obj_text.specs.declared.limits.TheConstants.{MOST_FACES}
use Rattle.obj_text.specs.declared.fault.Why.{Why}
use Rattle.obj_text.specs.declared.fault.Why.TheVariants.{TooFewWords, TooManyTriangles}

-- a list within the limit is taken
few_enough : (faces : List Face) → length faces ≤ MOST_FACES → few faces ≡ Ok faces
few_enough faces p =
    let e : nat_le (length faces) MOST_FACES ≡ true = grind (arith, p) in
    ap (λ k. cond k (Ok faces) (Err TooManyTriangles)) e

-- a longer one is refused
too_many : (faces : List Face) → MOST_FACES < length faces → few faces ≡ Err TooManyTriangles
too_many faces p =
    let e : nat_le (length faces) MOST_FACES ≡ false = grind (arith, p) in
    ap (λ k. cond k (Ok faces) (Err TooManyTriangles)) e

-- the same, by the corners behind it
next_by : (faces : List Face) (first last next more : ℕ) (corners : Result (List ℕ) Why)
    → onward (onward corners (λ all. Ok (more ∷ all))) (λ all. few (faces ++ fan_from first last (next ∷ all)))
    ≡ onward corners (λ all. few ((faces ++ record { a = first; b = last; c = next } ∷ []) ++ fan_from first next (more ∷ all)))
next_by faces first last next more (Err why) = refl
next_by faces first last next more (Ok all) =
    ap few (sym (append_assoc faces (record { a = first; b = last; c = next } ∷ []) (fan_from first next (more ∷ all))))

-- a corner more, where there was room for a triangle
pub fan_next : (vertices before first last next more : ℕ) (faces : List Face) (word : List ℕ) (words : List (List ℕ))
    → position_of vertices before word ≡ Ok more
    → fan_left vertices before false faces first last next (word ∷ words)
    ≡ fan_left vertices before false (faces ++ record { a = first; b = last; c = next } ∷ []) first next more words
fan_next vertices before first last next more faces word words e =
    ap (λ p. onward (onward p (λ corner. onward (positions_of vertices before words) (λ all. Ok (corner ∷ all))))
    (λ all. few (faces ++ fan_from first last (next ∷ all)))) e
    ∙ next_by faces first last next more (positions_of vertices before words)

-- the same, by whether a triangle was refused and by the corners behind it
past_by : (over : Bool) (faces : List Face) (first last next more : ℕ) (corners : Result (List ℕ) Why)
    → MOST_FACES ≤ length faces
    → onward (onward corners (λ all. Ok (more ∷ all)))
    (λ all. cond over (Err TooManyTriangles) (few (faces ++ fan_from first last (next ∷ all))))
    ≡ onward corners (λ all. Err TooManyTriangles)
past_by over faces first last next more (Err why) p = refl
past_by true faces first last next more (Ok all) p = refl
past_by false faces first last next more (Ok all) p =
    let added = fan_from first last (next ∷ more ∷ all) in
    too_many (faces ++ added) (omega (arith, p, length-append faces added))

-- a corner more, where there was none
pub fan_past : (vertices before first last next more : ℕ) (over : Bool) (faces : List Face) (word : List ℕ)
    (words : List (List ℕ)) → position_of vertices before word ≡ Ok more → MOST_FACES ≤ length faces
    → fan_left vertices before over faces first last next (word ∷ words)
    ≡ fan_left vertices before true faces first next more words
fan_past vertices before first last next more over faces word words e p =
    ap (λ q. onward (onward q (λ corner. onward (positions_of vertices before words) (λ all. Ok (corner ∷ all))))
    (λ all. cond over (Err TooManyTriangles) (few (faces ++ fan_from first last (next ∷ all))))) e
    ∙ past_by over faces first last next more (positions_of vertices before words) p

-- a word that names no corner
pub fan_fault : (vertices before first last next : ℕ) (over : Bool) (faces : List Face) (word : List ℕ)
    (words : List (List ℕ)) (why : Why) → position_of vertices before word ≡ Err why
    → fan_left vertices before over faces first last next (word ∷ words) ≡ Err why
fan_fault vertices before first last next over faces word words why e =
    ap (λ q. onward (onward q (λ corner. onward (positions_of vertices before words) (λ all. Ok (corner ∷ all))))
    (λ all. cond over (Err TooManyTriangles) (few (faces ++ fan_from first last (next ∷ all))))) e

-- the end of a line, with room for the last triangle
pub fan_done : (vertices before first last next : ℕ) (faces : List Face) → length faces < MOST_FACES
    → fan_left vertices before false faces first last next []
    ≡ Ok (faces ++ record { a = first; b = last; c = next } ∷ [])
fan_done vertices before first last next faces p =
    let face : List Face = record { a = first; b = last; c = next } ∷ [] in
    few_enough (faces ++ face) (omega (arith, p, length-append faces face))

-- the end of a line, with none
pub fan_full : (vertices before first last next : ℕ) (over : Bool) (faces : List Face) → MOST_FACES ≤ length faces
    → fan_left vertices before over faces first last next [] ≡ Err TooManyTriangles
fan_full vertices before first last next true faces p = refl
fan_full vertices before first last next false faces p =
    let face : List Face = record { a = first; b = last; c = next } ∷ [] in
    too_many (faces ++ face) (omega (arith, p, length-append faces face))

-- a mesh takes the triangles of a line where there is room
same_by : (k : Bool) (faces more : List Face)
    → extended faces (cond k (Ok (Triangles more)) (Err TooManyTriangles))
    ≡ cond k (Ok (faces ++ more)) (Err TooManyTriangles)
same_by true faces more = refl
same_by false faces more = refl

-- the same, by the first three corners and those behind them
line_by : (faces : List Face) (a b c : Result ℕ Why) (corners : Result (List ℕ) Why)
    → extended faces (onward
    (onward a (λ x. onward (onward b (λ y. onward (onward c (λ z. onward corners (λ all. Ok (z ∷ all))))
    (λ all. Ok (y ∷ all)))) (λ all. Ok (x ∷ all))))
    (λ all. more_triangles (length faces) (fan all)))
    ≡ onward (all_three a b c) (λ t. onward corners (λ all. few (faces ++ fan_from t.0 t.1 (t.2 ∷ all))))
line_by faces (Err why) b c corners = refl
line_by faces (Ok x) (Err why) c corners = refl
line_by faces (Ok x) (Ok y) (Err why) corners = refl
line_by faces (Ok x) (Ok y) (Ok z) (Err why) = refl
line_by faces (Ok x) (Ok y) (Ok z) (Ok all) =
    let more = fan_from x y (z ∷ all) in
    same_by (nat_le (length faces + length more) MOST_FACES) faces more
    ∙ ap (λ n. cond (nat_le n MOST_FACES) (Ok (faces ++ more)) (Err TooManyTriangles)) (sym (length-append faces more))

-- the triangles of a line are those of the fan behind its first three corners
pub line_begun : (vertices before : ℕ) (faces : List Face) (words : List (List ℕ))
    → extended faces (triangles_of vertices before (length faces) words)
    ≡ onward (first_corners_of vertices before words) (λ t.
    fan_left vertices before false faces t.0 t.1 t.2 (drop 3 words))
line_begun vertices before faces [] = refl
line_begun vertices before faces (x ∷ []) = refl
line_begun vertices before faces (x ∷ y ∷ []) = refl
line_begun vertices before faces (x ∷ y ∷ z ∷ words) =
    line_by faces (position_of vertices before x) (position_of vertices before y) (position_of vertices before z)
    (positions_of vertices before words)

-- a line whose first three corners are known
pub line_known : (vertices before : ℕ) (faces : List Face) (words : List (List ℕ)) (t : ℕ × ℕ × ℕ)
    → first_corners_of vertices before words ≡ Ok t
    → extended faces (triangles_of vertices before (length faces) words)
    ≡ fan_left vertices before false faces t.0 t.1 t.2 (drop 3 words)
line_known vertices before faces words t e =
    line_begun vertices before faces words
    ∙ ap (λ o. onward o (λ u. fan_left vertices before false faces u.0 u.1 u.2 (drop 3 words))) e

-- what is no extension has a fault
pub extended_fault : (faces : List Face) (outcome : Result Given Why) (why : Why) → extended faces outcome ≡ Err why
    → outcome ≡ Err why
extended_fault faces (Ok given) why e = absurd (cc)
extended_fault faces (Err other) why e = let same : other ≡ why = cc in ap Err same

-- a line whose first three corners have a fault
pub corners_fault : (vertices before : ℕ) (faces : List Face) (words : List (List ℕ)) (why : Why)
    → first_corners_of vertices before words ≡ Err why → triangles_of vertices before (length faces) words ≡ Err why
corners_fault vertices before faces words why e =
    extended_fault faces (triangles_of vertices before (length faces) words) why
    (line_begun vertices before faces words
    ∙ ap (λ o. onward o (λ u. fan_left vertices before false faces u.0 u.1 u.2 (drop 3 words))) e)

-- what a refusal of its first three corners says of a line
pub corners_have_fault : (vertices before : ℕ) (faces : List Face) (words : List (List ℕ))
    (result : Result (ℕ × ℕ × ℕ) LineFault) → IsOutcome (first_corners_of vertices before words) result
    → IfErr result (IsLineFault (triangles_of vertices before (length faces) words))
corners_have_fault vertices before faces words (Ok t) p = tt
corners_have_fault vertices before faces words (Err (Faulty why)) p = corners_fault vertices before faces words why p
corners_have_fault vertices before faces words (Err Memory) p = tt

-- a line of few words
pub few_corners : (vertices before : ℕ) (words : List (List ℕ)) → length words < 3
    → first_corners_of vertices before words ≡ Err TooFewWords
few_corners vertices before [] p = refl
few_corners vertices before (x ∷ []) p = refl
few_corners vertices before (x ∷ y ∷ []) p = refl
few_corners vertices before (x ∷ y ∷ z ∷ words) p = absurd (omega (arith, p))

-- nor do fewer than three words give a vertex
pub few_coordinates : (unit before : ℕ) (words : List (List ℕ)) → length words < 3
    → vertex_of unit before words ≡ Err TooFewWords
few_coordinates unit before [] p = refl
few_coordinates unit before (x ∷ []) p = refl
few_coordinates unit before (x ∷ y ∷ []) p = refl
few_coordinates unit before (x ∷ y ∷ z ∷ words) p = absurd (omega (arith, p))

-- the fault of a line is that of its fan
pub fan_is_line : (faces : List Face) (outcome : Result Given Why) (rest : Result (List Face) Why)
    (result : Result ⊤ LineFault) → extended faces outcome ≡ rest → IfErr result (IsLineFault rest)
    → IfErr result (IsLineFault outcome)
fan_is_line faces outcome rest (Ok done) e p = tt
fan_is_line faces outcome rest (Err (Faulty why)) e p = extended_fault faces outcome why (e ∙ p)
fan_is_line faces outcome rest (Err Memory) e p = tt

-- triangles are added where there is room
few_by : (k : Bool) (points : List Point) (faces more all : List Face) (name : Option (List ℕ))
    → extended faces (cond k (Ok (Triangles more)) (Err TooManyTriangles)) ≡ Ok all
    → IsAdded (cond k (Ok (Triangles more)) (Err TooManyTriangles)) points points faces all name name
few_by true points faces more all name e =
    let same : faces ++ more ≡ all = cc in
    record { points_are = sym (append-nil points); faces_are = sym same; name_is = refl }
few_by false points faces more all name e = absurd (cc)

-- so are those of corners that are read
added_by : (corners : Result (List ℕ) Why) (points : List Point) (faces all : List Face) (name : Option (List ℕ))
    → extended faces (onward corners (λ cs. more_triangles (length faces) (fan cs))) ≡ Ok all
    → IsAdded (onward corners (λ cs. more_triangles (length faces) (fan cs))) points points faces all name name
added_by (Err why) points faces all name e = absurd (cc)
added_by (Ok cs) points faces all name e =
    few_by (nat_le (length faces + length (fan cs)) MOST_FACES) points faces (fan cs) all name e

-- a line of triangles adds faces alone
pub triangles_added : (vertices before : ℕ) (words : List (List ℕ)) (points : List Point) (faces all : List Face)
    (name : Option (List ℕ)) → extended faces (triangles_of vertices before (length faces) words) ≡ Ok all
    → IsAdded (triangles_of vertices before (length faces) words) points points faces all name name
triangles_added vertices before [] points faces all name e = absurd (cc)
triangles_added vertices before (x ∷ []) points faces all name e = absurd (cc)
triangles_added vertices before (x ∷ y ∷ []) points faces all name e = absurd (cc)
triangles_added vertices before (x ∷ y ∷ z ∷ words) points faces all name e =
    added_by (positions_of vertices before (x ∷ y ∷ z ∷ words)) points faces all name e
