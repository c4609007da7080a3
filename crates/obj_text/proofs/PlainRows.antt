-- Lines that are read in one pass, and what they give.
use Rattle.std.proofs.Common.{◌≡◌, ◌<◌, ◌≤◌, ◌+◌, ◌-◌, ◌^◌, ℕ, true, false, List, [], ◌∷◌, ◌++◌, cond, length, take, drop, take_all, slice_index_or, codes, nat_lt, refl, sym, ap, ◌∙◌, subst, append-nil, arith, ℤ, Ok, Err, Result}
use Rattle.std.specs.Prelude.{Option}
use Rattle.std.proofs.lemmas.Bool.Decides.{nat_tests}
use Rattle.fixed_box.specs.declared.shapes.Point.{Point}
use Rattle.text_words.specs.Lines.{lines_of}
use Rattle.text_words.specs.Joins.{joined_lines, JoinedLine}
use Rattle.text_words.specs.PlainLines.{IsPlainWord, BeginsWithLine}
use Rattle.text_words.specs.ThreeNumbers.{IsNumber, AreThreeNumbers}
use Rattle.text_words.proofs.PlainLines.{last_word, word_before, number_plain, plain_first, lines_left}
use Rattle.obj_text.specs.Rows.{Given, Vertex, coordinate_of, point_of, given_of, onward, position, one_more_vertex, triangles_of, vertex_of}
use Rattle.obj_text.specs.Steps.{IsAdded, all_three, first_corners_of}
use Rattle.obj_text.specs.PlainRows.{BeginsWithPoint, BeginsWithNumbers, ReadsOne}
use Rattle.obj_text.specs.declared.face.Face.{Face}
use Rattle.obj_text.specs.declared.fault.Why.{Why}
use Rattle.obj_text.specs.declared.fault.Why.TheVariants.{TooManyVertices}
use Rattle.obj_text.specs.declared.limits.TheConstants.{MOST_POINTS, MOST_FACES}
use Rattle.obj_text.proofs.Fans.{line_known, fan_done, triangles_added}
use Rattle.obj_text.proofs.PlainReferences.{numbers_name}

-- a text by its first two bytes and the slice behind them
pub two_first : (k s : ℕ) (text : List ℕ) → 2 ≤ length text → slice_index_or text 0 0 ≡ k → slice_index_or text 1 0 ≡ s
    → text ≡ k ∷ s ∷ take (length text - 2) (drop 2 text)
two_first k s [] some e f = absurd (omega (arith, some))
two_first k s (a ∷ []) some e f = absurd (omega (arith, some))
two_first k s (a ∷ b ∷ bs) some e f =
    let count : length (a ∷ b ∷ bs) - 2 ≡ length bs = omega arith in
    ap (λ x. x ∷ b ∷ bs) e ∙ ap (λ x. k ∷ x ∷ bs) f
    ∙ ap (λ t. k ∷ s ∷ t) (sym (ap (λ n. take n bs) count ∙ take_all (length bs) bs (omega arith)))

-- a keyword of one letter and three words, a space before each and a line feed behind the last
row : (k : ℕ) (x y z rest : List ℕ) → IsPlainWord (k ∷ []) → IsPlainWord x → IsPlainWord y → IsPlainWord z
    → BeginsWithLine (k ∷ 32 ∷ (x ++ 32 ∷ (y ++ 32 ∷ (z ++ 10 ∷ rest)))) ((k ∷ []) ∷ x ∷ y ∷ z ∷ []) rest
row k x y z rest keyword p q r =
    word_before (k ∷ []) (x ++ 32 ∷ (y ++ 32 ∷ (z ++ 10 ∷ rest))) (x ∷ y ∷ z ∷ []) rest keyword
    (word_before x (y ++ 32 ∷ (z ++ 10 ∷ rest)) (y ∷ z ∷ []) rest p
    (word_before y (z ++ 10 ∷ rest) (z ∷ []) rest q (last_word z rest r)))

-- where each part of the text is what follows the one before it
parted : (k : ℕ) (text at_x at_y at_z x y z rest : List ℕ) → text ≡ k ∷ 32 ∷ at_x → at_x ≡ x ++ 32 ∷ at_y
    → at_y ≡ y ++ 32 ∷ at_z → at_z ≡ z ++ 10 ∷ rest
    → text ≡ k ∷ 32 ∷ (x ++ 32 ∷ (y ++ 32 ∷ (z ++ 10 ∷ rest)))
parted k text at_x at_y at_z x y z rest e f g h =
    e ∙ ap (λ t. k ∷ 32 ∷ t) (f ∙ ap (λ t. x ++ 32 ∷ t) (g ∙ ap (λ t. y ++ 32 ∷ t) h))

-- the same of a text that is known in parts
row_of : (k : ℕ) (text at_x at_y at_z x y z rest : List ℕ) → text ≡ k ∷ 32 ∷ at_x → at_x ≡ x ++ 32 ∷ at_y
    → at_y ≡ y ++ 32 ∷ at_z → at_z ≡ z ++ 10 ∷ rest → IsPlainWord (k ∷ []) → IsPlainWord x → IsPlainWord y
    → IsPlainWord z → BeginsWithLine text ((k ∷ []) ∷ x ∷ y ∷ z ∷ []) rest
row_of k text at_x at_y at_z x y z rest e f g h keyword p q r =
    subst (λ t. BeginsWithLine t ((k ∷ []) ∷ x ∷ y ∷ z ∷ []) rest)
    (sym (parted k text at_x at_y at_z x y z rest e f g h)) (row k x y z rest keyword p q r)

-- `v` is a plain word
v_plain : IsPlainWord (118 ∷ [])
v_plain = record { some = omega arith; unbroken = refl; one = refl; plain = refl }

-- so is `f`
f_plain : IsPlainWord (102 ∷ [])
f_plain = record { some = omega arith; unbroken = refl; one = refl; plain = refl }

-- three coordinates are a point
point_known : (unit : ℕ) (x y z : List ℕ) (a b c : ℤ) → coordinate_of unit x ≡ Ok a → coordinate_of unit y ≡ Ok b
    → coordinate_of unit z ≡ Ok c → point_of unit x y z ≡ Ok (record { x = a; y = b; z = c })
point_known unit x y z a b c e f g =
    ap (λ k. onward k (λ i. onward (coordinate_of unit y) (λ j. onward (coordinate_of unit z)
    (λ n. Ok (record { x = i; y = j; z = n }))))) e
    ∙ ap (λ k. onward k (λ j. onward (coordinate_of unit z) (λ n. Ok (record { x = a; y = j; z = n })))) f
    ∙ ap (λ k. onward k (λ n. Ok (record { x = a; y = b; z = n }))) g

-- a `v` line of three coordinates
pub point_row : (unit : ℕ) (text at_x at_y at_z x y z rest : List ℕ) (a b c : ℤ) → text ≡ 118 ∷ 32 ∷ at_x
    → at_x ≡ x ++ 32 ∷ at_y → at_y ≡ y ++ 32 ∷ at_z → at_z ≡ z ++ 10 ∷ rest
    → IsPlainWord x → IsPlainWord y → IsPlainWord z
    → coordinate_of unit x ≡ Ok a → coordinate_of unit y ≡ Ok b → coordinate_of unit z ≡ Ok c
    → BeginsWithPoint unit text (record { x = a; y = b; z = c }) rest
point_row unit text at_x at_y at_z x y z rest a b c e f g h p q r i j k = record {
  first = x;
  second = y;
  third = z;
  row = row_of 118 text at_x at_y at_z x y z rest e f g h v_plain p q r;
  point_is = point_known unit x y z a b c i j k;
}

-- an `f` line of three numbers
pub numbers_row : (text at_x at_y at_z x y z rest : List ℕ) (a b c : ℕ) → text ≡ 102 ∷ 32 ∷ at_x
    → at_x ≡ x ++ 32 ∷ at_y → at_y ≡ y ++ 32 ∷ at_z → at_z ≡ z ++ 10 ∷ rest
    → IsNumber x a → IsNumber y b → IsNumber z c → BeginsWithNumbers text a b c rest
numbers_row text at_x at_y at_z x y z rest a b c e f g h p q r = record {
  first = x;
  second = y;
  third = z;
  row = row_of 102 text at_x at_y at_z x y z rest e f g h f_plain (number_plain x a p) (number_plain y b q)
      (number_plain z c r);
  a_is = p;
  b_is = q;
  c_is = r;
}

-- its words
abbrev pub row_words : List ℕ → List ℕ → List ℕ → List ℕ → List (List ℕ)
row_words keyword first second third = keyword ∷ first ∷ second ∷ third ∷ []

-- the lines behind such a line can be counted where those from it on can be
pub lines_fit : (number : ℕ) (text : List ℕ) (words : List (List ℕ)) (rest : List ℕ) → BeginsWithLine text words rest
    → number + length (lines_of text) < 2 ^ 32 → number + 1 + length (lines_of rest) < 2 ^ 32
lines_fit number text words rest p few = omega (arith, few, lines_left text words rest p)

-- ---- what such lines give

-- three coordinates of a point give a vertex
vertex_known : (unit before : ℕ) (x y z : List ℕ) (point : Point) → point_of unit x y z ≡ Ok point
    → before < MOST_POINTS → vertex_of unit before (x ∷ y ∷ z ∷ []) ≡ Ok (Vertex point)
vertex_known unit before x y z point e room =
    let test : nat_lt before MOST_POINTS ≡ true = grind (arith, nat_tests, room) in
    ap (λ k. onward k (one_more_vertex before)) e
    ∙ ap (λ k. cond k (Ok (Vertex point)) (Err TooManyVertices)) test

-- a list has none behind it
append_none : {A : Type 0} (xs : List A) → xs ≡ xs ++ []
append_none xs = sym (append-nil xs)

-- one point more
vertex_added : (outcome : Result Given Why) (points : List Point) (faces : List Face) (name : Option (List ℕ)) (point : Point)
    → outcome ≡ Ok (Vertex point)
    → IsAdded outcome points (points ++ point ∷ []) faces faces name name
vertex_added outcome points faces name point e =
    subst (λ k. IsAdded k points (points ++ point ∷ []) faces faces name name) (sym e) (record {
      points_are = refl;
      faces_are = append_none faces;
      name_is = refl;
    })

-- a plain `v` line is read
pub point_read : (unit vertices before number : ℕ) (text : List ℕ) (point : Point) (rest : List ℕ)
    (lines left : List JoinedLine) (points : List Point) (faces : List Face) (name : Option (List ℕ))
    → BeginsWithPoint unit text point rest → before < MOST_POINTS
    → lines ≡ joined_lines (number + 1) (lines_of text) → left ≡ joined_lines (number + 1 + 1) (lines_of rest)
    → ReadsOne unit vertices before lines left points (points ++ point ∷ []) faces faces name
point_read unit vertices before number text point rest lines left points faces name p room e f = record {
  line = record { number = number + 1; words = codes "v" ∷ p.first ∷ p.second ∷ p.third ∷ [] };
  lines_are = e ∙ plain_first (number + 1) text (codes "v" ∷ p.first ∷ p.second ∷ p.third ∷ []) rest p.row
      ∙ ap (λ l. record { number = number + 1; words = codes "v" ∷ p.first ∷ p.second ∷ p.third ∷ [] } ∷ l) (sym f);
  added = vertex_added (given_of unit vertices before (length faces)
      (codes "v" ∷ p.first ∷ p.second ∷ p.third ∷ [])) points faces name point
      (vertex_known unit before p.first p.second p.third point p.point_is room);
}

-- a face more
triangle_added : (vertices before : ℕ) (text : List ℕ) (a b c : ℕ) (rest : List ℕ) (i j k : ℕ) (points : List Point)
    (faces : List Face) (name : Option (List ℕ)) (p : BeginsWithNumbers text a b c rest)
    → all_three (position vertices 0 false a) (position vertices 0 false b) (position vertices 0 false c) ≡ Ok (i, j, k)
    → length faces < MOST_FACES
    → IsAdded (triangles_of vertices before (length faces) (p.first ∷ p.second ∷ p.third ∷ []))
    points points faces (faces ++ record { a = i; b = j; c = k } ∷ []) name name
triangle_added vertices before text a b c rest i j k points faces name p e room =
    let words = p.first ∷ p.second ∷ p.third ∷ [] in
    let three : AreThreeNumbers words a b c [] = record {
      first = p.first;
      second = p.second;
      third = p.third;
      words_are = refl;
      a_is = p.a_is;
      b_is = p.b_is;
      c_is = p.c_is;
    } in
    let corners : first_corners_of vertices before words ≡ Ok (i, j, k) =
    numbers_name vertices before a b c words [] three ∙ e in
    triangles_added vertices before words points faces (faces ++ record { a = i; b = j; c = k } ∷ []) name
    (line_known vertices before faces words (i, j, k) corners ∙ fan_done vertices before i j k faces room)

-- a plain `f` line is read
pub numbers_read : (unit vertices before number : ℕ) (text : List ℕ) (a b c : ℕ) (rest : List ℕ) (i j k : ℕ)
    (lines left : List JoinedLine) (points : List Point) (faces : List Face) (name : Option (List ℕ))
    → BeginsWithNumbers text a b c rest → length faces < MOST_FACES
    → all_three (position vertices 0 false a) (position vertices 0 false b) (position vertices 0 false c) ≡ Ok (i, j, k)
    → lines ≡ joined_lines (number + 1) (lines_of text) → left ≡ joined_lines (number + 1 + 1) (lines_of rest)
    → ReadsOne unit vertices before lines left points points faces (faces ++ record { a = i; b = j; c = k } ∷ []) name
numbers_read unit vertices before number text a b c rest i j k lines left points faces name p room e f g = record {
  line = record { number = number + 1; words = codes "f" ∷ p.first ∷ p.second ∷ p.third ∷ [] };
  lines_are = f ∙ plain_first (number + 1) text (codes "f" ∷ p.first ∷ p.second ∷ p.third ∷ []) rest p.row
      ∙ ap (λ l. record { number = number + 1; words = codes "f" ∷ p.first ∷ p.second ∷ p.third ∷ [] } ∷ l) (sym g);
  added = triangle_added vertices before text a b c rest i j k points faces name p e room;
}
