-- Two parts of a text that stand one behind the other are one part.
use Rattle.std.proofs.Common.{◌≡◌, ℕ, ◌+◌, ◌≤◌, List, [], ◌++◌, length, length-append, refl, sym, ap, ap₂, subst, ◌∙◌, arith}
use Rattle.std.specs.Prelude.{map, Result, Ok, Err, IfOk, Option, None}
use Rattle.std.specs.Option.{option_or}
use Rattle.std.specs.Borrow.{Bor}
use Rattle.fixed_box.specs.declared.shapes.Point.{Point}
use Rattle.text_words.specs.Joins.{JoinedLine}
use Rattle.obj_text.specs.Sections.{renumbered, unnumbered}
use Rattle.obj_text.specs.Texts.{vertices_of, points_in, faces_in, first_faulty}
use Rattle.obj_text.specs.Places.{before, place_behind, readings_at}
use Rattle.obj_text.specs.Names.{known, known_names, last_known}
use Rattle.obj_text.specs.Parts.{names_of, run_behind, IsPart}
use Rattle.obj_text.specs.declared.face.Face.{Face}
use Rattle.obj_text.specs.declared.part.Run.{Run}
use Rattle.obj_text.specs.declared.part.Part.{Part}
use Rattle.obj_text.specs.declared.place.Place.{Place}
use Rattle.obj_text.specs.declared.place.Place.TheVariants.{Behind}
use Rattle.obj_text.specs.declared.limits.TheConstants.{MOST_FACES}
use Rattle.obj_text.proofs.Appending.{readings_at-append, points_in-append, faces_in-append, first_faulty-append, names_of_both, last_of_both, names_of-append, names_behind, known-or}
use Rattle.obj_text.proofs.PlacedLines.{readings_later}
use Rattle.obj_text.proofs.Renumbering.{points_in-renumbered, faces_in-renumbered, known_names-renumbered, last_known-renumbered, first_faulty-renumbered, first_faulty-own}
use Rattle.obj_text.proofs.TrianglesBefore.{readings_behind}

-- lines with other numbers are the same part
pub renumbered_part : (f : JoinedLine → ℕ) (unit vertices : ℕ) (place : Place) (lines : List JoinedLine)
    (points : List Point) (faces : List Face) (runs : List Run) (name : Option (Bor (List ℕ)))
    → IsPart unit vertices place lines points faces runs name
    → IsPart unit vertices place (map (renumbered f) lines) points faces runs name
renumbered_part f unit vertices place lines points faces runs name part = record {
  faultless = first_faulty-renumbered f unit vertices place 0 0 lines part.faultless;
  points_are = part.points_are ∙ sym (points_in-renumbered f unit vertices place 0 0 lines);
  faces_are = part.faces_are ∙ sym (faces_in-renumbered f unit vertices place 0 0 lines);
  names_are = part.names_are ∙ sym (known_names-renumbered f unit vertices place 0 0 None lines);
  name_is = part.name_is ∙ sym (last_known-renumbered f unit vertices place 0 0 None lines);
}

-- and so are lines with numbers of their own
own_part : (f : JoinedLine → ℕ) (unit vertices : ℕ) (place : Place) (lines : List JoinedLine)
    (points : List Point) (faces : List Face) (runs : List Run) (name : Option (Bor (List ℕ)))
    → IsPart unit vertices place (map (renumbered f) lines) points faces runs name
    → IsPart unit vertices place lines points faces runs name
own_part f unit vertices place lines points faces runs name part = record {
  faultless = first_faulty-own f unit vertices place 0 0 lines part.faultless;
  points_are = part.points_are ∙ points_in-renumbered f unit vertices place 0 0 lines;
  faces_are = part.faces_are ∙ faces_in-renumbered f unit vertices place 0 0 lines;
  names_are = part.names_are ∙ known_names-renumbered f unit vertices place 0 0 None lines;
  name_is = part.name_is ∙ last_known-renumbered f unit vertices place 0 0 None lines;
}

-- lines that differ in their numbers alone are the same part
pub same_part : (unit vertices : ℕ) (place : Place) (xs ys : List JoinedLine) (points : List Point)
    (faces : List Face) (runs : List Run) (name : Option (Bor (List ℕ))) → map unnumbered xs ≡ map unnumbered ys
    → IsPart unit vertices place xs points faces runs name → IsPart unit vertices place ys points faces runs name
same_part unit vertices place xs ys points faces runs name e part =
    own_part (λ l. 0) unit vertices place ys points faces runs name
    (subst (λ k. IsPart unit vertices place k points faces runs name) e
    (renumbered_part (λ l. 0) unit vertices place xs points faces runs name part))

-- a part and the next one are the part of both their lines, if there is room for the triangles of both
pub both_parts : (unit vertices : ℕ) (place : Place) (xs ys : List JoinedLine) (ps qs : List Point)
    (fs gs : List Face) (rs ss : List Run) (m n : Option (Bor (List ℕ))) → IsPart unit vertices place xs ps fs rs m
    → IsPart unit vertices (place_behind place (vertices_of xs)) ys qs gs ss n
    → length fs + length gs ≤ MOST_FACES
    → IsPart unit vertices place (xs ++ ys) (ps ++ qs) (fs ++ gs) (rs ++ map (run_behind m) ss) (option_or n m)
both_parts unit vertices place xs ys ps qs fs gs rs ss m n first second room =
    let v = vertices_of xs in
    let front = readings_at unit vertices place 0 0 xs in
    let alone = readings_at unit vertices (place_behind place v) 0 0 ys in
    let behind = readings_at unit vertices place (0 + v) (0 + length (faces_in front)) ys in
    let moved : 0 + length (faces_in front) ≡ length (faces_in front) + 0 = omega arith in
    let counted : 0 + v ≡ v + 0 = omega arith in
    let few : length (faces_in front) + 0 + length (faces_in alone) ≤ MOST_FACES =
    omega (arith, room, ap (λ k. length k) first.faces_are, ap (λ k. length k) second.faces_are) in
    let same : behind ≡ alone =
    ap (λ k. readings_at unit vertices place k (0 + length (faces_in front)) ys) counted
    ∙ ap (λ k. readings_at unit vertices place (v + 0) k ys) moved
    ∙ readings_later unit vertices place v 0 (length (faces_in front) + 0) ys
    ∙ readings_behind (length (faces_in front)) unit vertices (place_behind place v) 0 0 ys second.faultless few in
    let whole : readings_at unit vertices place 0 0 (xs ++ ys) ≡ front ++ alone =
    readings_at-append unit vertices place 0 0 xs ys ∙ ap (λ k. front ++ k) same in
    let under = λ (k : List (Option (List ℕ))). map (λ o. option_or o (known m)) k in
    record {
      faultless = ap first_faulty whole ∙ first_faulty-append front alone first.faultless ∙ second.faultless;
      points_are = ap (λ k. k ++ qs) first.points_are ∙ ap (λ k. points_in front ++ k) second.points_are
          ∙ sym (points_in-append front alone) ∙ ap points_in (sym whole);
      faces_are = ap (λ k. k ++ gs) first.faces_are ∙ ap (λ k. faces_in front ++ k) second.faces_are
          ∙ sym (faces_in-append front alone) ∙ ap faces_in (sym whole);
      names_are = names_of-append rs (map (run_behind m) ss)
          ∙ ap (λ k. names_of rs ++ k) (names_behind m ss)
          ∙ ap (λ k. k ++ under (names_of ss)) first.names_are
          ∙ ap (λ k. known_names None front ++ under k) second.names_are
          ∙ ap (λ k. known_names None front ++ map (λ o. option_or o k) (known_names None alone)) first.name_is
          ∙ sym (names_of_both front alone) ∙ ap (known_names None) (sym whole);
      name_is = known-or n m ∙ ap₂ option_or second.name_is first.name_is
          ∙ sym (last_of_both front alone) ∙ ap (last_known None) (sym whole);
    }

-- the same of a part whose lists are known
pub part_of_both : (unit vertices : ℕ) (place : Place) (xs ys all : List JoinedLine) (first second part : Part)
    → all ≡ xs ++ ys
    → IsPart unit vertices place xs first.points.items first.faces.items first.runs.items first.name
    → IsPart unit vertices (place_behind place (vertices_of xs)) ys second.points.items second.faces.items
    second.runs.items second.name
    → part.points.items ≡ first.points.items ++ second.points.items
    → part.faces.items ≡ first.faces.items ++ second.faces.items
    → part.runs.items ≡ first.runs.items ++ map (run_behind first.name) second.runs.items
    → part.name ≡ option_or second.name first.name
    → length part.faces.items ≤ MOST_FACES
    → IsPart unit vertices place all part.points.items part.faces.items part.runs.items part.name
part_of_both unit vertices place xs ys all first second part e a b p f r n few =
    let points = first.points.items ++ second.points.items in
    let faces = first.faces.items ++ second.faces.items in
    let runs = first.runs.items ++ map (run_behind first.name) second.runs.items in
    let name = option_or second.name first.name in
    let room : length first.faces.items + length second.faces.items ≤ MOST_FACES =
    omega (arith, few, ap (λ k. length k) f, length-append first.faces.items second.faces.items) in
    let both = both_parts unit vertices place xs ys first.points.items second.points.items first.faces.items
    second.faces.items first.runs.items second.runs.items first.name second.name a b room in
    let whole = subst (λ k. IsPart unit vertices place k points faces runs name) (sym e) both in
    subst (λ k. IsPart unit vertices place all k part.faces.items part.runs.items part.name) (sym p)
    (subst (λ k. IsPart unit vertices place all points k part.runs.items part.name) (sym f)
    (subst (λ k. IsPart unit vertices place all points faces k part.name) (sym r)
    (subst (λ k. IsPart unit vertices place all points faces runs k) (sym n) whole)))

-- a part that may be there, of lines that differ in their numbers alone, and of as many vertices
pub same_if_there : {E : Type 0} (unit vertices others : ℕ) (xs ys : List JoinedLine)
    (result : Result Part E) → vertices ≡ others → map unnumbered xs ≡ map unnumbered ys
    → IfOk result (λ part. IsPart unit vertices (Behind 0) xs part.points.items part.faces.items part.runs.items part.name)
    → IfOk result (λ part. IsPart unit others (Behind 0) ys part.points.items part.faces.items part.runs.items part.name)
same_if_there unit vertices others xs ys (Err fault) v e h = tt
same_if_there unit vertices others xs ys (Ok part) v e h =
    subst (λ k. IsPart unit k (Behind 0) ys part.points.items part.faces.items part.runs.items part.name) v
    (same_part unit vertices (Behind 0) xs ys part.points.items part.faces.items part.runs.items part.name e h)
