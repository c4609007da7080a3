-- A whole text, read as one part.
use Rattle.std.proofs.Common.{◌≡◌, ℕ, List, [], ◌∷◌, ◌++◌, length, refl, sym, ap, ap₂, subst, ◌∙◌, arith, Ok, Err, Result}
use Rattle.std.specs.Prelude.{map, replicate, codes, Option, None, Some, IfErr}
use Rattle.std.specs.Option.{unwrap_or}
use Rattle.std.specs.List.{All}
use Rattle.std.specs.Borrow.{Bor}
use Rattle.std.proofs.lemmas.List.{length-map, map-append}
use Rattle.fixed_box.specs.World.{InWorld}
use Rattle.fixed_box.specs.declared.shapes.Point.{Point}
use Rattle.text_words.specs.Joins.{joined_lines_of}
use Rattle.obj_text.specs.Meshes.{MeshLists, IsFaceOf}
use Rattle.obj_text.specs.Rows.{Given, Nothing, Vertex, Triangles, GroupName, name_after}
use Rattle.obj_text.specs.Texts.{Reading, FaultyLine, vertices_of, readings, readings_of, points_in, faces_in, names_in, first_faulty, faces_read, name_read, mesh_of, mesh_of_lines, mesh_in, unless_faulty, IsRefusalOf}
use Rattle.obj_text.specs.Places.{readings_at}
use Rattle.obj_text.specs.Names.{known_after, known_read, known_names, names_or}
use Rattle.obj_text.specs.Parts.{IsPart, IsFirstFault, MakesMesh, mesh_from, names_of}
use Rattle.obj_text.specs.declared.face.Face.{Face}
use Rattle.obj_text.specs.declared.fault.Why.{Why}
use Rattle.obj_text.specs.declared.fault.MeshFault.{MeshFault}
use Rattle.obj_text.specs.declared.fault.MeshFault.TheVariants.{Line, Memory}
use Rattle.obj_text.specs.declared.part.Run.{Run}
use Rattle.obj_text.specs.declared.place.Place.TheVariants.{Behind}
use Rattle.obj_text.proofs.Faultless.{lines_lawful, length-known_names}
use Rattle.obj_text.proofs.Grouping.{map_replicate}
use Rattle.obj_text.proofs.PlacedLines.{readings_there}

-- the part is a whole text
abbrev pub IsWhole : ℕ → List ℕ → List Point → List Face → List Run → Option (Bor (List ℕ)) → Type 0
IsWhole unit text points faces runs name =
    IsPart unit (vertices_of (joined_lines_of text)) (Behind 0) (joined_lines_of text) points faces runs name

-- then it makes a mesh
pub whole_makes_mesh : (unit : ℕ) (text : List ℕ) (points : List Point) (faces : List Face) (runs : List Run)
    (name : Option (Bor (List ℕ))) → IsWhole unit text points faces runs name
    → MakesMesh points faces (names_or (codes "default") (names_of runs))
whole_makes_mesh unit text points faces runs name p =
    let lines = joined_lines_of text in
    let read = readings_at unit (vertices_of lines) (Behind 0) 0 0 lines in
    let is = lines_lawful unit (vertices_of lines) (Behind 0) 0 0 lines (omega arith) (omega arith) (omega arith)
    p.faultless in
    let of_points = subst (λ n. All (IsFaceOf n) (faces_in read)) (sym is.as_many) is.named in
    record {
      in_world = subst (All InWorld) (sym p.points_are) is.in_world;
      named = subst (λ k. All (IsFaceOf (length k)) faces) (sym p.points_are)
          (subst (All (IsFaceOf (length (points_in read)))) (sym p.faces_are) of_points);
      one_name = length-map (names_of runs) (λ k. unwrap_or k (codes "default"))
          ∙ ap (λ k. length k) p.names_are ∙ length-known_names None read
          ∙ ap (λ k. length k) (sym p.faces_are);
      few_points = omega (arith, ap (λ k. length k) p.points_are, is.few_points);
      few_faces = omega (arith, ap (λ k. length k) p.faces_are, is.few_faces);
    }

-- a name that is known behind what a line gives, or else the one before the text, is the current one there
after_or : (name : List ℕ) (k : Option (List ℕ)) (given : Given)
    → unwrap_or (known_after k given) name ≡ name_after (unwrap_or k name) given
after_or name k Nothing = refl
after_or name k (Vertex point) = refl
after_or name k (Triangles faces) = refl
after_or name k (GroupName next) = refl

-- and behind a line
read_or : (name : List ℕ) (k : Option (List ℕ)) (given : Result Given Why)
    → unwrap_or (known_read k given) name ≡ name_read (unwrap_or k name) given
read_or name k (Ok given) = after_or name k given
read_or name k (Err why) = refl

-- so the names that are known, or else the one before the text, are those of its triangles
names_are_all : (name : List ℕ) (k : Option (List ℕ)) (rs : List Reading)
    → names_or name (known_names k rs) ≡ names_in (unwrap_or k name) rs
names_are_all name k [] = refl
names_are_all name k (r ∷ rs) =
    let n = length (faces_read r.given) in
    let or = λ (o : Option (List ℕ)). unwrap_or o name in
    map-append or (replicate n k) (known_names (known_read k r.given) rs)
    ∙ ap₂ (λ a b. a ++ b) (map_replicate or n k) (names_are_all name (known_read k r.given) rs)
    ∙ ap (λ l. replicate n (unwrap_or k name) ++ names_in l rs) (read_or name k r.given)

-- the mesh of lines without a fault
mesh_faultless : (rs : List Reading) → first_faulty rs ≡ None → mesh_in rs ≡ Ok (mesh_of_lines rs)
mesh_faultless rs e = ap (λ o. unless_faulty o (mesh_of_lines rs)) e

-- the mesh of a whole text that is one part
pub whole_mesh : (unit : ℕ) (text : List ℕ) (points : List Point) (faces : List Face) (runs : List Run)
    (name : Option (Bor (List ℕ))) → IsWhole unit text points faces runs name
    → mesh_of unit text ≡ Ok (mesh_from points faces (names_or (codes "default") (names_of runs)))
whole_mesh unit text points faces runs name p =
    let lines = joined_lines_of text in
    let v = vertices_of lines in
    let there : readings_at unit v (Behind 0) 0 0 lines ≡ readings_of unit text = readings_there unit v 0 0 0 lines in
    let names : names_or (codes "default") (names_of runs) ≡ names_in (codes "default") (readings_of unit text) =
    ap (names_or (codes "default")) p.names_are
    ∙ names_are_all (codes "default") None (readings_at unit v (Behind 0) 0 0 lines)
    ∙ ap (names_in (codes "default")) there in
    mesh_faultless (readings_of unit text) (ap first_faulty (sym there) ∙ p.faultless)
    ∙ ap (λ l. Ok (mesh_from l (faces_in (readings_of unit text)) (names_in (codes "default") (readings_of unit text))))
    (sym (p.points_are ∙ ap points_in there))
    ∙ ap (λ l. Ok (mesh_from points l (names_in (codes "default") (readings_of unit text))))
    (sym (p.faces_are ∙ ap faces_in there))
    ∙ ap (λ l. Ok (mesh_from points faces l)) (sym names)

-- what a refusal of a part says of a text that is one part
fault_by : (fault : Option FaultyLine) (mesh : MeshLists) (refusal : MeshFault) → IsFirstFault fault refusal
    → IsRefusalOf (unless_faulty fault mesh) refusal
fault_by fault mesh (Line line why) is = ap (λ o. unless_faulty o mesh) is
fault_by fault mesh Memory is = tt

-- the refusal of a whole text
whole_refused : (unit : ℕ) (text : List ℕ) (refusal : MeshFault)
    → IsFirstFault (first_faulty (readings_at unit (vertices_of (joined_lines_of text)) (Behind 0) 0 0
    (joined_lines_of text))) refusal → IsRefusalOf (mesh_of unit text) refusal
whole_refused unit text refusal is =
    let lines = joined_lines_of text in
    fault_by (first_faulty (readings_of unit text)) (mesh_of_lines (readings_of unit text)) refusal
    (subst (λ rs. IsFirstFault (first_faulty rs) refusal) (readings_there unit (vertices_of lines) 0 0 0 lines) is)

-- where there is one
pub refused_if : {A : Type 0} (unit : ℕ) (text : List ℕ) (result : Result A MeshFault)
    → IfErr result (IsFirstFault (first_faulty (readings_at unit (vertices_of (joined_lines_of text)) (Behind 0) 0 0
    (joined_lines_of text)))) → IfErr result (IsRefusalOf (mesh_of unit text))
refused_if unit text (Ok value) is = tt
refused_if unit text (Err refusal) is = whole_refused unit text refusal is
