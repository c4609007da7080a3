-- What stays of an index when a vertex is moved and marked.
use Rattle.std.proofs.Common.{◌≡◌, ℕ, inl, inr, sym, ap, ◌∙◌, arith, subst, List, [], length, set}
use Rattle.std.specs.Prelude.{IfSome, pos}
use Rattle.std.specs.List.{Contains}
use Rattle.std.proofs.Math.ListN.{length-set}
use Rattle.std.proofs.lemmas.List.{get_or-set_other}
use Rattle.fixed_box.specs.Extent.{tri_box}
use Rattle.fixed_box.specs.declared.shapes.Point.{Point}
use Rattle.obj_text.specs.declared.face.Face.{Face}
use Rattle.world_index.specs.declared.index.Index.{Index}
use Rattle.world_index.specs.Worlds.{point_at, tri_of}
use Rattle.world_index.specs.Marks.{Marked}
use Rattle.world_index.specs.Fans.{face_at, HasVertex, AreFans}
use Rattle.world_index.specs.Kept.{IsIndex}

-- a triangle that does not use the vertex is as before
tri_stays : (now : List Point) (p : ℕ) (to : Point) (face : Face) → ¬ HasVertex face p →
    tri_of (set now p to) face ≡ tri_of now face
tri_stays now p to face hasnt =
    let none : Point = record { x = pos 0; y = pos 0; z = pos 0 } in
    let a = get_or-set_other now p face.a to none (λ e. hasnt (inl e)) in
    let b = get_or-set_other now p face.b to none (λ e. hasnt (inr (inl e))) in
    let c = get_or-set_other now p face.c to none (λ e. hasnt (inr (inr e))) in
    ap (λ z. record { a = z; b = point_at (set now p to) face.b; c = point_at (set now p to) face.c }) a
    ∙ (ap (λ z. record { a = point_at now face.a; b = z; c = point_at (set now p to) face.c }) b
    ∙ ap (λ z. record { a = point_at now face.a; b = point_at now face.b; c = z }) c)

-- an empty list has no vertex
none_among : (moved : List ℕ) (v : ℕ) (X : Type 0) → moved ≡ [] → Contains moved v → X
none_among moved v X e (k, lt, same) = absurd (omega (arith, lt, ap length e))

module _ (index : Index) (now : List Point) (faces : List Face) (old : IsIndex index now faces) (marks : Marked) (p : ℕ)
    (to : Point) (vertices : marks.vertices ≡ index.marks.vertices) (marked : Contains marks.moved p)
    (kept : (v : ℕ) → Contains index.marks.moved v → Contains marks.moved v) where
  -- the index with more marks is one over the points with that one moved
  pub moved_index : IsIndex (record index { marks = marks }) (set now p to) faces
  moved_index = record {
    boxes = old.boxes;
    triangles = old.triangles;
    keys = old.keys;
    vertices = vertices ∙ (old.vertices ∙ sym (length-set now p to));
    right = λ t lt still. old.right t lt (λ v among. still v (kept v among))
        ∙ sym (ap tri_box (tri_stays now p to (face_at faces t) (still p marked)));
    fitted = λ empty. none_among marks.moved p _ empty marked;
    were = record {
      before = old.were.before;
      count = old.were.count;
      tree = old.were.tree;
      list = old.were.list;
      leaves = old.were.leaves;
      still = λ t lt still. old.were.still t lt (λ v among. still v (kept v among))
          ∙ sym (ap tri_box (tri_stays now p to (face_at faces t) (still p marked)));
    };
    ways = old.ways;
    fans = subst (λ n. IfSome index.fans (λ fans. AreFans fans faces n)) (sym (length-set now p to)) old.fans;
    positions = old.positions;
    work = old.work;
  }
