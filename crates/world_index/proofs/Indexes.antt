-- An index when its boxes, its tree or its list are made anew, and the work that it keeps.
use Rattle.std.proofs.Common.{◌≡◌, ◌∙◌, ℕ, ap, sym, subst, refl, List, [], length}
use Rattle.std.specs.Prelude.{IfSome, Option, Vec}
use Rattle.std.specs.declared.alloc.Global.{Global}
use Rattle.fixed_box.specs.declared.shapes.Point.{Point}
use Rattle.fixed_box.specs.declared.shapes.Box3.{Box3}
use Rattle.obj_text.specs.declared.face.Face.{Face}
use Rattle.morton_key.specs.Order.{order_of}
use Rattle.radix_tree.specs.Table.{Contents}
use Rattle.radix_tree.specs.Fit.{IsFitted, table_of}
use Rattle.walk_list.specs.Lists as lists
use Rattle.walk_list.specs.Lists.{IsOver}
use Rattle.walk_list.specs.Leaves.{leaves_of}
use Rattle.world_index.specs.declared.index.Index.{Index}
use Rattle.world_index.specs.declared.fans.Fans.{Fans}
use Rattle.world_index.specs.declared.ways.BuiltWays.{BuiltWays}
use Rattle.world_index.specs.declared.last_work.LastWork.{LastWork}
use Rattle.world_index.specs.declared.last_work.LastWork.TheVariants.{Counted, Uncounted}
use Rattle.world_index.specs.Worlds.{boxes_at}
use Rattle.world_index.specs.Marks.{Marked}
use Rattle.world_index.specs.Fans.{AreFans}
use Rattle.world_index.specs.Live.{ArePositions}
use Rattle.world_index.specs.WaysUp.{IsWayUp}
use Rattle.world_index.specs.Kept.{IsIndex, IsFittedTo, IsCountable, WereFitted}
use Rattle.world_index.proofs.MendedBoxes.{length-boxes_at, right_in_list}

-- over boxes that the tree is fitted to, any work can be counted
countable : (work : LastWork) (tree : Contents) (boxes : List Box3) → IsFitted tree boxes → IsCountable work tree boxes
countable (Counted count) tree boxes fits = tt
countable (Uncounted around) tree boxes fits = fits

-- what is fitted to the boxes now
now_fitted : (index : Index) (now : List Point) (faces : List Face) → IsFittedTo index now faces →
    WereFitted index now faces
now_fitted index now faces fitted = record {
  before = index.boxes.items;
  count = refl;
  tree = fitted.fits;
  list = fitted.list;
  leaves = fitted.leaves;
  still = λ t lt still. right_in_list now faces index.boxes.items t lt fitted.each;
}

-- an index that is fitted, whatever is marked
pub fitted_index : (index : Index) (now : List Point) (faces : List Face) →
    index.tree.keys ≡ order_of (boxes_at index.built.value.items faces) → length index.tree.keys ≡ length faces →
    index.marks.vertices ≡ length now → IsFittedTo index now faces →
    IfSome index.fans (λ fans. AreFans fans faces (length now)) →
    IfSome index.ways (λ ways. IsWayUp ways index.tree.keys) →
    IfSome index.positions (λ positions. ArePositions positions.items index.tree.keys) → IsIndex index now faces
fitted_index index now faces keys triangles vertices fitted fans ways positions = record {
  boxes = ap length fitted.each ∙ length-boxes_at now faces;
  triangles = triangles;
  keys = keys;
  vertices = vertices;
  right = λ t lt still. right_in_list now faces index.boxes.items t lt fitted.each;
  fitted = λ still. fitted;
  were = now_fitted index now faces fitted;
  ways = ways;
  fans = fans;
  positions = positions;
  work = countable index.work index.tree index.boxes.items fitted.fits;
}

module _ (index : Index) (now : List Point) (faces : List Face) (old : IsIndex index now faces) where
  -- with the boxes of the points now, and its work counted
  pub boxes_made : (boxes : Vec Box3 Global) (fans : Option Fans) (count : ℕ) → boxes.items ≡ boxes_at now faces →
      IfSome fans (λ fans. AreFans fans faces (length now)) →
      IsIndex (record index { boxes = boxes; fans = fans; work = Counted count }) now faces
  boxes_made boxes fans count made chained = record {
    boxes = ap length made ∙ length-boxes_at now faces;
    triangles = old.triangles;
    keys = old.keys;
    vertices = old.vertices;
    right = λ t lt still. right_in_list now faces boxes.items t lt made;
    fitted = λ still. record {
      each = made;
      nodes = (old.fitted still).nodes;
      fits = subst (IsFitted index.tree) ((old.fitted still).each ∙ sym made) (old.fitted still).fits;
      list = subst (IsOver index.list) ((old.fitted still).each ∙ sym made) (old.fitted still).list;
      leaves = (old.fitted still).leaves
          ∙ ap (leaves_of index.tree.keys) ((old.fitted still).each ∙ sym made);
    };
    were = record {
      before = old.were.before;
      count = ap length made ∙ (length-boxes_at now faces ∙ (sym old.boxes ∙ old.were.count));
      tree = old.were.tree;
      list = old.were.list;
      leaves = old.were.leaves;
      still = old.were.still;
    };
    ways = old.ways;
    fans = chained;
    positions = old.positions;
    work = tt;
  }

  -- and with tree and list fitted to them
  pub tree_fitted : (boxes : List Box3) (tree : Contents) (list : lists.Contents) (ways : Option BuiltWays)
      (positions : Option (Vec ℕ Global)) (marks : Marked) →
      index.boxes.items ≡ boxes_at now faces → boxes ≡ index.boxes.items → tree.keys ≡ index.tree.keys →
      tree.nodes ≡ table_of index.tree.keys boxes → IsFitted tree boxes → IsOver list index.boxes.items →
      list.leaves ≡ leaves_of index.tree.keys index.boxes.items →
      IfSome ways (λ w. IsWayUp w index.tree.keys) →
      IfSome positions (λ ps. ArePositions ps.items index.tree.keys) → marks.vertices ≡ index.marks.vertices →
      IsIndex (record index { tree = tree; list = list; ways = ways; positions = positions; marks = marks }) now faces
  tree_fitted boxes tree list ways positions marks made same keys nodes fits over leaves up stand vertices =
      fitted_index (record index { tree = tree; list = list; ways = ways; positions = positions; marks = marks })
      now faces (keys ∙ old.keys) (ap length keys ∙ old.triangles) (vertices ∙ old.vertices) (record {
        each = made;
        nodes = nodes ∙ (ap (λ ks. table_of ks boxes) old.keys
            ∙ ap (table_of (order_of (boxes_at index.built.value.items faces))) (same ∙ made));
        fits = subst (IsFitted tree) same fits;
        list = over;
        leaves = leaves ∙ ap (λ ks. leaves_of ks index.boxes.items) (sym keys);
      }) old.fans (subst (λ ks. IfSome ways (λ w. IsWayUp w ks)) (sym keys) up)
      (subst (λ ks. IfSome positions (λ ps. ArePositions ps.items ks)) (sym keys) stand)

  -- with the way up and the positions of triangles found, or lost
  found : (ways : Option BuiltWays) (positions : Option (Vec ℕ Global)) →
      IfSome ways (λ w. IsWayUp w index.tree.keys) →
      IfSome positions (λ ps. ArePositions ps.items index.tree.keys) →
      IsIndex (record index { ways = ways; positions = positions }) now faces
  found ways positions up stand = record {
    boxes = old.boxes;
    triangles = old.triangles;
    keys = old.keys;
    vertices = old.vertices;
    right = old.right;
    fitted = λ still. record {
      each = (old.fitted still).each;
      nodes = (old.fitted still).nodes;
      fits = (old.fitted still).fits;
      list = (old.fitted still).list;
      leaves = (old.fitted still).leaves;
    };
    were = record {
      before = old.were.before;
      count = old.were.count;
      tree = old.were.tree;
      list = old.were.list;
      leaves = old.were.leaves;
      still = old.were.still;
    };
    ways = up;
    fans = old.fans;
    positions = stand;
    work = old.work;
  }

  -- the way up alone, where the tree is as it was
  pub ways_found : (tree : Contents) (ways : Option BuiltWays) → tree ≡ index.tree →
      IfSome ways (λ w. IsWayUp w index.tree.keys) → IsIndex (record index { tree = tree; ways = ways }) now faces
  ways_found tree ways same up =
      subst (λ t. IsIndex (record index { tree = t; ways = ways }) now faces) (sym same)
      (found ways index.positions up old.positions)

  -- the positions alone
  pub positions_found : (positions : Option (Vec ℕ Global)) →
      IfSome positions (λ ps. ArePositions ps.items index.tree.keys) →
      IsIndex (record index { positions = positions }) now faces
  positions_found positions stand = found index.ways positions old.ways stand

  -- with another box whose work is not counted yet, where no vertex is marked
  pub box_asked : (around : Box3) → index.marks.moved ≡ [] →
      IsIndex (record index { work = Uncounted around }) now faces
  box_asked around still =
      let fitted = old.fitted still in
      fitted_index (record index { work = Uncounted around }) now faces old.keys old.triangles old.vertices (record {
        each = fitted.each;
        nodes = fitted.nodes;
        fits = fitted.fits;
        list = fitted.list;
        leaves = fitted.leaves;
      }) old.fans old.ways old.positions
