-- A subtree's records within the list: its own record, and the subtrees of its two parts.
use Rattle.std.proofs.Common.{◌≡◌, ℕ, ◌+◌, ◌<◌, ◌≢◌, refl, sym, ap, ◌∙◌, arith, subst, List, [], ◌∷◌, ◌++◌, length, drop, get_or, append-nil, append_assoc}
use Rattle.std.proofs.lemmas.List.{get_or_default, drop_more, drop-drop, length-drop}
use Rattle.walk_list.specs.declared.records.Leaf.{Leaf}
use Rattle.walk_list.specs.declared.records.Record.{Record}
use Rattle.walk_list.specs.Covering.{Bounds, Covers, CoversAll}
use Rattle.walk_list.specs.Records.{record_at, no_record}
use Rattle.walk_list.specs.Parts.{IsSubtreeAt}
use Rattle.walk_list.proofs.Coverings.{drop_front, covers_some, covers_order, covers_end, covers_escape, covers_bounds, covers_parts}

-- the record of a number, where it begins what is left of the list
first_left : (records : List Record) (i : ℕ) (x : Record) (xs : List Record) → drop i records ≡ x ∷ xs →
    (i < length records) × (record_at records i ≡ x) × (drop (i + 1) records ≡ xs)
unfolding record_at
first_left records i x xs e =
    let some : 0 < length (drop i records) = omega (arith, ap length e) in
    let lt : i < length records = omega (arith, length-drop i records) in
    let own : get_or records i no_record ∷ drop (i + 1) records ≡ x ∷ xs = sym (drop_more records i no_record lt) ∙ e in
    let head : get_or records i no_record ≡ x = cc in
    let tail : drop (i + 1) records ≡ xs = cc in
    (lt, head, tail)

-- a record that is read is that of its number
read_record : (records read : List Record) (i : ℕ) (x : Record) → read ≡ records → i < length records →
    x ≡ get_or read i x → x ≡ record_at records i
unfolding record_at
read_record records read i x same lt is =
    is ∙ (ap (λ xs. get_or xs i x) same ∙ get_or_default records i x no_record lt)

-- the whole list is a subtree's
pub whole_subtree : (leaves : List Leaf) (records : List Record) → CoversAll leaves records → 0 < length records →
    (IsSubtreeAt leaves records 0 0) × ((record_at records 0).end ≡ length leaves)
unfolding record_at
whole_subtree leaves [] c some = absurd (omega arith)
whole_subtree leaves (r ∷ rs) c some =
    let end : r.end ≡ length leaves = covers_end (Bounds leaves) r rs 0 (length leaves) c in (
      record {
        part = r ∷ rs;
        behind = [];
        front = sym (append-nil (r ∷ rs));
        inside = omega (arith, end);
        covers = subst (λ z. Covers leaves (r ∷ rs) 0 z) (sym end) c;
      },
      end,
    )

-- what is known of a subtree's own record
pub own_bounds : (leaves : List Leaf) (records : List Record) (i a : ℕ) → IsSubtreeAt leaves records i a →
    Bounds leaves (record_at records i).fit a (record_at records i).end
own_bounds leaves records i a s = own s.part s.front s.covers
  where
    own : (part : List Record) → drop i records ≡ part ++ s.behind → Covers leaves part a (record_at records i).end →
        Bounds leaves (record_at records i).fit a (record_at records i).end
    own [] e c = absurd (omega (arith, covers_some (Bounds leaves) [] a _ c))
    own (x ∷ xs) e c =
        let at = first_left records i x (xs ++ s.behind) e in
        subst (λ (z : Record). Bounds leaves z.fit a (record_at records i).end) (sym at.1)
        (covers_bounds (Bounds leaves) x xs a (record_at records i).end c)

-- the subtrees of its two parts; the left one's own record is the next
pub record Halves (leaves : List Leaf) (records : List Record) (i a : ℕ) (next : Record) : Type 0 where
  pub next_is : next ≡ record_at records (i + 1)
  pub left_in : i + 1 < length records
  pub left : IsSubtreeAt leaves records (i + 1) a
  pub right_in : i + 1 + next.escape < length records
  pub right : IsSubtreeAt leaves records (i + 1 + next.escape) next.end
  pub right_end : (record_at records (i + 1 + next.escape)).end ≡ (record_at records i).end

-- a record that is no run has them
pub halves : {leaves : List Leaf} {records : List Record} {i a : ℕ} → IsSubtreeAt leaves records i a →
    (record_at records i).escape ≢ 1 → Halves leaves records i a (record_at records (i + 1))
halves {leaves = leaves} {records = records} {i = i} {a = a} s inner = own s.part s.front s.covers
  where
    own : (part : List Record) → drop i records ≡ part ++ s.behind → Covers leaves part a (record_at records i).end →
        Halves leaves records i a (record_at records (i + 1))
    own [] e c = absurd (omega (arith, covers_some (Bounds leaves) [] a _ c))
    own (x ∷ xs) e c =
        let at = first_left records i x (xs ++ s.behind) e in
        let escape = covers_escape (Bounds leaves) x xs a (record_at records i).end c in
        let same : (record_at records i).escape ≡ x.escape = ap (λ (z : Record). z.escape) at.1 in
        let many : 1 < x.escape = omega arith in
        let p = covers_parts (Bounds leaves) x xs a (record_at records i).end c many in
        let below : drop (i + 1) records ≡ p.l ∷ (p.ls ++ ((p.r ∷ p.rs') ++ s.behind)) =
        at.2 ∙ (ap (λ ys. ys ++ s.behind) p.parts ∙ append_assoc (p.l ∷ p.ls) (p.r ∷ p.rs') s.behind) in
        let left_at = first_left records (i + 1) p.l (p.ls ++ ((p.r ∷ p.rs') ++ s.behind)) below in
        let l_is : record_at records (i + 1) ≡ p.l = left_at.1 in
        let l_escape : (record_at records (i + 1)).escape ≡ length (p.l ∷ p.ls) =
        omega (
          arith,
          ap (λ (z : Record). z.escape) l_is,
          covers_escape (Bounds leaves) p.l p.ls a p.l.end p.on_left,
        ) in
        let l_end : (record_at records (i + 1)).end ≡ p.l.end = ap (λ (z : Record). z.end) l_is in
        let past : drop (i + 1 + (record_at records (i + 1)).escape) records ≡ p.r ∷ (p.rs' ++ s.behind) =
        ap (λ n. drop (i + 1 + n) records) l_escape
        ∙ (sym (drop-drop (length (p.l ∷ p.ls)) (i + 1) records)
        ∙ (ap (drop (length (p.l ∷ p.ls))) below
        ∙ drop_front (p.l ∷ p.ls) ((p.r ∷ p.rs') ++ s.behind))) in
        let right_at = first_left records (i + 1 + (record_at records (i + 1)).escape) p.r (p.rs' ++ s.behind) past in
        let r_end : (record_at records (i + 1 + (record_at records (i + 1)).escape)).end ≡ (record_at records i).end =
        ap (λ (z : Record). z.end) right_at.1
        ∙ covers_end (Bounds leaves) p.r p.rs' p.l.end (record_at records i).end p.on_right in
        let order = covers_order leaves (p.r ∷ p.rs') p.l.end (record_at records i).end p.on_right in
        record {
          next_is = refl;
          left_in = left_at.0;
          left = record {
            part = p.l ∷ p.ls;
            behind = (p.r ∷ p.rs') ++ s.behind;
            front = below;
            inside = omega (arith, l_end, order, s.inside);
            covers = subst (λ z. Covers leaves (p.l ∷ p.ls) a z) (sym l_end) p.on_left;
          };
          right_in = right_at.0;
          right = record {
            part = p.r ∷ p.rs';
            behind = s.behind;
            front = past;
            inside = omega (arith, r_end, s.inside);
            covers = subst (λ z. Covers leaves (p.r ∷ p.rs') (record_at records (i + 1)).end z) (sym r_end)
                (subst (λ z. Covers leaves (p.r ∷ p.rs') z (record_at records i).end) (sym l_end) p.on_right);
          };
          right_end = r_end;
        }

-- and so has one whose next record was read
pub halves_read : {leaves : List Leaf} {records read : List Record} {i a : ℕ} {next : Record} →
    IsSubtreeAt leaves records i a → (record_at records i).escape ≢ 1 → read ≡ records →
    next ≡ get_or read (i + 1) next → Halves leaves records i a next
halves_read {leaves = leaves} {records = records} {read = read} {i = i} {a = a} {next = next} s inner same is =
    let h = halves s inner in
    subst (Halves leaves records i a) (sym (read_record records read (i + 1) next same h.left_in is)) h
