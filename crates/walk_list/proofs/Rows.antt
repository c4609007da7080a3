-- A walk from left to right: what is known where it stands, and what a step of it does.
use Rattle.std.proofs.Common.{◌≡◌, ℕ, ◌+◌, ◌-◌, ◌<◌, ◌≤◌, ◌≢◌, refl, sym, ap, ◌∙◌, arith, subst, List, [], ◌∷◌, ◌++◌, length, drop, get_or, append-nil, append_assoc, false}
use Rattle.std.proofs.lemmas.List.{drop_more, drop-drop, drop_all, length-append}
use Rattle.fixed_box.specs.declared.shapes.Box3.{Box3}
use Rattle.fixed_box.specs.Extent.{boxes_meet}
use Rattle.walk_list.specs.declared.records.Leaf.{Leaf}
use Rattle.walk_list.specs.declared.records.Record.{Record}
use Rattle.walk_list.specs.Leaves.{met_of, met_between}
use Rattle.walk_list.specs.Covering.{Bounds, Covers, CoversAll, run, fork}
use Rattle.walk_list.specs.Parts.{CoversRest, done, more, StandsAt, Steps}
use Rattle.walk_list.proofs.Meetings.{met_between-none, met_between-parted, met_between-whole, missed}
use Rattle.walk_list.proofs.Coverings.{drop_front, covers_some, covers_order}

-- a walk begins at the first record
pub begins : (leaves : List Leaf) (records : List Record) → CoversAll leaves records → CoversRest leaves records 0
begins leaves [] c = done (sym c)
begins leaves (r ∷ rs) c = more (r ∷ rs) [] (length leaves) (sym (append-nil (r ∷ rs))) c (done refl)

-- what is left begins at one of the leaves, or behind the last
rest_within : (leaves : List Leaf) (rs : List Record) (a : ℕ) → CoversRest leaves rs a → a ≤ length leaves
rest_within leaves [] a (done e) = omega arith
rest_within leaves rs a (more part behind b e c rest) =
    omega (arith, covers_order leaves part a b c, rest_within leaves behind b rest)

-- what is known of the first record that is left
pub record First (leaves : List Leaf) (r : Record) (rs : List Record) (a : ℕ) : Type 0 where
  pub bounds : Bounds leaves r.fit a r.end
  pub end : r.end ≤ length leaves
  pub goes_on : 0 < r.escape
  pub past : CoversRest leaves (drop (r.escape - 1) rs) r.end
  pub below : r.escape ≢ 1 → CoversRest leaves rs a

-- those of the first subtree, with what is behind
first_of : (leaves : List Leaf) (x : Record) (xs behind : List Record) (a b : ℕ) → Covers leaves (x ∷ xs) a b →
    CoversRest leaves behind b → First leaves x (xs ++ behind) a
first_of leaves x [] behind a b (run one end here) rest =
    let nothing : 0 ≡ x.escape - 1 = omega arith in
    record {
      bounds = subst (Bounds leaves x.fit a) (sym end) here;
      end = subst (λ z. z ≤ length leaves) (sym end) (rest_within leaves behind b rest);
      goes_on = omega arith;
      past = subst (λ n. CoversRest leaves (drop n behind) x.end) nothing
          (subst (CoversRest leaves behind) (sym end) rest);
      below = λ ne. absurd (ne one);
    }
first_of leaves x xs behind a b (fork left right middle parts escape end here on_left on_right) rest =
    let count : x.escape - 1 ≡ length xs = omega arith in
    let past : drop (x.escape - 1) (xs ++ behind) ≡ behind =
    ap (λ n. drop n (xs ++ behind)) count ∙ drop_front xs behind in
    record {
      bounds = subst (Bounds leaves x.fit a) (sym end) here;
      end = subst (λ z. z ≤ length leaves) (sym end) (rest_within leaves behind b rest);
      goes_on = omega arith;
      past = subst (λ ys. CoversRest leaves ys x.end) (sym past) (subst (CoversRest leaves behind) (sym end) rest);
      below = λ ne. more left (right ++ behind) middle
          (ap (λ ys. ys ++ behind) parts ∙ append_assoc left right behind) on_left
          (more right behind b refl on_right rest);
    }

-- the same of all that is left
first_of_all : (leaves : List Leaf) (rs : List Record) (a : ℕ) → CoversRest leaves rs a →
    (r : Record) (ys : List Record) → rs ≡ r ∷ ys → First leaves r ys a
first_of_all leaves [] a (done f) r ys e = absurd (omega (arith, ap length e))
first_of_all leaves rs a (more part behind b g c rest) r ys e = whole part g c
  where
    whole : (part : List Record) → rs ≡ part ++ behind → Covers leaves part a b → First leaves r ys a
    whole [] g c = absurd (omega (arith, covers_some (Bounds leaves) [] a b c))
    whole (x ∷ xs) g c =
        let both : x ∷ (xs ++ behind) ≡ r ∷ ys = sym g ∙ e in
        let head : x ≡ r = cc in
        let tail : xs ++ behind ≡ ys = cc in
        subst (λ zs. First leaves r zs a) tail
        (subst (λ z. First leaves z (xs ++ behind) a) head (first_of leaves x xs behind a b c rest))

-- where a walk stands, of the record that is read there
pub here : (leaves : List Leaf) (records : List Record) (i a : ℕ) (r : Record) → StandsAt leaves records i a →
    i < length records → r ≡ get_or records i r → First leaves r (drop (i + 1) records) a
here leaves records i a r stands lt is =
    first_of_all leaves (drop i records) a stands r (drop (i + 1) records)
    (drop_more records i r lt ∙ ap (λ x. x ∷ drop (i + 1) records) (sym is))

module _ (leaves : List Leaf) (records : List Record) (q : Box3) (i a : ℕ) (r : Record) (before : List ℕ)
    (at : First leaves r (drop (i + 1) records) a) where
  -- past a record whose box misses
  pub step_past : boxes_meet r.fit q ≡ false → Steps leaves records q i a before before (i + r.escape) r.end
  step_past e =
      let goes = at.goes_on in
      let on : i + 1 + (r.escape - 1) ≡ i + r.escape = omega arith in
      record {
        on = omega arith;
        order = omega (arith, at.bounds.order);
        stands = subst (λ xs. CoversRest leaves xs r.end)
            (drop-drop (r.escape - 1) (i + 1) records ∙ ap (λ k. drop k records) on) at.past;
        added = sym (ap (λ xs. before ++ xs) (missed leaves q r.fit a r.end at.bounds at.end e) ∙ append-nil before);
      }

  -- into a record with others below it
  pub step_into : r.escape ≢ 1 → Steps leaves records q i a before before (i + 1) a
  step_into ne = record {
    on = omega arith;
    order = omega arith;
    stands = at.below ne;
    added = sym (ap (λ xs. before ++ xs) (met_between-none leaves q a a (omega arith)) ∙ append-nil before);
  }

  -- past a run whose leaves were tested
  pub step_over : (after : List ℕ) → r.escape ≡ 1 → after ≡ before ++ met_between leaves q a r.end →
      Steps leaves records q i a before after (i + 1) r.end
  step_over after one added =
      let nothing : r.escape - 1 ≡ 0 = omega arith in
      record {
        on = omega arith;
        order = omega (arith, at.bounds.order);
        stands = subst (λ n. CoversRest leaves (drop n (drop (i + 1) records)) r.end) nothing at.past;
        added = added;
      }

-- what was added so far and by one step
pub added_on : (leaves : List Leaf) (records : List Record) (q : Box3) (i a j b : ℕ) (start before after : List ℕ) →
    before ≡ start ++ met_between leaves q 0 a → Steps leaves records q i a before after j b →
    after ≡ start ++ met_between leaves q 0 b
added_on leaves records q i a j b start before after so_far s =
    s.added
    ∙ (ap (λ xs. xs ++ met_between leaves q a b) so_far
    ∙ (append_assoc start (met_between leaves q 0 a) (met_between leaves q a b)
    ∙ ap (λ xs. start ++ xs) (sym (met_between-parted leaves q 0 a b (omega arith) s.order))))

-- at the end of the list all leaves were seen
pub all_seen : (leaves : List Leaf) (records : List Record) (q : Box3) (i a : ℕ) (start now : List ℕ) →
    StandsAt leaves records i a → length records ≤ i → now ≡ start ++ met_between leaves q 0 a →
    now ≡ start ++ met_of q leaves
all_seen leaves records q i a start now stands le so_far =
    so_far
    ∙ ap (λ xs. start ++ xs) (met_between-whole leaves q a
    (at_end (drop i records) (drop_all i records le) stands))
  where
    at_end : (xs : List Record) → xs ≡ [] → CoversRest leaves xs a → length leaves ≤ a
    at_end [] e (done f) = omega arith
    at_end xs e (more part behind b g c rest) = absurd (omega (
      arith,
      ap length e,
      ap length g,
      length-append part behind,
      covers_some (Bounds leaves) part a b c,
    ))
