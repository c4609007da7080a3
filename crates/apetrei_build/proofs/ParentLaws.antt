-- The nearer neighbour of a range names its parent.
use Rattle.std.proofs.Common.{◌≡◌, ℕ, suc, ◌-◌, ◌<◌, ◌≤◌, arith, inl, inr, subst, List, length, get_or}
use Rattle.std.proofs.lemmas.Bool.{cases_eq, cases_lt}
use Rattle.std.specs.Prelude.{Some, None}
use Rattle.morton_key.specs.declared.keys.Key.{Key}
use Rattle.morton_key.specs.Keys.{IsLawful}
use Rattle.morton_key.specs.Measure.{measure}
use Rattle.morton_key.proofs.KeyLaws.{measure_gap}
use Rattle.radix_tree.specs.Split.{split}
use Rattle.radix_tree.specs.Ranges.{IsRange}
use Rattle.radix_tree.proofs.RangeLaws.{range_laws, parent_law, Parent}
use Rattle.radix_tree.proofs.RangeLaws.Parent.{left_child, right_child}
use Rattle.arrival_core.specs.declared.packets.Side.TheVariants.{Left, Right}
use Rattle.arrival_core.specs.Settings.{above}
use Rattle.arrival_core.proofs.Parents.{range_node, above_left, above_right, above_whole}
use Rattle.apetrei_build.specs.Parents.{NearerIsAbove}
use Rattle.apetrei_build.specs.Measures.{AreMeasures}
use Rattle.apetrei_build.specs.Neighbours.{IsNearerBehind}

module _ (keys : List Key) (ok : IsLawful keys) where
  -- a left child's parent
  above_left_child : {a b e : ℕ} → IsRange keys a e → a < e → split keys a e ≡ b →
      above keys a b ≡ Some (record { split = b; side = Left })
  above_left_child {a} r lt is = subst (λ z. above keys a z ≡ Some (record { split = z; side = Left })) is
      (above_left keys ok (range_node keys ok r lt).1)

  -- a right child's
  above_right_child : {a b p : ℕ} → IsRange keys p b → p < b → split keys p b ≡ a - 1 → 0 < a →
      above keys a b ≡ Some (record { split = a - 1; side = Right })
  above_right_child {a} {b} r lt is pos =
      let e : suc (a - 1) ≡ a = omega arith in
      subst (λ z. above keys z b ≡ Some (record { split = a - 1; side = Right })) e
      (subst (λ z. above keys (suc z) b ≡ Some (record { split = z; side = Right })) is
      (above_right keys ok (range_node keys ok r lt).1))

  -- what the neighbours of a range that is not the whole tell
  told : {a b : ℕ} → IsRange keys a b → Parent keys ok a b → NearerIsAbove keys a b
  told {a} {b} r (left_child up lt is more less) =
      let x = range_laws keys ok r in
      let here = measure_gap keys ok b (suc b) x.within more in
      record {
        differ = λ pos _ same. omega (
          arith,
          less pos,
          here,
          x.order,
          measure_gap keys ok (a - 1) a (omega (arith, x.order, more)) (omega (arith, x.order, more)),
        );
        behind = λ _ _. above_left_child up lt is;
        before = λ pos greater. absurd (omega (
          arith,
          less pos,
          greater more,
          here,
          x.order,
          measure_gap keys ok (a - 1) a (omega (arith, x.order, more)) (omega (arith, x.order, more)),
        ));
        whole = λ _ all. absurd (omega (arith, more));
      }
  told {a} {b} r (right_child up lt is pos less) =
      let x = range_laws keys ok r in
      let here = measure_gap keys ok (a - 1) a (omega (arith, x.order, x.within)) (omega (arith, x.order, x.within)) in
      record {
        differ = λ _ more same. omega (arith, less more, here, measure_gap keys ok b (suc b) x.within more);
        behind = λ more greater. absurd (omega (
          arith,
          less more,
          greater pos,
          here,
          measure_gap keys ok b (suc b) x.within more,
        ));
        before = λ _ _. above_right_child up lt is pos;
        whole = λ first _. absurd (omega (arith, first, pos));
      }

  -- what those of every range tell
  pub nearer_is_above : (a b : ℕ) → IsRange keys a b → NearerIsAbove keys a b
  nearer_is_above a b r = elim (cases_eq a 0) [
    | inr below ↦ told r (parent_law keys ok r (λ z _. below z))
    | inl first ↦ elim (cases_eq (suc b) (length keys)) [
      | inr short ↦ told r (parent_law keys ok r (λ _ z. short z))
      | inl last ↦ record {
        differ = λ pos _ _. omega (arith, pos, first);
        behind = λ more _. absurd (omega (arith, more, last));
        before = λ pos _. absurd (omega (arith, pos, first));
        whole = λ _ _. above_whole keys ok a b first last;
      }
    ]
  ]

-- what a list of measures tells of a range
module _ (keys : List Key) (measures : List ℕ) (x : AreMeasures keys measures) (a b : ℕ) (r : IsRange keys a b) where
  -- it ends no earlier than it begins
  order : a ≤ b
  order = (range_laws keys x.lawful r).order

  -- it ends among the keys
  within : b < length keys
  within = (range_laws keys x.lawful r).within

  -- the measure behind it
  behind_is : b < length measures → get_or measures b 0 ≡ measure keys b (suc b)
  behind_is lt = x.each b (omega (arith, x.count))

  -- and the one before
  before_is : 0 < a → get_or measures (a - 1) 0 ≡ measure keys (a - 1) a
  before_is pos =
      let e : suc (a - 1) ≡ a = omega arith in
      subst (λ z. get_or measures (a - 1) 0 ≡ measure keys (a - 1) z) e (x.each (a - 1) (omega (arith, order, within)))

  -- where the one behind is greater, the range is a left child
  pub left_told : IsNearerBehind measures a b → above keys a b ≡ Some (record { split = b; side = Left })
  left_told near = (nearer_is_above keys x.lawful a b r).behind (omega (arith, near.follows, x.count))
      (λ pos. omega (arith, near.smaller pos, before_is pos, behind_is near.follows))

  -- where it is not, and one stands before, a right child
  pub right_told : 0 < a → (IsNearerBehind measures a b → ⊥) →
      above keys a b ≡ Some (record { split = a - 1; side = Right })
  right_told pos far =
      let law = nearer_is_above keys x.lawful a b r in
      law.before pos (λ more. elim (cases_lt (measure keys b (suc b)) (measure keys (a - 1) a)) [
        | inl lt ↦ lt
        | inr le ↦
            let follows : b < length measures = omega (arith, more, x.count) in
            absurd (elim (cases_eq (measure keys (a - 1) a) (measure keys b (suc b))) [
              | inl same ↦ law.differ pos more same
              | inr ne ↦
                  far (record {
                    follows = follows;
                    smaller = λ _. omega (arith, le, ne, before_is pos, behind_is follows);
                  })
            ])
      ])

  -- and where none stands before or behind, it is the whole
  pub none_told : a ≡ 0 → (IsNearerBehind measures a b → ⊥) → above keys a b ≡ None
  none_told first far =
      let last : length measures ≤ b = elim (cases_lt b (length measures)) [
        | inr le ↦ le
        | inl follows ↦ absurd (far (record { follows = follows; smaller = λ pos. absurd (omega (arith, pos, first)) }))
      ] in
      (nearer_is_above keys x.lawful a b r).whole first (omega (arith, last, within, x.count))
