-- The positions of the triangles that use moved vertices, while they are gathered, and when they are sorted.
use Rattle.std.proofs.Common.{◌≡◌, ℕ, ◌+◌, ◌-◌, ◌<◌, ◌≤◌, ◌⊎◌, inl, inr, sym, ap, ◌∙◌, arith, subst, List, [], ◌∷◌, ◌++◌, length, get_or, suc, zero, set, eqb}
use Rattle.std.specs.List.{Contains, dedup, All}
use Rattle.std.specs.List.Sorted.{IsSorted, IsPermutation}
use Rattle.std.specs.Ordering.{nat_cmp}
use Rattle.std.proofs.Math.ListN.{length-set}
use Rattle.std.proofs.lemmas.Bool.{cases_eq, cases_lt}
use Rattle.std.proofs.lemmas.List.{get_or-set_same, get_or-set_other, get_or_default}
use Rattle.std.proofs.lemmas.List.Elements.{Contains-append_left, Contains-push, Contains-push_cases, at_from_Contains, All-from_get_or}
use Rattle.std.proofs.lemmas.List.Kept.{AllPairs-from_increasing, Contains-dedup_nat, Contains-from_dedup}
use Rattle.std.proofs.lemmas.List.Sorted.{Contains-permutation, IsPermutation-sym}
use Rattle.std.proofs.lemmas.Map.Keys.{IsStrictlyIncreasing-dedup}
use Rattle.morton_key.specs.declared.keys.Key.{Key}
use Rattle.morton_key.specs.Keys.{tri_at, IsLawful}
use Rattle.morton_key.proofs.Numbers.{tri_found, tri_apart}
use Rattle.obj_text.specs.declared.face.Face.{Face}
use Rattle.world_index.specs.Fans.{HasVertex, face_at, IsLatest}
use Rattle.world_index.specs.Live.{StandsStill, AreLive, position_at, ArePositionsTo, ArePositions, IsOfFan, AddsFan, AreOfFans, AreSortedFans}

-- a number stands in a list, or it does not
pub listed_or_not : (xs : List ℕ) (x : ℕ) → Contains xs x ⊎ (¬ Contains xs x)
listed_or_not [] x = inr (λ (k, lt, e). absurd (omega (arith, lt)))
listed_or_not (y ∷ ys) x = elim (cases_eq y x) [
  | inl e ↦ inl (0, omega arith, e)
  | inr ne ↦ elim (listed_or_not ys x) [
    | inl (k, lt, e) ↦ inl (suc k, omega (arith, lt), e)
    | inr none ↦ inr (behind ne none)
  ]
]
  where
    behind : (¬ (y ≡ x)) → (¬ Contains ys x) → ¬ Contains (y ∷ ys) x
    behind ne none (zero, lt, e) = ne e
    behind ne none (suc k, lt, e) = none (k, omega (arith, lt), e)

-- the number at a place of a list stands in it
listed_at : (xs : List ℕ) (k : ℕ) → k < length xs → Contains xs (get_or xs k 0)
listed_at xs k lt = (k, lt, get_or_default xs k (get_or xs k 0) 0 lt)

-- what holds of each number that stands in a list holds of all
all_listed : (P : ℕ → Type 0) (xs : List ℕ) → ((x : ℕ) → Contains xs x → P x) → All P xs
all_listed P xs each = All-from_get_or P xs 0 (λ k lt. each (get_or xs k 0) (listed_at xs k lt))

module _ (faces : List Face) (positions : List ℕ) (v : ℕ) where
  -- a step further back along it
  pub one_added : (before after : List ℕ) (next x p : ℕ) → 0 < next → next ≤ length faces →
      HasVertex (face_at faces (next - 1)) v → p ≡ position_at positions (next - 1) → IsLatest faces (next - 1) v x →
      AddsFan faces positions v next before after → AddsFan faces positions v x before (after ++ p ∷ [])
  one_added before after next x p some within has here latest added = record {
    kept = λ q listed. Contains-append_left after (p ∷ []) q (added.kept q listed);
    all = λ t lt uses low. elim (cases_lt t (next - 1)) [
      | inl earlier ↦ absurd (omega (arith, latest.all t earlier uses, low))
      | inr behind ↦ elim (cases_eq t (next - 1)) [
        | inl e ↦ subst (Contains (after ++ p ∷ [])) (here ∙ ap (position_at positions) (sym e)) (Contains-push after p)
        | inr ne ↦ Contains-append_left after (p ∷ []) (position_at positions t)
            (added.all t lt uses (omega (arith, behind, ne)))
      ]
    ];
    alone = λ q listed. elim (Contains-push_cases after p q listed) [
      | inl old ↦ added.alone q old
      | inr own ↦ inr (record {
        triangle = next - 1;
        within = omega (arith, some, within);
        uses = has;
        position = sym here ∙ own;
      })
    ];
  }

module _ (faces : List Face) (positions moved : List ℕ) where
  -- those of one vertex more
  pub one_fan_more : (n v : ℕ) (before after : List ℕ) → get_or moved n 0 ≡ v →
      AreOfFans faces positions moved n before → AddsFan faces positions v 0 before after →
      AreOfFans faces positions moved (n + 1) after
  one_fan_more n v before after is old added = record {
    all = λ t k lt below has. elim (cases_lt k n) [
      | inl earlier ↦ added.kept (position_at positions t) (old.all t k lt earlier has)
      | inr last ↦
          let e : k ≡ n = omega (arith, last, below) in
          added.all t lt (subst (HasVertex (face_at faces t)) (ap (λ i. get_or moved i 0) e ∙ is) has) (omega arith)
    ];
    alone = λ p listed. elim (added.alone p listed) [
      | inl was ↦ let (k, lt, fan) = old.alone p was in (k, omega (arith, lt), fan)
      | inr fan ↦ (n, omega arith, subst (λ u. IsOfFan faces positions u p) (sym is) fan)
    ];
  }

  -- sorted, and each once
  pub fans_sorted : (n : ℕ) (list sorted once : List ℕ) → n ≡ length moved → AreOfFans faces positions moved n list →
      IsPermutation list sorted → IsSorted nat_cmp sorted → once ≡ dedup eqb sorted →
      AreSortedFans faces positions moved once
  fans_sorted n list sorted once count fans same order is =
      subst (AreSortedFans faces positions moved) (sym is) (record {
        rising = AllPairs-from_increasing (dedup eqb sorted) (IsStrictlyIncreasing-dedup sorted order);
        fans = record {
          all = λ t k lt below has.
              let p = position_at positions t in
              Contains-dedup_nat sorted p (Contains-permutation list sorted p same
              (fans.all t k lt (omega (arith, below, count)) has));
          alone = λ p listed.
              let (k, lt, fan) = fans.alone p (Contains-permutation sorted list p (IsPermutation-sym list sorted same)
              (Contains-from_dedup eqb sorted p listed)) in
              (k, omega (arith, lt, count), fan);
        };
      })

module _ (faces : List Face) (keys : List Key) (lawful : IsLawful keys) (count : length keys ≡ length faces)
    (positions : List ℕ) (stand : ArePositions positions keys) where
  -- a triangle stands at its position
  stands_at : (t : ℕ) → t < length faces →
      (position_at positions t < length keys) × (tri_at keys (position_at positions t) ≡ t + 1)
  stands_at t lt =
      let (i, inside, is) = tri_found keys lawful (t + 1) (omega arith) (omega (arith, lt, count)) in
      let here : tri_at keys i - 1 ≡ t = omega (arith, is) in
      let e : position_at positions t ≡ i = ap (position_at positions) (sym here) ∙ stand.each i inside in
      (subst (λ p. p < length keys) (sym e) inside, ap (tri_at keys) e ∙ is)

  -- so what the triangles at moved vertices give is what is live
  pub fans_live : (moved live : List ℕ) → AreSortedFans faces positions moved live → AreLive faces keys moved live
  fans_live moved live listed = record {
    rising = listed.rising;
    below = all_listed (λ p. p < length keys) live (λ p here.
        let (k, lt, fan) = listed.fans.alone p here in
        subst (λ q. q < length keys) fan.position (stands_at fan.triangle fan.within).0);
    alone = all_listed (λ p. StandsStill faces keys moved p → ⊥) live (λ p here still.
        let (k, lt, fan) = listed.fans.alone p here in
        let number = ap (tri_at keys) (sym fan.position) ∙ (stands_at fan.triangle fan.within).1 in
        let at : tri_at keys p - 1 ≡ fan.triangle = omega (arith, number) in
        still (get_or moved k 0) (listed_at moved k lt)
        (subst (λ t. HasVertex (face_at faces t) (get_or moved k 0)) (sym at) fan.uses));
    each = λ p lt. elim (listed_or_not live p) [
      | inl here ↦ inl here
      | inr none ↦ inr (λ v among has.
          let at = at_from_Contains moved v among in
          none (subst (Contains live) (stand.each p lt) (listed.fans.all (tri_at keys p - 1) at.0
          (omega (arith, lawful.from_one p lt, lawful.to_count p lt, count)) at.1
          (subst (HasVertex (face_at faces (tri_at keys p - 1))) (sym (at.2 0)) has))))
    ];
  }

module _ (keys : List Key) (lawful : IsLawful keys) where
  -- one more stands at its triangle
  pub one_placed : (positions : List ℕ) (p t : ℕ) → p < length keys → t ≡ tri_at keys p - 1 →
      ArePositionsTo positions keys p → ArePositionsTo (set positions t p) keys (p + 1)
  one_placed positions p t lt is old = record {
    count = length-set positions t p ∙ old.count;
    each = λ q below. elim (cases_lt q p) [
      | inl earlier ↦ get_or-set_other positions t (tri_at keys q - 1) p 0 (λ e.
          tri_apart keys lawful q p earlier lt
          (omega (arith, e, is, lawful.from_one p lt, lawful.from_one q (omega (arith, earlier, lt)))))
          ∙ old.each q earlier
      | inr last ↦
          let e : q ≡ p = omega (arith, last, below) in
          ap (λ i. get_or (set positions t p) i 0) (ap (λ i. tri_at keys i - 1) e ∙ sym is)
          ∙ (get_or-set_same positions t p 0
          (omega (arith, is, lawful.from_one p lt, lawful.to_count p lt, old.count)) ∙ sym e)
    ];
  }
