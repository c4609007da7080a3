-- Two children that have a slot do not have the same one.
use Rattle.std.proofs.Common.{◌≡◌, ◌≢◌, ℕ, zero, suc, ◌+◌, ◌<◌, ◌≤◌, inl, inr, true, false, List, sym, refl, ap, ◌∙◌, subst, arith}
use Rattle.std.proofs.lemmas.Bool.{cases_eq, cases_lt, cases_order}
use Rattle.morton_key.specs.declared.keys.Key.{Key}
use Rattle.morton_key.specs.Keys.{IsLawful}
use Rattle.radix_tree.specs.Split.{split}
use Rattle.radix_tree.specs.Ranges.{IsRange, IsNode}
use Rattle.radix_tree.specs.Ranges.IsNode.{left_of, right_of}
use Rattle.radix_tree.proofs.SplitLaws.{split_laws}
use Rattle.radix_tree.proofs.NumberLaws.{proper}
use Rattle.radix_tree.proofs.NodeLaws.{node_within, split_low, split_high}
use Rattle.radix_tree.proofs.RangeLaws.{range_laws}
use Rattle.arrival_core.specs.declared.packets.Side.{Side}
use Rattle.arrival_core.specs.declared.packets.Side.TheVariants.{Left, Right}
use Rattle.arrival_core.specs.Settings.{row_of, below, frame_of}
use Rattle.arrival_core.specs.Events.{same}
use Rattle.arrival_core.proofs.SplitNames.{row_of_is}
use Rattle.arrival_core.proofs.Parents.{range_node, below_leaf, below_inner}
use Rattle.arrival_core.proofs.SplitRanges.{node_of, first_is, last_is, left_is, right_is, left_range, right_range}
use Rattle.box_handoff.specs.declared.views.Given.{Given}
use Rattle.box_handoff.specs.LiveNodes.{Shown, slot_below, slotted}
use Rattle.box_handoff.specs.Entries.{IsGiven, setting_of, frame, numbers}
use Rattle.box_handoff.specs.Rule.{slot}
use Rattle.box_handoff.proofs.NumberLaws.{numbered}
use Rattle.box_handoff.proofs.WordLaws.{not_same}

-- a node whose split lies in a node's range begins no earlier than that
nested : (keys : List Key) (ok : IsLawful keys) (f x a b s : ℕ) → b ≤ a + f → IsNode keys x a b → a ≤ s → s < b →
    a ≤ (row_of keys s).first
nested keys ok zero x a b s le d low high = absurd (omega arith)
nested keys ok (suc f) x a b s le d low high =
    let q = split_laws keys ok a b (split keys a b) (proper keys ok d) (node_within keys ok d) refl in
    elim (cases_order (split keys a b) s) [
      | inl e ↦
          let row : (row_of keys (split keys a b)).first ≡ a = ap (λ r. r.first) (row_of_is keys ok d) in
          let here : (row_of keys s).first ≡ a = subst (λ (n : ℕ). (row_of keys n).first ≡ a) e row in
          omega (arith, here)
      | inr (inl less) ↦
          let h = nested keys ok f (suc (split keys a b)) (suc (split keys a b)) b s (omega (arith, q.low))
          (right_of d refl (omega arith)) less high in
          omega (arith, h, q.low)
      | inr (inr more) ↦ nested keys ok f (split keys a b) a (split keys a b) s (omega (arith, q.high))
          (left_of d refl (omega arith)) low more
    ]

module _ (g : Given) (ok : IsGiven g) where
  -- an inner node with this range, and a live split in it
  pub record HasLive (a b : ℕ) : Type 0 where
    pub number : ℕ
    pub node : IsNode g.keys number a b
    pub part : ℕ
    pub low : a ≤ part
    pub high : part < b
    pub live : (frame g).live_node part ≡ true

  -- what has a slot is such a node
  has_live : (a b : ℕ) → IsRange g.keys a b → slot_below (frame g) (below g.keys a b) ≡ true → HasLive a b
  unfolding slot_below
  has_live a b r h = elim (cases_eq a b) [
    | inl e ↦
        let on : slot_below (frame g) (below g.keys a a) ≡ true
        = subst (λ (n : ℕ). slot_below (frame g) (below g.keys a n) ≡ true) (sym e) h in
        let off : slot_below (frame g) (below g.keys a a) ≡ false
        = ap (slot_below (frame g)) (below_leaf g.keys ok.task.lawful a) in
        let no : true ≡ false = sym on ∙ off in cc
    | inr ne ↦
        let order = (range_laws g.keys ok.task.lawful r).order in
        let lt : a < b = omega (arith, order, ne) in
        let d = range_node g.keys ok.task.lawful r lt in record {
          number = d.0;
          node = d.1;
          part = split g.keys a b;
          low = split_low g.keys ok.task.lawful d.1;
          high = split_high g.keys ok.task.lawful d.1;
          live = sym (ap (slot_below (frame g)) (below_inner g.keys ok.task.lawful a b lt)) ∙ h;
        }
  ]

  -- a left child that has a slot
  left_live : (t : ℕ) → t < (frame g).nodes → slotted (frame g) t Left ≡ true → HasLive (row_of g.keys t).first t
  unfolding frame frame_of slotted
  left_live t lt h = subst (λ (n : ℕ). HasLive n t) (sym (first_is (setting_of g) ok.task t lt))
      (has_live (node_of (setting_of g) ok.task t lt).first t (left_range (setting_of g) ok.task t lt)
      (sym (ap (slot_below (frame g)) (left_is (setting_of g) ok.task t lt)) ∙ h))

  -- and a right one
  right_live : (t : ℕ) → t < (frame g).nodes → slotted (frame g) t Right ≡ true → HasLive (suc t) (row_of g.keys t).last
  unfolding frame frame_of slotted
  right_live t lt h = subst (λ (n : ℕ). HasLive (suc t) n) (sym (last_is (setting_of g) ok.task t lt))
      (has_live (suc t) (node_of (setting_of g) ok.task t lt).last (right_range (setting_of g) ok.task t lt)
      (sym (ap (slot_below (frame g)) (right_is (setting_of g) ok.task t lt)) ∙ h))

  -- of two neighbours the later has the greater split
  later : (s t : ℕ) → Shown (frame g) s → Shown (frame g) t → (numbers g).number s ≡ suc ((numbers g).number t) → t < s
  later s t ls lt e = elim (cases_order s t) [
    | inl is ↦
        let z : (numbers g).number s ≡ (numbers g).number t = ap (numbers g).number is in
        absurd (omega (arith, z, e))
    | inr (inl less) ↦ let z = (numbered g ok).rising s t ls lt less in absurd (omega (arith, z, e))
    | inr (inr more) ↦ more
  ]

  -- and no live split lies between them
  between : (s t u : ℕ) → Shown (frame g) s → Shown (frame g) t → (numbers g).number s ≡ suc ((numbers g).number t) →
      (frame g).live_node u ≡ true → t < u → u < s → ⊥
  between s t u ls lt e live low high =
      let z = ls.0 in
      let lu : Shown (frame g) u = (omega (arith, z, high), live) in
      let a = (numbered g ok).rising t u lt lu low in
      let b = (numbered g ok).rising u s lu ls high in
      omega (arith, a, b, e)

  -- so not both have a slot between them
  crossed : (s t : ℕ) → Shown (frame g) s → Shown (frame g) t → slotted (frame g) s Left ≡ true →
      slotted (frame g) t Right ≡ true → (numbers g).number s ≡ suc ((numbers g).number t) → ⊥
  crossed s t ls lt hs ht e =
      let u = left_live s ls.0 hs in
      let v = right_live t lt.0 ht in
      let less = later s t ls lt e in
      elim (cases_lt t u.part) [
        | inl high ↦ between s t u.part ls lt e u.live high u.high
        | inr low ↦ elim (cases_lt v.part s) [
          | inl high ↦ between s t v.part ls lt e v.live (omega (arith, v.low)) high
          | inr more ↦
              let n = nested g.keys ok.task.lawful (row_of g.keys t).last v.number (suc t) (row_of g.keys t).last s
              (omega arith) v.node (omega (arith, less)) (omega (arith, v.high, more)) in
              omega (arith, n, u.low, low)
        ]
      ]

  -- two sides that have a slot have two
  pub slots_apart : (s : ℕ) (d : Side) (t : ℕ) (e : Side) → Shown (frame g) s → Shown (frame g) t →
      slotted (frame g) s d ≡ true → slotted (frame g) t e ≡ true → same s d t e ≡ false →
      slot ((numbers g).number t) e ≢ slot ((numbers g).number s) d
  slots_apart s Left t Left ls lt hs ht off h =
      not_same s Left t Left off ((numbered g ok).apart s t ls lt (omega (arith, h))) refl
  slots_apart s Left t Right ls lt hs ht off h = crossed s t ls lt hs ht (omega (arith, h))
  slots_apart s Right t Left ls lt hs ht off h = crossed t s lt ls ht hs (omega (arith, h))
  slots_apart s Right t Right ls lt hs ht off h =
      not_same s Right t Right off ((numbered g ok).apart s t ls lt (omega (arith, h))) refl
