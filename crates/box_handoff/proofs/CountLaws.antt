-- The tallies of the entries of one view that has all numbers are those of all workers.
use Rattle.std.proofs.Common.{◌≡◌, ◌≢◌, ℕ, zero, suc, ◌+◌, ◌*◌, ◌<◌, ◌≤◌, ⊎_elim, Bool, cond, List, [], ◌∷◌, sym, refl, ap, ◌∙◌, arith, eqb, eq-eqb, ne_eqb, add-mul}
use Rattle.std.proofs.lemmas.Bool.{cases_eq}
use Rattle.arrival_core.specs.Sums.{sum_below}
use Rattle.arrival_core.proofs.SumLaws.{sum_same, sum_plus, sum_zero}
use Rattle.box_handoff.specs.declared.views.Entry.{Entry}
use Rattle.box_handoff.specs.Entries.{total, times, In}

-- 1 where the numbers are one
abbrev mark : ℕ → ℕ → ℕ
mark n k = cond (eqb n k) 1 0

-- where they are
mark_on : (n k : ℕ) → n ≡ k → mark n k ≡ 1
mark_on n k e = let f : Bool → ℕ = λ b. cond b 1 0 in ap f (eq-eqb n k e)

-- where they are not
mark_off : (n k : ℕ) → n ≢ k → mark n k ≡ 0
mark_off n k e = let f : Bool → ℕ = λ b. cond b 1 0 in ap f (ne_eqb n k e)

-- nothing of a number
times_zero : (x : ℕ) → 0 * x ≡ 0
times_zero x = omega arith

-- a sum in which one number alone is marked
alone : (w n : ℕ) (h : ℕ → ℕ) → w ≤ n → sum_below w (λ k. mark n k * h k) ≡ 0
unfolding sum_below
alone zero n h l = refl
alone (suc w) n h l = let r : sum_below w (λ k. mark n k * h k) ≡ 0 = alone w n h (omega arith) in
    let m : mark n w ≡ 0 = mark_off n w (λ e. omega arith) in
    let z : mark n w * h w ≡ 0 = ap (λ (x : ℕ). x * h w) m ∙ times_zero (h w) in omega arith

-- a sum in which one number below the end is marked is that number's
single : (w n : ℕ) (h : ℕ → ℕ) → n < w → sum_below w (λ k. mark n k * h k) ≡ h n
unfolding sum_below
single zero n h l = absurd (omega arith)
single (suc w) n h l = ⊎_elim
    (λ (e : n ≡ w). let r : sum_below w (λ k. mark n k * h k) ≡ 0 = alone w n h (omega arith) in
    let z : mark n w * h w ≡ h w = ap (λ (x : ℕ). x * h w) (mark_on n w e)
    ∙ (let q : 1 * h w ≡ h w = omega arith in q) in
    let s : h w ≡ h n = ap h (sym e) in omega arith)
    (λ (ne : n ≢ w). let r : sum_below w (λ k. mark n k * h k) ≡ h n = single w n h (omega arith) in
    let z : mark n w * h w ≡ 0 = ap (λ (x : ℕ). x * h w) (mark_off n w ne) ∙ times_zero (h w) in
    omega arith) (cases_eq n w)

-- a sum of two
parted : (a b x : ℕ) → (a + b) * x ≡ a * x + b * x
parted a b x = add-mul a b x

-- a sum over entries by their numbers
pub counted : (w : ℕ) (h : ℕ → ℕ) (es : List Entry) → ((e : Entry) → In e es → e.number < w) →
    total (λ (e : Entry). h e.number) es ≡ sum_below w (λ k. times k es * h k)
counted w h [] in_ = sym (sum_same w (λ k. 0 * h k) (λ k. 0) (λ k l. times_zero (h k))
    ∙ sum_zero w (λ k. 0) (λ k l. refl))
counted w h (e ∷ es) in_ = let r : total (λ (e : Entry). h e.number) es ≡ sum_below w
    (λ k. times k es * h k) = counted w h es (λ f is. in_ f (suc is.0, is.1)) in
    let s : sum_below w (λ k. mark e.number k * h k) ≡ h e.number = single w e.number h (in_ e (0, refl)) in
    let p : sum_below w (λ k. (mark e.number k + times k es) * h k) ≡ sum_below w
    (λ k. mark e.number k * h k + times k es * h k) = sum_same w (λ k. (mark e.number k + times k es) * h k)
    (λ k. mark e.number k * h k + times k es * h k) (λ k l. parted (mark e.number k) (times k es) (h k)) in
    let q : sum_below w (λ k. mark e.number k * h k + times k es * h k) ≡ sum_below w
    (λ k. mark e.number k * h k) + sum_below w (λ k. times k es * h k) = sum_plus w (λ k. mark e.number k * h k)
    (λ k. times k es * h k) in
    let z : h e.number + total (λ (e : Entry). h e.number) es ≡ sum_below w
    (λ k. (mark e.number k + times k es) * h k) = omega arith in z

-- where each number stands once, the sum is over all workers
pub counted_once : (w : ℕ) (h : ℕ → ℕ) (es : List Entry) → ((e : Entry) → In e es → e.number < w) →
    ((k : ℕ) → k < w → times k es ≡ 1) → total (λ (e : Entry). h e.number) es ≡ sum_below w h
counted_once w h es in_ once = counted w h es in_ ∙ sum_same w (λ k. times k es * h k) h
    (λ k l. ap (λ (x : ℕ). x * h k) (once k l) ∙ (let q : 1 * h k ≡ h k = omega arith in q))
