-- What a write to a list of forks makes of the state that the lists show.
use Rattle.std.proofs.Common.{◌≡◌, ◌≢◌, ℕ, ◌<◌, refl, sym, ap, ◌∙◌, inl, inr, subst, List, length, get_or, set, Bool, true, false}
use Rattle.std.proofs.lemmas.List.{get_or-set_same, get_or-set_other, get_or_default}
use Rattle.std.proofs.lemmas.Bool.{cases_eq, cases_Bool}
use Rattle.std.proofs.Math.Path.{fun_ext}
use Rattle.arrival_core.specs.declared.packets.Side.{Side}
use Rattle.arrival_core.specs.declared.packets.Side.TheVariants.{Left, Right}
use Rattle.arrival_core.specs.declared.forks.Branch.{Branch}
use Rattle.arrival_core.specs.declared.forks.Fork.{Fork}
use Rattle.arrival_core.specs.States.{State}
use Rattle.arrival_core.specs.Events.{same, put, put_side}
use Rattle.arrival_core.specs.Forks.{fork_at, branch_of, with_branch}
use Rattle.arrival_core.proofs.PutLaws.{put-here, put-other, put_side-same, put_side-apart, same-refl}
use Rattle.arrival_core.proofs.PhaseLaws.{at_side}

-- what was read is what stands there
pub fork_is : (forks : List Fork) (t : ℕ) (x : Fork) → t < length forks → x ≡ get_or forks t x → x ≡ fork_at forks t
unfolding fork_at
fork_is forks t x lt e = e ∙ get_or_default forks t x _ lt

-- a branch that was written
own_side : (c : Fork) (d : Side) (x : Branch) → branch_of (with_branch c d x) d ≡ x
own_side c Left x = refl
own_side c Right x = refl

-- and the other one
apart_side : (c : Fork) (d e : Side) (x : Branch) (s : ℕ) → same s d s e ≡ false →
    branch_of (with_branch c d x) e ≡ branch_of c e
apart_side c Left Left x s h = let on = same-refl s Left in let wrong : true ≡ false = sym on ∙ h in cc
apart_side c Left Right x s h = refl
apart_side c Right Left x s h = refl
apart_side c Right Right x s h = let on = same-refl s Right in let wrong : true ≡ false = sym on ∙ h in cc

-- its node keeps the returned bit
with_branch_returned : (c : Fork) (d : Side) (x : Branch) → (with_branch c d x).returned ≡ c.returned
with_branch_returned c Left x = refl
with_branch_returned c Right x = refl

-- a fork that was written
pub set_here : (forks : List Fork) (s : ℕ) (x : Fork) → s < length forks → fork_at (set forks s x) s ≡ x
unfolding fork_at
set_here forks s x lt = get_or-set_same forks s x _ lt

-- and the others
pub set_apart : (forks : List Fork) (s t : ℕ) (x : Fork) → s ≢ t → fork_at (set forks s x) t ≡ fork_at forks t
unfolding fork_at
set_apart forks s t x ne = get_or-set_other forks s t x _ (λ z. ne (sym z))

-- a node with another side
pub side_set : (forks : List Fork) (s : ℕ) (d : Side) (x : Branch) (t : ℕ) (e : Side) → s < length forks →
    branch_of (fork_at (set forks s (with_branch (fork_at forks s) d x)) t) e
    ≡ put_side (λ t e. branch_of (fork_at forks t) e) s d x t e
side_set forks s d x t e lt = elim (cases_Bool (same s d t e)) [
  | inl h ↦ at_side (λ t e. branch_of (fork_at (set forks s (with_branch (fork_at forks s) d x)) t) e ≡ x) s d t e h
      (ap (λ c. branch_of c d) (set_here forks s (with_branch (fork_at forks s) d x) lt)
      ∙ own_side (fork_at forks s) d x)
      ∙ sym (put_side-same (λ t e. branch_of (fork_at forks t) e) s d x t e h)
  | inr h ↦ elim (cases_eq s t) [
    | inl z ↦
        let h2 : same s d s e ≡ false = subst (λ t. same s d t e ≡ false) (sym z) h in
        subst (λ t. branch_of (fork_at (set forks s (with_branch (fork_at forks s) d x)) t) e
        ≡ branch_of (fork_at forks t) e) z
        (ap (λ c. branch_of c e) (set_here forks s (with_branch (fork_at forks s) d x) lt)
        ∙ apart_side (fork_at forks s) d e x s h2)
    | inr ne ↦ ap (λ c. branch_of c e) (set_apart forks s t (with_branch (fork_at forks s) d x) ne)
  ] ∙ sym (put_side-apart (λ t e. branch_of (fork_at forks t) e) s d x t e h)
]

-- a write of a branch keeps all returned bits
pub side_set_returned : (forks : List Fork) (s : ℕ) (d : Side) (x : Branch) (t : ℕ) → s < length forks →
    (fork_at (set forks s (with_branch (fork_at forks s) d x)) t).returned ≡ (fork_at forks t).returned
side_set_returned forks s d x t lt = elim (cases_eq s t) [
  | inl z ↦ subst (λ t. (fork_at (set forks s (with_branch (fork_at forks s) d x)) t).returned
      ≡ (fork_at forks t).returned) z
      (ap (λ c. c.returned) (set_here forks s (with_branch (fork_at forks s) d x) lt)
      ∙ with_branch_returned (fork_at forks s) d x)
  | inr ne ↦ ap (λ c. c.returned) (set_apart forks s t (with_branch (fork_at forks s) d x) ne)
]

-- a node that is returned
pub returned_set : (forks : List Fork) (s : ℕ) (t : ℕ) → s < length forks →
    (fork_at (set forks s (record (fork_at forks s) { returned = true })) t).returned
    ≡ put (λ t. (fork_at forks t).returned) s true t
returned_set forks s t lt = elim (cases_eq s t) [
  | inl z ↦ subst (λ t. (fork_at (set forks s (record (fork_at forks s) { returned = true })) t).returned
      ≡ put (λ t. (fork_at forks t).returned) s true t) z
      (ap (λ c. c.returned) (set_here forks s (record (fork_at forks s) { returned = true }) lt)
      ∙ sym (put-here (λ t. (fork_at forks t).returned) s true))
  | inr ne ↦ ap (λ c. c.returned) (set_apart forks s t (record (fork_at forks s) { returned = true }) ne)
      ∙ sym (put-other (λ t. (fork_at forks t).returned) s true t ne)
]

-- a write of a returned bit keeps the branches of its node
branch_of_returned : (c : Fork) (e : Side) → branch_of (record c { returned = true }) e ≡ branch_of c e
branch_of_returned c Left = refl
branch_of_returned c Right = refl

-- and all branches
pub returned_set_side : (forks : List Fork) (s : ℕ) (t : ℕ) (e : Side) → s < length forks →
    branch_of (fork_at (set forks s (record (fork_at forks s) { returned = true })) t) e ≡ branch_of (fork_at forks t) e
returned_set_side forks s t e lt = elim (cases_eq s t) [
  | inl z ↦ subst (λ t. branch_of (fork_at (set forks s (record (fork_at forks s) { returned = true })) t) e
      ≡ branch_of (fork_at forks t) e) z
      (ap (λ c. branch_of c e) (set_here forks s (record (fork_at forks s) { returned = true }) lt)
      ∙ branch_of_returned (fork_at forks s) e)
  | inr ne ↦ ap (λ c. branch_of c e) (set_apart forks s t (record (fork_at forks s) { returned = true }) ne)
]

-- a field of a side that is written
pub field_put : {X : Type 0} (field : Branch → X) (g : ℕ → Side → Branch) (s : ℕ) (d : Side) (x : Branch)
    (y : X) (t : ℕ) (e : Side) → field x ≡ y → field (put_side g s d x t e) ≡ put_side (λ t e. field (g t e)) s d y t e
field_put field g s d x y t e h = elim (cases_Bool (same s d t e)) [
  | inl z ↦ ap field (put_side-same g s d x t e z) ∙ (h ∙ sym (put_side-same (λ t e. field (g t e)) s d y t e z))
  | inr z ↦ ap field (put_side-apart g s d x t e z) ∙ sym (put_side-apart (λ t e. field (g t e)) s d y t e z)
]

-- and of one that is as it was
pub field_kept : {X : Type 0} (field : Branch → X) (g : ℕ → Side → Branch) (s : ℕ) (d : Side) (x : Branch)
    (t : ℕ) (e : Side) → field x ≡ field (g s d) → field (put_side g s d x t e) ≡ field (g t e)
field_kept field g s d x t e h = elim (cases_Bool (same s d t e)) [
  | inl z ↦ ap field (put_side-same g s d x t e z)
      ∙ at_side (λ t e. field x ≡ field (g t e)) s d t e z h
  | inr z ↦ ap field (put_side-apart g s d x t e z)
]

-- states with the same parts are one
pub state_same : (a b : State) → a.claimed ≡ b.claimed → a.opened ≡ b.opened → a.arrived ≡ b.arrived →
    a.collected ≡ b.collected → a.returned ≡ b.returned → a.place ≡ b.place → a.worker ≡ b.worker → a ≡ b
state_same a b c o r l t p w = rw (← c) (rw (← o) (rw (← r) (rw (← l) (rw (← t) (rw (← p) (rw (← w) refl))))))

-- the functions that a list of forks with another branch shows
module _ (forks : List Fork) (s : ℕ) (d : Side) (x : Branch) (lt : s < length forks) where
  -- a part of all branches after a write that changes it at one
  pub put_field : {X : Type 0} (field : Branch → X) (y : X) → field x ≡ y →
      ◌≡◌ {A = ℕ → Side → X}
      (λ t e. field (branch_of (fork_at (set forks s (with_branch (fork_at forks s) d x)) t) e))
      (put_side (λ t e. field (branch_of (fork_at forks t) e)) s d y)
  put_field field y h = fun_ext (λ t. fun_ext (λ e. ap field (side_set forks s d x t e lt)
      ∙ field_put field (λ t e. branch_of (fork_at forks t) e) s d x y t e h))

  -- after a write that leaves it as it was
  pub keep_field : {X : Type 0} (field : Branch → X) → field x ≡ field (branch_of (fork_at forks s) d) →
      ◌≡◌ {A = ℕ → Side → X}
      (λ t e. field (branch_of (fork_at (set forks s (with_branch (fork_at forks s) d x)) t) e))
      (λ t e. field (branch_of (fork_at forks t) e))
  keep_field field h = fun_ext (λ t. fun_ext (λ e. ap field (side_set forks s d x t e lt)
      ∙ field_kept field (λ t e. branch_of (fork_at forks t) e) s d x t e h))

  -- all returned bits after a write of a branch
  pub keep_returned : ◌≡◌ {A = ℕ → Bool}
      (λ t. (fork_at (set forks s (with_branch (fork_at forks s) d x)) t).returned) (λ t. (fork_at forks t).returned)
  keep_returned = fun_ext (λ t. side_set_returned forks s d x t lt)
