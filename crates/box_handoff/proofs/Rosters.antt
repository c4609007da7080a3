-- The entries of the views stay a roster where one entry changes.
use Rattle.std.proofs.Common.{◌≡◌, ◌≢◌, ℕ, zero, suc, ◌+◌, ◌<◌, ◌≤◌, ◌⊎◌, inl, inr, ⊎_elim, cond, List, [], ◌∷◌, ◌++◌, length, set, sym, refl, ap, ◌∙◌, subst, arith, eqb}
use mathlib.Core.Option.{some, some-ne-none}
use lib.ListN.{get_elem?}
use Rattle.atomic_table.proofs.Lists.{at_set, set_else, at_longer, at_snoc}
use Rattle.arrival_core.specs.declared.packets.Phase.TheVariants.{Ended}
use Rattle.arrival_core.specs.Frames.{Frame}
use Rattle.arrival_core.specs.States.{Worker}
use Rattle.arrival_core.specs.Events.{put}
use Rattle.arrival_core.specs.Start.{fresh}
use Rattle.arrival_core.proofs.PutLaws.{put-here, put-other}
use Rattle.box_handoff.specs.Entries.{total, times, In, one, frame, grown, after, after_all, worker_of}
use Rattle.box_handoff.specs.Rule.{Rostered, IsHonest, AreTogether}
use Rattle.box_handoff.specs.declared.views.Event.{Event}
use Rattle.box_handoff.specs.declared.views.Given.{Given}
use Rattle.box_handoff.specs.declared.views.Entry.{Entry}
use Rattle.box_handoff.specs.declared.views.View.{View}
use Rattle.box_handoff.proofs.Roster.{total_set, total_two, total_append, times_in, in_one}

module _ (g : Given) (views : List View) (workers : ℕ → Worker) (r : Rostered g views workers) where
  -- two views have no number in common
  pub apart : (i j : ℕ) (v w : View) → i ≢ j → get_elem? views i ≡ some v → get_elem? views j ≡ some w →
      (e f : Entry) → In e v.entries → In f w.entries → e.number ≢ f.number
  apart i j v w n at there e f in_v in_w same = let c : View → ℕ = λ x. times e.number x.entries in
      let p : c v + c w ≤ total c views = total_two c views i j v w n at there in
      let q : total c views ≡ 1 = r.once e.number (r.known i v at e in_v) in
      let a : 1 ≤ c v = times_in e.number v.entries e in_v refl in
      let b : 1 ≤ c w = times_in e.number w.entries f in_w (sym same) in omega arith

  module _ (id : ℕ) (e e' : Entry) (at : get_elem? views id ≡ some (one g e)) (same : e'.number ≡ e.number)
      (honest : IsHonest (frame g) e') where
    -- one entry changes, and keeps its number
    pub moves : Rostered g (set views id (one g e')) (put workers e.number (worker_of e'))
    moves = record {
      same = λ j v there f is. ⊎_elim (λ t. ap (λ (x : View). x.given) (sym t.1)) (λ t. r.same j v t.1 f is)
          (at_set views id j (one g e') v there);
      once = λ i l. let c : View → ℕ = λ x. times i x.entries in
          let p : total c (set views id (one g e')) + c (one g e) ≡ total c views + c
          (one g e') = total_set c views id (one g e) (one g e') at in
          let q : c (one g e') ≡ c (one g e) = ap (λ (n : ℕ). cond (eqb n i) 1 0 + 0) same in
          let o : total c views ≡ 1 = r.once i l in omega arith;
      known = λ j v there f is. ⊎_elim (λ t. subst (λ (n : ℕ). n < g.seats)
          (sym (ap (λ (x : Entry). x.number) (was t.1 f is)
          ∙ same)) (r.known id (one g e) at e (0, refl))) (λ t. r.known j v t.1 f is)
          (at_set views id j (one g e') v there);
      honest = λ j v there f is. ⊎_elim (λ t. subst (λ (x : Entry). IsHonest (frame g) x) (sym (was t.1 f is)) honest)
          (λ t. r.honest j v t.1 f is) (at_set views id j (one g e') v there);
      together = λ j v there. ⊎_elim (λ t. subst (λ (x : View). AreTogether x.entries) t.1
          (λ more. absurd (omega arith))) (λ t. r.together j v t.1) (at_set views id j (one g e') v there);
      worker = λ j v there f is. ⊎_elim (λ t. ap (λ (x : Entry). put workers e.number (worker_of e') x.number)
          (was t.1 f is) ∙ ap (put workers e.number (worker_of e')) same ∙ put-here workers e.number (worker_of e')
          ∙ ap worker_of (sym (was t.1 f is)))
          (λ t. put-other workers e.number (worker_of e') f.number
          (λ z. apart j id v (one g e) t.0 t.1 at f e is (0, refl) (sym z))
          ∙ r.worker j v t.1 f is) (at_set views id j (one g e') v there);
    }
      where
        was : {v : View} → one g e' ≡ v → (f : Entry) → In f v.entries → f ≡ e'
        was {v} eq f is = in_one f e' (subst (λ (x : View). In f x.entries) (sym eq) is)

-- one event more
pub more_events : (f : Frame) (w : Worker) (es : List Event) (ev : Event) →
    after_all f w (es ++ ev ∷ []) ≡ after f (after_all f w es) ev
unfolding after_all
more_events f w [] ev = refl
more_events f w (e ∷ es) ev = more_events f (after f w e) es ev

-- its worker is what its list of events gives
pub stays_honest : (f : Frame) (e : Entry) (ev : Event) → IsHonest f e → IsHonest f (grown f e ev)
stays_honest f e ev h = record {
  worker = ap (λ (w : Worker). after f w ev) h.worker
      ∙ sym (more_events f fresh e.events ev);
}

-- ---- a view is cut in two
pub in_left : (xs ys : List Entry) (e : Entry) → In e xs → In e (xs ++ ys)
in_left xs ys e (k, at) = (k, at_longer xs ys k e at)

-- an entry of the second of two lists is one of both together
pub in_right : (xs ys : List Entry) (e : Entry) → In e ys → In e (xs ++ ys)
in_right [] ys e h = h
in_right (x ∷ xs) ys e h = let t = in_right xs ys e h in (suc t.0, t.1)

-- an entry of two lists is one of either
pub in_either : (xs ys : List Entry) (e : Entry) → In e (xs ++ ys) → In e xs ⊎ In e ys
in_either [] ys e h = inr h
in_either (x ∷ xs) ys e (zero, at) = inl (zero, at)
in_either (x ∷ xs) ys e (suc k, at) = ⊎_elim (λ t. inl (suc t.0, t.1)) (λ t. inr t) (in_either xs ys e (k, at))

-- a view with these entries
abbrev pub view_of : Given → List Entry → View
view_of g es = record { given = g; entries = es }

module _ (g : Given) (views : List View) (workers : ℕ → Worker) (r : Rostered g views workers) (id : ℕ) (v : View)
    (xs ys : List Entry) (at : get_elem? views id ≡ some v) (cut : v.entries ≡ xs ++ ys) (given : v.given ≡ g)
    (unbegun : (e : Entry) → In e v.entries → e.events ≡ []) where
  -- each view of the cut list is as before, or has entries of the view that is cut
  source : (j : ℕ) (w : View) → get_elem? (set views id (view_of g xs) ++ view_of g ys ∷ []) j ≡ some w →
      (e : Entry) → In e w.entries → (i : ℕ) × (u : View) × (get_elem? views i ≡ some u) × In e u.entries
      × (w.given ≡ u.given)
  source j w there e is = ⊎_elim
      (λ old. ⊎_elim (λ t. (
        id,
        v,
        at,
        subst (λ (z : List Entry). In e z) (sym cut)
            (in_left xs ys e (subst (λ (z : View). In e z.entries) (sym t.1) is)),
        ap (λ (z : View). z.given) (sym t.1)
            ∙ sym given,
      ))
      (λ t. (j, w, t.1, is, refl)) (at_set views id j (view_of g xs) w old))
      (λ new. (
        id,
        v,
        at,
        subst (λ (z : List Entry). In e z) (sym cut)
            (in_right xs ys e (subst (λ (z : View). In e z.entries) (sym new) is)),
        ap (λ (z : View). z.given) (sym new)
            ∙ sym given,
      ))
      (at_snoc (set views id (view_of g xs)) (view_of g ys) w j there)

  -- the entries stay a roster
  pub splits : Rostered g (set views id (view_of g xs) ++ view_of g ys ∷ []) workers
  splits = record {
    same = λ j w there e is. let s = source j w there e is in s.4 ∙ r.same s.0 s.1 s.2 e s.3;
    once = λ i l. let c : View → ℕ = λ x. times i x.entries in let o : total c views ≡ 1 = r.once i l in
        let a : total c (set views id (view_of g xs)) + c v ≡ total c views + c
        (view_of g xs) = total_set c views id v (view_of g xs) at in
        let b : total c (set views id (view_of g xs) ++ view_of g ys ∷ []) ≡ total c (set views id (view_of g xs)) +
        (c (view_of g ys) + 0) = total_append c (set views id (view_of g xs)) (view_of g ys ∷ []) in
        let d : c v ≡ times i (xs ++ ys) = ap (times i) cut in
        let e : times i (xs ++ ys) ≡ c (view_of g xs) + c (view_of g ys) = total_append
        (λ (e : Entry). cond (eqb e.number i) 1 0) xs ys in omega arith;
    known = λ j w there e is. let s = source j w there e is in r.known s.0 s.1 s.2 e s.3;
    honest = λ j w there e is. let s = source j w there e is in r.honest s.0 s.1 s.2 e s.3;
    together = λ j w there. ⊎_elim
        (λ old. ⊎_elim
        (λ t. subst (λ (z : View). AreTogether z.entries) t.1
        (λ more. inl (λ e is. unbegun e (subst (λ (z : List Entry). In e z) (sym cut) (in_left xs ys e is)))))
        (λ t. r.together j w t.1) (at_set views id j (view_of g xs) w old))
        (λ new. subst (λ (z : View). AreTogether z.entries) new
        (λ more. inl (λ e is. unbegun e (subst (λ (z : List Entry). In e z) (sym cut) (in_right xs ys e is)))))
        (at_snoc (set views id (view_of g xs)) (view_of g ys) w j there);
    worker = λ j w there e is. let s = source j w there e is in r.worker s.0 s.1 s.2 e s.3;
  }

-- ---- two views are made one
module _ (g : Given) (views : List View) (workers : ℕ → Worker) (r : Rostered g views workers) (id other : ℕ)
    (v w spent : View) (at : get_elem? views id ≡ some v) (apart : ¬ (other ≡ id))
    (there : get_elem? (set views id (view_of v.given (v.entries ++ w.entries))) other ≡ some w)
    (none_left : spent.entries ≡ []) (filled : (e : Entry) → In e w.entries → v.given ≡ g)
    (over : (e : Entry) → In e v.entries → e.phase ≡ Ended) (theirs : (e : Entry) → In e w.entries →
    e.phase ≡ Ended) where
  abbrev both : View
  both = view_of v.given (v.entries ++ w.entries)

  -- the other view was there before
  was_there : get_elem? views other ≡ some w
  was_there = sym (set_else views id other both apart) ∙ there

  -- the one that is spent has no entry
  none_in : (e : Entry) → In e spent.entries → ⊥
  none_in e is = let z = subst (λ (l : List Entry). In e l) none_left is in some-ne-none e (sym z.1)

  -- each entry of the new list of views stood in one of the old ones, and is of the same handoff
  origin : (j : ℕ) (u : View) → get_elem? (set (set views id both) other spent) j ≡ some u → (e : Entry) →
      In e u.entries → ((i : ℕ) × (x : View) × (get_elem? views i ≡ some x) × In e x.entries) × (u.given ≡ g)
  origin j u here e is = ⊎_elim
      (λ t. absurd (none_in e (subst (λ (z : View). In e z.entries) (sym t.1) is)))
      (λ t. ⊎_elim
      (λ q. let in_both : In e (v.entries ++ w.entries) = subst (λ (z : View). In e z.entries) (sym q.1) is in
      ⊎_elim (λ l. (
        (id, v, at, l),
        ap (λ (z : View). z.given) (sym q.1)
            ∙ r.same id v at e l,
      )) (λ l. (
        (other, w, was_there, l),
        ap (λ (z : View). z.given) (sym q.1)
            ∙ filled e l,
      )) (in_either v.entries w.entries e in_both))
      (λ q. ((j, u, q.1, is), r.same j u q.1 e is)) (at_set views id j both u t.1))
      (at_set (set views id both) other j spent u here)

  -- and here too
  pub joins : Rostered g (set (set views id both) other spent) workers
  joins = record {
    same = λ j u here e is. (origin j u here e is).1;
    once = λ i l. let c : View → ℕ = λ x. times i x.entries in let o : total c views ≡ 1 = r.once i l in
        let a : total c (set views id both) + c v ≡ total c views + c both = total_set c views id v both at in
        let b : total c (set (set views id both) other spent) + c w ≡ total c
        (set views id both) + c spent = total_set c (set views id both) other w spent there in
        let e : c both ≡ c v + c w = total_append (λ (e : Entry). cond (eqb e.number i) 1 0) v.entries w.entries in
        let z : c spent ≡ 0 = ap (times i) none_left in omega arith;
    known = λ j u here e is. let s = (origin j u here e is).0 in r.known s.0 s.1 s.2 e s.3;
    honest = λ j u here e is. let s = (origin j u here e is).0 in r.honest s.0 s.1 s.2 e s.3;
    together = λ j u here. ⊎_elim
        (λ t. subst (λ (z : View). AreTogether z.entries) t.1
        (λ more. absurd (let z : length spent.entries ≡ 0 = ap (λ (l : List Entry). length l) none_left in
        omega arith)))
        (λ t. ⊎_elim
        (λ q. subst (λ (z : View). AreTogether z.entries) q.1
        (λ more. inr (λ e is. ⊎_elim (over e) (theirs e) (in_either v.entries w.entries e is))))
        (λ q. r.together j u q.1) (at_set views id j both u t.1))
        (at_set (set views id both) other j spent u here);
    worker = λ j u here e is. let s = (origin j u here e is).0 in r.worker s.0 s.1 s.2 e s.3;
  }
