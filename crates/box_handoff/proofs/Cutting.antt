-- Seats are cut and made one.
use Rattle.std.proofs.Common.{◌≡◌, ℕ, suc, List, [], ◌∷◌, ◌++◌, set, sym, refl, ap, ◌∙◌, subst}
use Rattle.atomic_table.specs.Table.{Splits, Joins}
use Rattle.box_handoff.specs.declared.views.Given.{Given}
use Rattle.box_handoff.specs.declared.views.Entry.{Entry}
use Rattle.box_handoff.specs.declared.views.View.{View}
use Rattle.box_handoff.specs.Entries.{In, unbegun, unbegun_below, front_of, last_of}
use Rattle.box_handoff.specs.Cuts.{left_view, right_view, both_views, spent_view}
use Rattle.box_handoff.specs.Rule.{Rule}
use Rattle.box_handoff.specs.Gathering.{AllEnded}
use Rattle.box_handoff.proofs.Rosters.{splits, joins}

-- all but the last
pub front_is : (es : List Entry) (e : Entry) → front_of (es ++ e ∷ []) ≡ es
front_is [] e = refl
front_is (x ∷ []) e = refl
front_is (x ∷ y ∷ es) e = ap (λ (z : List Entry). x ∷ z) (front_is (y ∷ es) e)

-- the last
pub last_is : (es : List Entry) (e : Entry) → last_of (es ++ e ∷ []) ≡ e ∷ []
last_is [] e = refl
last_is (x ∷ []) e = refl
last_is (x ∷ y ∷ es) e = last_is (y ∷ es) e

-- a view's last entry goes to a seat of its own
pub cuts : (g : Given) (id : ℕ) (v : View) (es : List Entry) (e : Entry) →
    v ≡ record { given = g; entries = es ++ e ∷ [] } →
    ((f : Entry) → In f v.entries → f.events ≡ []) → Splits (Rule g) id v (left_view v) (right_view v)
cuts g id v es e is unbegun s h at = subst (λ (x : View). Rule g
    (record { words = s.words; homes = s.homes; views = set s.views id x ++ right_view v ∷ [] })) (sym left)
    (subst (λ (x : View). Rule g (record {
      words = s.words;
      homes = s.homes;
      views = set s.views id
          (record { given = g; entries = es }) ++ x ∷ [];
    })) (sym right)
    (record {
      machine = h.machine;
      shows = h.shows;
      lawful = h.lawful;
      given = h.given;
      numbered = h.numbered;
      rostered = splits g s.views h.machine.worker h.rostered id v es (e ∷ []) at (ap (λ (x : View). x.entries) is)
          (ap (λ (x : View). x.given) is) unbegun;
    }))
  where
    left : left_view v ≡ record { given = g; entries = es }
    left = ap left_view is ∙ ap (λ (x : List Entry). let w : View = record { given = g; entries = x } in
        w) (front_is es e)

    right : right_view v ≡ record { given = g; entries = e ∷ [] }
    right = ap right_view is ∙ ap (λ (x : List Entry). let w : View = record { given = g; entries = x } in
        w) (last_is es e)

-- two views that have ended are made one
pub gathers : (g : Given) (id other : ℕ) (v w : View) → v.given ≡ g → AllEnded v → AllEnded w →
    Joins (Rule g) id v other w (both_views v w) spent_view
gathers g id other v w given over theirs s h at apart there = record {
  machine = h.machine;
  shows = h.shows;
  lawful = h.lawful;
  given = h.given;
  numbered = h.numbered;
  rostered = joins g s.views h.machine.worker h.rostered id other v w spent_view at apart there refl
      (λ e is. given) over theirs;
}

-- one entry more
pub below_step : (n : ℕ) → unbegun_below (suc n) ≡ unbegun_below n ++ unbegun n ∷ []
unfolding unbegun_below
below_step n = refl

-- one entry
pub below_one : unbegun_below 1 ≡ unbegun 0 ∷ []
unfolding unbegun_below
below_one = refl
