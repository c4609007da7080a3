-- Lines with neither a '#' nor a '\' say all that stands in them.
use Rattle.std.proofs.Common.{◌≡◌, ℕ, Bool, true, false, List, [], ◌∷◌, ◌==◌, ◌||◌, ◌&&◌, not, cond, refl, ap, ◌∙◌}
use Rattle.std.specs.List.{list_all}
use Rattle.text_words.specs.Joins.{said, joins, is_line_end}
use Rattle.text_words.specs.Parts.{IsPlain}

-- a byte that begins no comment and joins no line stands as it is before what is said
plain_by : (s j : Bool) (end : Bool) (b : ℕ) (bs : List ℕ) (more : Bool) → (not s && not j) && more ≡ true
    → (cond (s || (j && end)) [] (b ∷ said bs) ≡ b ∷ said bs) × ((not s && ((j && end) || joins bs)) ≡ joins bs) × (more ≡ true)
plain_by true j end b bs more e = absurd (cc)
plain_by false true end b bs more e = absurd (cc)
plain_by false false end b bs more e = (refl, refl, e)

-- such a line says all of it, and is not joined
pub plain_line : (line : List ℕ) → IsPlain line → (said line ≡ line) × (joins line ≡ false)
plain_line [] p = (refl, refl)
plain_line (b ∷ bs) p =
    let q = plain_by (b == 35) (b == 92) (is_line_end bs) b bs
    (list_all (λ c. not (c == 35) && not (c == 92)) bs) p in
    let r = plain_line bs q.2 in
    (q.0 ∙ ap (λ k. b ∷ k) r.0, q.1 ∙ r.1)
