-- A piece that was copied from the front of a list to the front of a buffer.
use Rattle.std.proofs.Common.{◌≡◌, ◌≤◌, ◌+◌, ℕ, List, ◌++◌, length, take, drop, sym, ◌∙◌, ap}
use Rattle.std.proofs.lemmas.List.{drop-drop, take-append-drop, length-take-le}
use Rattle.std.proofs.Math.Seq.{take-append_seam}

-- the front of the buffer is the piece
pub take-piece : (n : ℕ) (rest front back : List ℕ) → n ≤ length rest → front ≡ take n rest
    → take n (front ++ back) ≡ take n rest
take-piece n rest front back fits is =
    let len : length front ≡ n = ap length is ∙ length-take-le n rest fits in
    ap (λ k. take k (front ++ back)) (sym len) ∙ take-append_seam front back ∙ is

-- the piece, and then what stands behind it, are what was left
pub piece_and_rest : (at n : ℕ) (bytes front back : List ℕ) → n ≤ length (drop at bytes)
    → front ≡ take n (drop at bytes)
    → drop at bytes ≡ take n (front ++ back) ++ drop (at + n) bytes
piece_and_rest at n bytes front back fits is =
    sym (ap (λ xs. xs ++ drop (at + n) bytes) (take-piece n (drop at bytes) front back fits is)
    ∙ ap (λ ys. take n (drop at bytes) ++ ys) (sym (drop-drop n at bytes)) ∙ take-append-drop n (drop at bytes))
