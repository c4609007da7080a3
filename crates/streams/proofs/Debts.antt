-- What a sink has still to take.
use Rattle.std.proofs.Common.{◌≡◌, ℕ, List, [], ◌++◌, Option, refl, sym, ap, ◌∙◌, subst, append_assoc, append-nil}
use Rattle.std.specs.Io.KnownBytes.{Appends}
use Rattle.std.proofs.KnownBytes.{Appends-nil, Appends-trans}
use Rattle.streams.specs.Owed.{Owes, AppendsFront}

-- before the first write
pub owes_all : (old : Option (List ℕ)) (text : List ℕ) → Owes old old text text
owes_all old text = record { front = []; whole = refl; taken = Appends-nil old }

-- the sink took what stands next
pub owes_less : (old mid now : Option (List ℕ)) (text todo piece rest : List ℕ) → Owes old mid text todo → todo
    ≡ piece ++ rest → Appends mid now piece → Owes old now text rest
owes_less old mid now text todo piece rest owes e taken = record {
  front = owes.front ++ piece;
  whole = owes.whole ∙ ap (λ k. owes.front ++ k) e ∙ sym (append_assoc owes.front piece rest);
  taken = Appends-trans old mid now owes.front piece owes.taken taken;
}

-- one debt after another
pub owes_more : (old mid now : Option (List ℕ)) (text todo rest : List ℕ) → Owes old mid text todo
    → Owes mid now todo rest → Owes old now text rest
owes_more old mid now text todo rest first second = owes_less old mid now text todo second.front rest first second.whole
    second.taken

-- nothing is left
pub owes_none : (old now : Option (List ℕ)) (text todo : List ℕ) → Owes old now text todo → todo ≡ []
    → Appends old now text
owes_none old now text todo owes e = subst (Appends old now)
    (sym (owes.whole ∙ ap (λ k. owes.front ++ k) e ∙ append-nil owes.front)) owes.taken

-- the sink took a front of what stands next
pub owes_front : (old mid now : Option (List ℕ)) (text todo piece rest : List ℕ) → Owes old mid text todo → todo
    ≡ piece ++ rest → AppendsFront mid now piece → AppendsFront old now text
owes_front old mid now text todo piece rest owes e front =
    let part = front.1 in (
      front.0 ++ rest,
      owes_less old mid now text todo part.front (front.0 ++ rest) owes
          (e ∙ ap (λ k. k ++ rest) part.whole ∙ append_assoc part.front front.0 rest) part.taken,
    )

-- the same where what stands next is all that is left
pub owes_front_of : (old mid now : Option (List ℕ)) (text todo : List ℕ) → Owes old mid text todo
    → AppendsFront mid now todo → AppendsFront old now text
owes_front_of old mid now text todo owes front = owes_front old mid now text todo todo [] owes (sym (append-nil todo))
    front
