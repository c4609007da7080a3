-- What the fetches of a file so far gave.
use Rattle.std.proofs.Common.{◌≡◌, ◌≤◌, ◌<◌, ◌-◌, ℕ, List, [], ◌∷◌, ◌++◌, Option, None, Some, length, take, drop, refl, sym, ap, ◌∙◌, arith, subst, append_assoc, append-nil, take-append-drop, length-append}
use Rattle.std.proofs.lemmas.List.{length-take}
use Rattle.std.proofs.Math.Seq.{drop-append_seam}
use Rattle.std.specs.declared.vec.Vec.{Vec}
use Rattle.std.proofs.Common.{Global}
use Rattle.outside.specs.Files.{Files, FileIs, FetchGives}
use Rattle.streams.specs.declared.loads.Loaded.TheVariants.{Whole, TooLong}
use Rattle.streams.specs.Loads.{IsLoadedFile}

-- the bytes are a front of the file, and none where it is not held
abbrev pub IsFront : Option (List ℕ) → List ℕ → Type 0
IsFront None xs = xs ≡ []
IsFront (Some file) xs = (rest : List ℕ) × (file ≡ xs ++ rest)

-- two facts of a file make a third
pub FileIs-both : (holds : Option Files) (name : List ℕ) (P Q R : Option (List ℕ) → Type 0)
    → ((file : Option (List ℕ)) → P file → Q file → R file)
    → FileIs holds name P → FileIs holds name Q → FileIs holds name R
FileIs-both None name P Q R step p q = tt
FileIs-both (Some files) name P Q R step p q = step _ p q

-- what follows a front
rest_is : (file xs rest : List ℕ) → file ≡ xs ++ rest → drop (length xs) file ≡ rest
rest_is file xs rest e = ap (drop (length xs)) e ∙ drop-append_seam xs rest

-- a fetch at the end of a front makes it longer
pub front_more : (xs piece : List ℕ) (n : ℕ) (file : Option (List ℕ)) → IsFront file xs
    → FetchGives file (length xs) n piece → IsFront file (xs ++ piece)
front_more xs piece n None p q = absurd q
front_more xs piece n (Some file) p q =
    let rest : List ℕ = p.0 in
    let same : piece ≡ take n rest = q.bytes ∙ ap (take n) (rest_is file xs rest p.1) in (
      drop n rest,
      p.1 ∙ ap (λ k. xs ++ k) (sym (take-append-drop n rest))
          ∙ ap (λ k. xs ++ (k ++ drop n rest)) (sym same) ∙ sym (append_assoc xs piece (drop n rest)),
    )

-- a front at whose end nothing follows is the whole file
whole_length : (file xs rest : List ℕ) → file ≡ xs ++ rest → length file ≤ length xs → file ≡ xs
whole_length file xs [] e l = e ∙ append-nil xs
whole_length file xs (x ∷ rest) e l = absurd (omega (arith, ap length e, length-append xs (x ∷ rest)))

-- a fetch that gave nothing at the end of a front shows that it is the whole
pub front_whole : (limit : ℕ) (bytes : Vec ℕ Global) (piece : List ℕ) (file : Option (List ℕ)) → length bytes.items
    ≤ limit → IsFront file bytes.items
    → FetchGives file (length bytes.items) 0 piece → IsLoadedFile limit (Whole bytes) file
front_whole limit bytes piece None few p q = absurd q
front_whole limit bytes piece (Some file) few p q =
    let same : file ≡ bytes.items = whole_length file bytes.items p.0 p.1 (q.end refl) in
    (sym same, omega (arith, ap length same))

-- a fetch that gave more than there is room for shows that the file is too long
pub front_too_long : (limit n : ℕ) (xs piece : List ℕ) (file : Option (List ℕ)) → length xs ≤ limit → limit - length xs
    < n → length piece ≡ n → IsFront file xs
    → FetchGives file (length xs) n piece → IsLoadedFile limit TooLong file
front_too_long limit n xs piece None few more len p q = absurd q
front_too_long limit n xs piece (Some file) few more len p q =
    let rest : List ℕ = p.0 in
    omega (
      arith,
      ap length p.1,
      length-append xs rest,
      ap length q.bytes,
      length-take n (drop (length xs) file),
      ap
          length (rest_is file xs rest p.1),
    )

-- what holds of every file holds of the one that is held
pub FileIs-any : (holds : Option Files) (name : List ℕ) (P : Option (List ℕ) → Type 0)
    → ((file : Option (List ℕ)) → P file) → FileIs holds name P
FileIs-any None name P each = tt
FileIs-any (Some files) name P each = each _

-- before the first fetch
pub front_none : (xs : List ℕ) → xs ≡ [] → (file : Option (List ℕ)) → IsFront file xs
front_none xs e None = e
front_none xs e (Some file) = (file, ap (λ k. k ++ file) (sym e))

-- a loop's step: what was fetched is still a front of the file
pub front_next : (old now : Option Files) (name xs new piece : List ℕ) (at n : ℕ) → now ≡ old → at ≡ length xs → new
    ≡ xs ++ piece
    → FileIs old name (λ file. IsFront file xs) → FileIs now name (λ file. FetchGives file at n piece)
    → FileIs old name (λ file. IsFront file new)
front_next old now name xs new piece at n same place grown p q =
    let there : FileIs old name (λ file. FetchGives file (length xs) n piece) =
    subst (λ k. FileIs old name (λ file. FetchGives file k n piece)) place
    (subst (λ h. FileIs h name (λ file. FetchGives file at n piece)) same q) in
    subst (λ ys. FileIs old name (λ file. IsFront file ys)) (sym grown)
    (FileIs-both old name _ _ _ (front_more xs piece n) p there)
