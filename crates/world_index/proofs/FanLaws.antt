-- Chains of triangles, while they are made.
use Rattle.std.proofs.Common.{◌≡◌, ℕ, ◌+◌, ◌-◌, ◌<◌, ◌⊎◌, inl, inr, sym, ap, ◌∙◌, arith, subst, List, [], ◌∷◌, ◌++◌, length, get_or, set}
use Rattle.std.proofs.Math.ListN.{length-set}
use Rattle.std.proofs.lemmas.Bool.{cases_eq, cond-true, cond-false, eq-eqb, ne_eqb}
use Rattle.std.proofs.lemmas.List.{get_or-set_same, get_or-set_other, get_or_append_left, get_or_push, length-append}
use Rattle.obj_text.specs.Meshes.{IsFaceOf}
use Rattle.obj_text.specs.declared.face.Face.{Face}
use Rattle.world_index.specs.declared.fans.Links.{Links}
use Rattle.world_index.specs.Fans.{face_at, HasVertex, IsLatest, latest_at, link_at, links_at, AreFansTo}

-- a face has a vertex, or it has not
pub has_vertex_cases : (face : Face) (v : ℕ) → HasVertex face v ⊎ (¬ HasVertex face v)
has_vertex_cases face v = elim (cases_eq face.a v) [
  | inl e ↦ inl (inl e)
  | inr na ↦ elim (cases_eq face.b v) [
    | inl e ↦ inl (inr (inl e))
    | inr nb ↦ elim (cases_eq face.c v) [
      | inl e ↦ inl (inr (inr e))
      | inr nc ↦ inr (λ has. elim has [ inl e ↦ na e | inr (inl e) ↦ nb e | inr (inr e) ↦ nc e ])
    ]
  ]
]

-- the link at a vertex of the face is what stood for that vertex
pub link_was_latest : (latest : List ℕ) (face : Face) (links : Links) (v : ℕ) → HasVertex face v →
    links.a ≡ latest_at latest face.a → links.b ≡ latest_at latest face.b → links.c ≡ latest_at latest face.c →
    link_at links face v ≡ latest_at latest v
link_was_latest latest face links v has a b c = elim (cases_eq face.a v) [
  | inl e ↦ cond-true _ links.a _ (eq-eqb face.a v e) ∙ (a ∙ ap (latest_at latest) e)
  | inr na ↦ cond-false _ links.a _ (ne_eqb face.a v na) ∙ elim (cases_eq face.b v) [
    | inl e ↦ cond-true _ links.b links.c (eq-eqb face.b v e) ∙ (b ∙ ap (latest_at latest) e)
    | inr nb ↦ cond-false _ links.b links.c (ne_eqb face.b v nb) ∙ (c ∙ ap (latest_at latest)
        (elim has [ inl e ↦ absurd (na e) | inr (inl e) ↦ absurd (nb e) | inr (inr e) ↦ e ]))
  ]
]

-- a number put for each vertex of a face
abbrev pub put_thrice : List ℕ → Face → ℕ → List ℕ
put_thrice latest face x = set (set (set latest face.a x) face.b x) face.c x

-- one put for a vertex, and none taken away
put_same : (xs : List ℕ) (i v x : ℕ) → i < length xs → i ≡ v → get_or (set xs i x) v 0 ≡ x
put_same xs i v x lt e = subst (λ j. get_or (set xs i x) j 0 ≡ x) e (get_or-set_same xs i x 0 lt)

-- and so it stays, whatever vertex one is put for next
put_stays : (xs : List ℕ) (i v x : ℕ) → i < length xs → get_or xs v 0 ≡ x → get_or (set xs i x) v 0 ≡ x
put_stays xs i v x lt e = elim (cases_eq i v) [
  | inl same ↦ put_same xs i v x lt same
  | inr other ↦ get_or-set_other xs i v x 0 (λ f. other (sym f)) ∙ e
]

-- it is the latest at each vertex of the face
pub thrice_here : (latest : List ℕ) (face : Face) (x v : ℕ) → IsFaceOf (length latest) face → HasVertex face v →
    latest_at (put_thrice latest face x) v ≡ x
thrice_here latest face x v named has =
    let one = set latest face.a x in
    let two = set one face.b x in
    let b : face.b < length one = omega (arith, named.b, length-set latest face.a x) in
    let c : face.c < length two = omega (arith, named.c, length-set latest face.a x, length-set one face.b x) in
    elim has [
      | inl e ↦ put_stays two face.c v x c (put_stays one face.b v x b (put_same latest face.a v x named.a e))
      | inr (inl e) ↦ put_stays two face.c v x c (put_same one face.b v x b e)
      | inr (inr e) ↦ put_same two face.c v x c e
    ]

-- and at any other vertex the latest is as before
pub thrice_elsewhere : (latest : List ℕ) (face : Face) (x v : ℕ) → ¬ HasVertex face v →
    latest_at (put_thrice latest face x) v ≡ latest_at latest v
thrice_elsewhere latest face x v hasnt =
    get_or-set_other (set (set latest face.a x) face.b x) face.c v x 0 (λ e. hasnt (inr (inr (sym e))))
    ∙ (get_or-set_other (set latest face.a x) face.b v x 0 (λ e. hasnt (inr (inl (sym e))))
    ∙ get_or-set_other latest face.a v x 0 (λ e. hasnt (inl (sym e))))

-- before the first triangle no triangle is the latest
pub latest_none : (faces : List Face) (v : ℕ) → IsLatest faces 0 v 0
latest_none faces v = record {
  all = λ t lt has. omega arith;
  within = omega arith;
  uses = λ some. absurd (omega arith);
}

-- one more that has the vertex is
latest_here : (faces : List Face) (n v : ℕ) → HasVertex (face_at faces n) v → IsLatest faces (n + 1) v (n + 1)
latest_here faces n v has =
    let back : n ≡ n + 1 - 1 = omega arith in
    record {
      all = λ t lt h. lt;
      within = omega arith;
      uses = λ some. subst (λ t. HasVertex (face_at faces t) v) back has;
    }

-- one more that has it not leaves the latest
latest_elsewhere : (faces : List Face) (n v x : ℕ) → ¬ HasVertex (face_at faces n) v → IsLatest faces n v x →
    IsLatest faces (n + 1) v x
latest_elsewhere faces n v x hasnt latest = record {
  all = λ t lt has. elim (cases_eq t n) [
    | inl e ↦ absurd (hasnt (subst (λ u. HasVertex (face_at faces u) v) e has))
    | inr ne ↦ latest.all t (omega arith) has
  ];
  within = omega (arith, latest.within);
  uses = latest.uses;
}

-- one more triangle is chained to the latest at its vertices, and is then the latest there
pub one_more : (latest new : List ℕ) (earlier : List Links) (links : Links) (faces : List Face) (vertices n : ℕ) →
    AreFansTo latest earlier faces vertices n → length new ≡ length latest →
    ((v : ℕ) → HasVertex (face_at faces n) v → link_at links (face_at faces n) v ≡ latest_at latest v) →
    ((v : ℕ) → HasVertex (face_at faces n) v → latest_at new v ≡ n + 1) →
    ((v : ℕ) → ¬ HasVertex (face_at faces n) v → latest_at new v ≡ latest_at latest v) →
    AreFansTo new (earlier ++ links ∷ []) faces vertices (n + 1)
one_more latest new earlier links faces vertices n fans count linked here elsewhere = record {
  vertices = count ∙ fans.vertices;
  triangles = omega (arith, length-append earlier (links ∷ []), fans.triangles);
  last = λ v. elim (has_vertex_cases (face_at faces n) v) [
    | inl has ↦ subst (IsLatest faces (n + 1) v) (sym (here v has)) (latest_here faces n v has)
    | inr hasnt ↦ subst (IsLatest faces (n + 1) v) (sym (elsewhere v hasnt))
        (latest_elsewhere faces n v (latest_at latest v) hasnt (fans.last v))
  ];
  before = λ t v lt has. elim (cases_eq t n) [
    | inl e ↦
        let there : HasVertex (face_at faces n) v = subst (λ u. HasVertex (face_at faces u) v) e has in
        let own : IsLatest faces n v (link_at (links_at (earlier ++ links ∷ []) n) (face_at faces n) v) =
        subst (λ l. IsLatest faces n v (link_at l (face_at faces n) v))
        (sym (get_or_push earlier links _ n fans.triangles))
        (subst (IsLatest faces n v) (sym (linked v there)) (fans.last v)) in
        subst (λ u. IsLatest faces u v (link_at (links_at (earlier ++ links ∷ []) u) (face_at faces u) v)) (sym e) own
    | inr ne ↦
        subst (λ l. IsLatest faces t v (link_at l (face_at faces t) v))
        (sym (get_or_append_left earlier (links ∷ []) _ t (omega (arith, lt, fans.triangles))))
        (fans.before t v (omega arith) has)
  ];
}
