-- What is laid down for live nodes is the start.
use Rattle.std.proofs.Common.{◌≡◌, ℕ, zero, suc, ◌+◌, ◌<◌, List, [], ◌∷◌, ◌++◌, length, replicate, sym, refl, ap, ◌∙◌, subst, arith, Some}
use Rattle.std.specs.Prelude.{slice_index}
use Rattle.std.proofs.lemmas.List.{get_or_append_left, length-append}
use Rattle.morton_key.specs.declared.keys.Key.{Key}
use Rattle.arrival_core.specs.declared.packets.Side.TheVariants.{Left, Right}
use Rattle.arrival_core.specs.Frames.{Frame, live_at}
use Rattle.arrival_core.specs.Settings.{frame_of, batch_count}
use Rattle.box_handoff.specs.declared.slots.SlotPacket.{SlotPacket}
use Rattle.box_handoff.specs.declared.views.Given.{Given}
use Rattle.box_handoff.specs.declared.laying.Moves.{Moves}
use Rattle.box_handoff.specs.LiveNodes.{Shown, splits_of}
use Rattle.box_handoff.specs.Entries.{IsGiven, frame, numbers}
use Rattle.box_handoff.specs.Slots.{blank}
use Rattle.box_handoff.specs.Starting.{Starts, start_word}
use Rattle.box_handoff.specs.Laying.{AreMoves, over, given_over, words_of}
use Rattle.box_handoff.proofs.Opening.{word_zero, length_rep}
use Rattle.box_handoff.proofs.NumberLaws.{at_place, count_some, number_some, there_some}

-- there are as many words as splits
length_words : (f : Frame) (xs : List ℕ) → length (words_of f xs) ≡ length xs
unfolding words_of
length_words f [] = refl
length_words f (x ∷ xs) = ap suc (length_words f xs)

-- the word of a place is that of the split there
word_at : (f : Frame) (xs : List ℕ) (i : ℕ) → i < length xs → slice_index (words_of f xs) i
    ≡ start_word (live_at f (slice_index xs i) Left) (live_at f (slice_index xs i) Right)
unfolding words_of
word_at f [] i l = absurd (omega arith)
word_at f (x ∷ xs) zero l = refl
word_at f (x ∷ xs) (suc i) l = word_at f xs i (let z : i < length xs = omega arith in z)

-- behind so many words
behind : (base i : ℕ) (ws : List ℕ) → slice_index (replicate base 0 ++ ws) (base + i) ≡ slice_index ws i
behind zero i ws = let z : 0 + i ≡ i = omega arith in ap (slice_index ws) z
behind (suc base) i ws =
    let z : suc base + i ≡ suc (base + i) = omega arith in
    ap (slice_index (replicate (suc base) 0 ++ ws)) z ∙ behind base i ws

-- so many zeros
abbrev zeros : ℕ → List ℕ
zeros n = replicate n 0

module _ (m : Moves) (ok : AreMoves m) where
  abbrev g : Given
  g = given_over m (Some (splits_of (over m)))

  -- the live nodes' splits may be listed
  pub live_given : IsGiven g
  unfolding frame
  live_given = record {
    task = ok.task;
    few = ok.few;
    spots = refl;
    rests = record { keys_are = refl; table = ok.table; rest = ok.rest };
  }

  -- its frame is that over which the lists are made
  over_is : over m ≡ frame g
  unfolding frame
  over_is = refl

  -- with as many batches as the live list has
  batches_are : (frame g).batches ≡ batch_count m.live.now
  unfolding frame frame_of
  batches_are = refl

  -- and as many numbers as live splits
  count_is : (numbers g).count ≡ length (splits_of (over m))
  count_is = count_some g live_given (splits_of (over m)) refl

  -- where a live node stands in the list
  here : (t : ℕ) → Shown (frame g) t → ((numbers g).number t < length (splits_of (over m)))
      × (slice_index (splits_of (over m)) ((numbers g).number t) ≡ t)
  here t seen =
      let n = number_some g live_given (splits_of (over m)) refl t in
      let there = there_some g live_given (splits_of (over m)) refl t seen in (
        subst (λ (k : ℕ). k < length (splits_of (over m))) n there,
        subst (λ (k : ℕ). slice_index (splits_of (over m)) k ≡ t) n (at_place (splits_of (over m)) t there),
      )

  module _ (words : List ℕ) (slots : List SlotPacket)
      (ws : words ≡ replicate (batch_count m.live.now) 0 ++ words_of (over m) (splits_of (over m)))
      (ss : slots ≡ replicate (length (splits_of (over m)) + 1) blank) where
    -- the words are those of the frame
    base : words ≡ replicate (frame g).batches 0 ++ words_of (frame g) (splits_of (over m))
    base = ws ∙ ap (λ (n : ℕ). replicate n 0 ++ words_of (over m) (splits_of (over m))) (sym batches_are)
        ∙ ap (λ (f : Frame). replicate (frame g).batches 0 ++ words_of f (splits_of (over m))) over_is

    -- and so is what is laid down
    pub live_starts : Starts (frame g) (numbers g) words slots
    live_starts = record {
      word_count = ap (λ (l : List ℕ). length l) base
          ∙ length-append (zeros (frame g).batches) (words_of (frame g) (splits_of (over m)))
          ∙ (let a = length_rep {A = ℕ} (frame g).batches 0 in
          let b = length_words (frame g) (splits_of (over m)) in
          let k = count_is in omega (arith, a, b, k));
      claims = λ j l. ap (λ (x : List ℕ). slice_index x j) base
          ∙ get_or_append_left (zeros (frame g).batches) (words_of (frame g) (splits_of (over m))) 0 j
          (let z = length_rep {A = ℕ} (frame g).batches 0 in omega (arith, z, l)) ∙ word_zero (frame g).batches j;
      word = λ t l.
          let h = here t l in
          ap (λ (x : List ℕ). slice_index x ((frame g).batches + (numbers g).number t)) base
          ∙ behind (frame g).batches ((numbers g).number t) (words_of (frame g) (splits_of (over m)))
          ∙ word_at (frame g) (splits_of (over m)) ((numbers g).number t) h.0
          ∙ ap (λ (n : ℕ). start_word (live_at (frame g) n Left) (live_at (frame g) n Right)) h.1;
      blanks = ss ∙ ap (λ (n : ℕ). replicate (n + 1) blank) (sym count_is);
    }

-- what a handoff is given that is made of a list, by its parts
pub given_is : (m : Moves) (keys : List Key) (live spots : List ℕ) → keys ≡ m.tree.now.keys → live ≡ m.live.now →
    spots ≡ splits_of (over m) → ◌≡◌ {A = Given} (record {
      keys = keys;
      boxes = m.boxes.now;
      live = live;
      seats = m.seats;
      spots = Some spots;
      tree = Some m.tree.now;
    }) (given_over m (Some (splits_of (over m))))
given_is m keys live spots a b c = rw a (rw b (rw c refl))
