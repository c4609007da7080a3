-- The verdict on all words for the one command is what their cut says: the uses, where no argument stands twice.
use Rattle.std.proofs.Common.{◌≡◌, ap, false, List, [], ◌∷◌, None, Some, refl, sym}
use Rattle.std.specs.Str.{bytes_eq}
use Rattle.std.proofs.lemmas.Bool.{or_parts}
use Rattle.std.proofs.lemmas.List.{append-nil}
use Rattle.clap.specs.Lexer.{long_of}
use Rattle.clap.specs.Walk.{Text, idle}
use Rattle.clap.specs.Faults.{walk_fault}
use Rattle.clap.specs.Takes.{walk_passes}
use Rattle.command_line.specs.Uses.{Use, rows, found, has_dashes}
use Rattle.command_line.proofs.OneCommand.{by_id}
use Rattle.command_line.proofs.OneWalk.{run, verdict_of}
use Rattle.command_line.proofs.Standing.{dashes, standing}
use Rattle.command_line.proofs.FollowsCut.{FollowsCut}
use Rattle.command_line.proofs.IdleWord.{cut_idle}
use Rattle.command_line.proofs.AwaitedWord.{cut_awaited}

-- where no word is left, the verdict is that of the cut
nothing_left : FollowsCut []
unfolding walk_passes walk_fault
nothing_left None uses to pending ready =
    rw (ready.settles.0, ready.settles.1, ready.rows_are)
    (ap (λ (all : List Use). verdict_of (Some (rows all))) (sym (append-nil to)))
nothing_left (Some name) uses to pending ready = rw (by_id (Some name)) refl

module _ (word : Text) (words : List Text) (plain : bytes_eq word dashes ≡ false) (undashed : has_dashes words ≡ false)
    (later : FollowsCut words) where
  -- with one word more it is so, where it was behind that word
  one_more : FollowsCut (word ∷ words)
  one_more None uses to pending ready =
      cut_idle word words plain undashed later uses to pending ready (long_of word) refl
  one_more (Some name) uses to pending ready = cut_awaited word words plain undashed later to name (long_of word) refl

-- so it is for all words, wherever clap stands
follows_cut : (words : List Text) → has_dashes words ≡ false → FollowsCut words
follows_cut [] undashed = nothing_left
follows_cut (word ∷ words) undashed =
    let parts = or_parts (bytes_eq word dashes) (has_dashes words) undashed in
    one_more word words parts.0 parts.1 (follows_cut words parts.1)

-- and so from the first word on
pub run_is : (words : List Text) → has_dashes words ≡ false
    → run (standing idle [] None 1) words ≡ verdict_of (found words)
run_is words undashed = follows_cut words undashed None [] [] None (record { settles = (refl, refl); rows_are = refl })
