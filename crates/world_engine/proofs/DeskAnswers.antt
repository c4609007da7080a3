-- What a desk answers to lines is the defined replies of its world.
use Rattle.std.proofs.Common.{◌≡◌, ◌<◌, ◌≤◌, ◌+◌, ◌++◌, ◌||◌, ℕ, Bool, true, false, cond, nat_lt, List, [], ◌∷◌, Option, None, Some, IfSome, take, length, refl, sym, ap, ◌∙◌, subst, append_assoc, append-nil, codes}
use Rattle.std.specs.List.{list_any}
use Rattle.std.specs.Io.KnownBytes.{Appends}
use Rattle.std.proofs.KnownBytes.{Appends-trans}
use Rattle.text_words.specs.Lines.{lines_of, ended_lines}
use Rattle.streams.specs.Owed.{AppendsFront}
use Rattle.streams.specs.Answers.{answers_from, state_after, lines_within, text_left}
use Rattle.streams.specs.Taken.{Taken, IsPrompt}
use Rattle.streams.proofs.Within.{not_less, is_less, within_whole, within_cut}
use Rattle.world_engine.specs.declared.limits.TheConstants.{SCRIPT_MOST}
use Rattle.world_engine.specs.declared.status.Status.{Status}
use Rattle.world_engine.specs.declared.status.Status.TheVariants.{LinesRefused}
use Rattle.world_engine.specs.declared.desk.Desk.{Desk}
use Rattle.world_engine.specs.Desks.{desk_text, desk_after}
use Rattle.world_index.specs.Worlds.{WorldState, reply_of}
use Rattle.query_script.specs.Asks.{ask_of}
use Rattle.query_script.specs.Replies.{reply_text, is_refused}
use Rattle.world_engine.specs.Outputs.{replies_of, texts_from, script_output, whole_output, cut_output, status_of, says}
use Rattle.world_engine.specs.Runs.{Fulfils, IsWhole, asked, replies_to_ended}

-- a desk at which no line was refused yet
abbrev pub new_desk : WorldState → ℕ → Desk
new_desk world unit = record { world = world; unit = unit; refused = false }

-- a desk's answers are the texts of the replies
pub desk_answers : (desk : Desk) (number : ℕ) (lines : List (List ℕ))
    → answers_from desk_text desk_after desk number lines ≡ texts_from number (replies_of desk.unit desk.world lines)
desk_answers desk number [] = refl
desk_answers desk number (line ∷ lines) =
    ap (λ k. reply_text number (reply_of desk.world (ask_of desk.unit line)) ++ k)
    (desk_answers (desk_after desk line) (number + 1) lines)

-- some line is refused, whichever of three parts it stands in
or_assoc : (a b c : Bool) → (a || b) || c ≡ a || (b || c)
or_assoc true b c = refl
or_assoc false b c = refl

-- and no line refused more
or_false : (b : Bool) → b || false ≡ b
or_false true = refl
or_false false = refl

-- a desk knows whether some reply was a refusal
pub desk_refusals : (desk : Desk) (lines : List (List ℕ))
    → (state_after desk_after desk lines).refused
    ≡ desk.refused || list_any is_refused (replies_of desk.unit desk.world lines)
desk_refusals desk [] = sym (or_false desk.refused)
desk_refusals desk (line ∷ lines) =
    let next = desk_after desk line in
    desk_refusals next lines
    ∙ or_assoc desk.refused (is_refused (reply_of desk.world (ask_of desk.unit line)))
    (list_any is_refused (replies_of next.unit next.world lines))

-- a longer text
front_longer : (old now : Option (List ℕ)) (text more : List ℕ) → AppendsFront old now text
    → AppendsFront old now (text ++ more)
front_longer old now text more p = (
  p.0 ++ more,
  record {
    front = p.1.front;
    whole = ap (λ x. x ++ more) p.1.whole ∙ append_assoc p.1.front p.0 more;
    taken = p.1.taken;
  },
)

-- a front after a whole text
front_after : (old mid now : Option (List ℕ)) (text more : List ℕ) → Appends old mid text
    → AppendsFront mid now more → AppendsFront old now (text ++ more)
front_after old mid now text more done p = (
  p.0,
  record {
    front = text ++ p.1.front;
    whole = ap (λ x. text ++ x) p.1.whole ∙ sym (append_assoc text p.1.front p.0);
    taken = Appends-trans old mid now text p.1.front done p.1.taken;
  },
)

-- a front of the answers is a front of the script's output
front_of_script : (unit : ℕ) (world : WorldState) (old now : Option (List ℕ)) (bytes : List ℕ)
    → AppendsFront old now (texts_from 1 (replies_of unit world (lines_within SCRIPT_MOST bytes)))
    → AppendsFront old now (script_output unit world bytes).text
front_of_script unit world old now bytes p =
    let cut = ended_lines (take SCRIPT_MOST bytes) in
    let all = lines_of bytes in
    elim (nat_lt SCRIPT_MOST (length bytes)) as (λ b.
    AppendsFront old now (texts_from 1 (replies_of unit world (cond b cut all)))
    → AppendsFront old now
    (cond b (cut_output (replies_of unit world cut)) (whole_output (replies_of unit world all))).text) [
      | true ↦ λ q. front_longer old now _ _ q
      | false ↦ λ q. q
    ] p

-- a run that stopped with a status that says so fulfils the script's output
pub script_stops : (unit : ℕ) (world : WorldState) (old now left : Option (List ℕ)) (status : Status)
    → (IsWhole status → ⊥)
    → IfSome left (λ bytes. AppendsFront old now
    (answers_from desk_text desk_after (new_desk world unit) 1 (lines_within SCRIPT_MOST bytes)))
    → IfSome left (λ bytes. Fulfils (script_output unit world bytes) status old now)
script_stops unit world old now None status stopped front = tt
script_stops unit world old now (Some bytes) status stopped front = record {
  ended = λ w. absurd (stopped w);
  whole = λ w. absurd (stopped w);
  front = front_of_script unit world old now bytes
      (subst (AppendsFront old now) (desk_answers (new_desk world unit) 1 (lines_within SCRIPT_MOST bytes)) front);
}

-- a whole text is a front of itself
pub front_of_whole : (old now : Option (List ℕ)) (text : List ℕ) → Appends old now text → AppendsFront old now text
front_of_whole old now text p = ([], record { front = text; whole = sym (append-nil text); taken = p })

-- a script within the limit that was answered to its end
pub script_ends : (unit : ℕ) (world : WorldState) (old now left : Option (List ℕ)) (desk : Desk) (status : Status)
    → status ≡ status_of desk.refused
    → IfSome left (λ bytes. Appends old now
    (answers_from desk_text desk_after (new_desk world unit) 1 (lines_within SCRIPT_MOST bytes)))
    → IfSome left (λ bytes. desk ≡ state_after desk_after (new_desk world unit) (lines_within SCRIPT_MOST bytes))
    → IfSome left (λ bytes. length bytes ≤ SCRIPT_MOST)
    → IfSome left (λ bytes. Fulfils (script_output unit world bytes) status old now)
script_ends unit world old now None desk status is text state few = tt
script_ends unit world old now (Some bytes) desk status is text state few =
    let lines = within_whole SCRIPT_MOST bytes few in
    let output : script_output unit world bytes ≡ whole_output (replies_of unit world (lines_of bytes)) =
    ap (λ b. cond b (cut_output (replies_of unit world (ended_lines (take SCRIPT_MOST bytes))))
    (whole_output (replies_of unit world (lines_of bytes)))) (not_less SCRIPT_MOST (length bytes) few) in
    let written : Appends old now (texts_from 1 (replies_of unit world (lines_of bytes))) =
    subst (Appends old now) (desk_answers (new_desk world unit) 1 (lines_within SCRIPT_MOST bytes)
    ∙ ap (λ k. texts_from 1 (replies_of unit world k)) lines) text in
    let refused : desk.refused ≡ list_any is_refused (replies_of unit world (lines_of bytes)) =
    ap (λ d. d.refused) state ∙ desk_refusals (new_desk world unit) (lines_within SCRIPT_MOST bytes)
    ∙ ap (λ k. list_any is_refused (replies_of unit world k)) lines in
    subst (λ o. Fulfils o status old now) (sym output) record {
      ended = λ w. is ∙ ap status_of refused;
      whole = λ w. written;
      front = front_of_whole old now _ written;
    }

-- a longer script, of which word was written or not
pub script_cut : (unit : ℕ) (world : WorldState) (old mid now left : Option (List ℕ)) (status : Status)
    → IfSome left (λ bytes. Appends old mid
    (answers_from desk_text desk_after (new_desk world unit) 1 (lines_within SCRIPT_MOST bytes)))
    → IfSome left (λ bytes. SCRIPT_MOST < length bytes)
    → Fulfils (says (codes "script too long\n") LinesRefused) status mid now
    → IfSome left (λ bytes. Fulfils (script_output unit world bytes) status old now)
script_cut unit world old mid now None status text long said = tt
script_cut unit world old mid now (Some bytes) status text long said =
    let replies = replies_of unit world (ended_lines (take SCRIPT_MOST bytes)) in
    let output : script_output unit world bytes ≡ cut_output replies =
    ap (λ b. cond b (cut_output replies) (whole_output (replies_of unit world (lines_of bytes))))
    (is_less SCRIPT_MOST (length bytes) long) in
    let written : Appends old mid (texts_from 1 replies) =
    subst (Appends old mid) (desk_answers (new_desk world unit) 1 (lines_within SCRIPT_MOST bytes)
    ∙ ap (λ k. texts_from 1 (replies_of unit world k)) (within_cut SCRIPT_MOST bytes long)) text in
    subst (λ o. Fulfils o status old now) (sym output) record {
      ended = λ w. said.ended w;
      whole = λ w. Appends-trans old mid now _ _ written (said.whole w);
      front = front_after old mid now _ _ written said.front;
    }

-- a desk's answers to the lines that ended are the replies to them
ended_answers : (unit : ℕ) (world : WorldState) (bytes : List ℕ)
    → text_left desk_text desk_after (new_desk world unit) 1 false bytes ≡ replies_to_ended (asked unit world) bytes
ended_answers unit world bytes = desk_answers (new_desk world unit) 1 (ended_lines bytes)

-- what was written when the script could not be read
pub taken_replies : (unit : ℕ) (world : WorldState) (left new old now : Option (List ℕ))
    → Taken left new (λ front. Appends old now (text_left desk_text desk_after (new_desk world unit) 1 false front))
    → Taken left new (λ front. Appends old now (replies_to_ended (asked unit world) front))
taken_replies unit world left new old now p =
    subst (λ (f : List ℕ → List ℕ). Taken left new (λ front. Appends old now (f front)))
    (λ i. λ front. ended_answers unit world front i) p

-- how far the script was read when a reply could not be written
pub prompt_replies : (unit : ℕ) (world : WorldState) (left new old now : Option (List ℕ))
    → IsPrompt (text_left desk_text desk_after (new_desk world unit) 1 false) left new old now
    → IsPrompt (replies_to_ended (asked unit world)) left new old now
prompt_replies unit world left new old now p =
    subst (λ (f : List ℕ → List ℕ). IsPrompt f left new old now) (λ i. λ front. ended_answers unit world front i) p
