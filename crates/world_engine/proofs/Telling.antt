-- A report that is told stage by stage.
use Rattle.std.proofs.Common.{◌≡◌, ◌<◌, ℕ, ◌+◌, ◌*◌, List, [], ◌∷◌, ◌++◌, length, map, take, get_or, append_assoc, append-nil, refl, ap, ◌∙◌, sym}
use Rattle.std.proofs.lemmas.List.{take_more, map-append}
use Rattle.obj_text.proofs.HeightFields.{length-rows}
use Rattle.world_engine.specs.declared.workload.TheConstants.{QUERIES}
use Rattle.world_index.specs.Worlds.{WorldState}
use Rattle.world_engine.specs.Workload.{query_asks, pass_asks}
use Rattle.world_engine.specs.Reports.{Stage, replies_to, world_after, text_of}

-- the world after stages
abbrev pub worlds_after : WorldState → List Stage → WorldState
worlds_after world [] = world
worlds_after world (stage ∷ stages) = worlds_after (world_after world stage.asks) stages

-- what one stage writes in a world
abbrev pub stage_text : WorldState → Stage → List ℕ
stage_text world stage = stage.text (replies_to world stage.asks)

-- the world is that after these stages, and the text is what they wrote
pub record Tells (world : WorldState) (stages : List Stage) (now : WorldState) (text : List ℕ) : Type 0 where
  pub world_is : now ≡ worlds_after world stages
  pub text_is : text ≡ text_of world stages

-- one stage more is one world further
worlds_after-append : (world : WorldState) (stages : List Stage) (stage : Stage)
    → worlds_after world (stages ++ stage ∷ []) ≡ world_after (worlds_after world stages) stage.asks
worlds_after-append world [] stage = refl
worlds_after-append world (first ∷ stages) stage = worlds_after-append (world_after world first.asks) stages stage

-- and writes its text behind the others'
text_of-append : (world : WorldState) (stages : List Stage) (stage : Stage)
    → text_of world (stages ++ stage ∷ []) ≡ text_of world stages ++ stage_text (worlds_after world stages) stage
text_of-append world [] stage = append-nil (stage_text world stage)
text_of-append world (first ∷ stages) stage =
    let next = world_after world first.asks in
    ap (λ later. stage_text world first ++ later) (text_of-append next stages stage)
    ∙ sym (append_assoc (stage_text world first) (text_of next stages) (stage_text (worlds_after next stages) stage))

-- before the first stage
pub tells_none : (world now : WorldState) (text : List ℕ) → now ≡ world → text ≡ [] → Tells world [] now text
tells_none world now text same none = record { world_is = same; text_is = none }

-- one stage more
pub tells_more : (world : WorldState) (stages : List Stage) (stage : Stage) (now later : WorldState)
    (text more : List ℕ) → Tells world stages now text → later ≡ world_after now stage.asks
    → more ≡ text ++ stage_text now stage → Tells world (stages ++ stage ∷ []) later more
tells_more world stages stage now later text more told world_is text_is = record {
  world_is =
      world_is ∙ ap (λ w. world_after w stage.asks) told.world_is ∙ sym (worlds_after-append world stages stage);
  text_is =
      text_is ∙ ap (λ t. t ++ stage_text now stage) told.text_is
      ∙ ap (λ w. text_of world stages ++ stage_text w stage) told.world_is ∙ sym (text_of-append world stages stage);
}

-- what is made of one item more of a list
pub map_more : {A B : Type 0} (f : A → B) (items : List A) (at : ℕ) (item : A) → at < length items
    → map f (take (at + 1) items) ≡ map f (take at items) ++ f (get_or items at item) ∷ []
map_more f items at item some =
    ap (map f) (take_more items at item some) ∙ map-append f (take at items) (get_or items at item ∷ [])

-- how many asks a pass has
pub length-pass_asks : (side : ℕ) → length (pass_asks side) ≡ QUERIES * 3
unfolding pass_asks query_asks
length-pass_asks side = length-rows (query_asks side) 3 (λ query. refl) QUERIES 0
