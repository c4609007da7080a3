-- A world that is asked in turn, one ask more.
use Rattle.std.proofs.Common.{◌≡◌, ◌<◌, ◌+◌, ℕ, suc, List, [], ◌∷◌, ◌++◌, length, take, get_or, refl, ap, ◌∙◌}
use Rattle.std.proofs.lemmas.List.{take_more}
use Rattle.query_script.specs.declared.asks.Ask.{Ask}
use Rattle.world_index.specs.Worlds.{WorldState, reply_to, state_after}
use Rattle.world_engine.specs.Reports.{replies_to, world_after}

-- the world after asks and more asks
pub world_after-append : (world : WorldState) (asks more : List Ask)
    → world_after world (asks ++ more) ≡ world_after (world_after world asks) more
world_after-append world [] more = refl
world_after-append world (ask ∷ asks) more = world_after-append (state_after world ask) asks more

-- the replies to asks and to more asks
pub replies_to-append : (world : WorldState) (asks more : List Ask)
    → replies_to world (asks ++ more) ≡ replies_to world asks ++ replies_to (world_after world asks) more
replies_to-append world [] more = refl
replies_to-append world (ask ∷ asks) more =
    ap (λ replies. reply_to world ask ∷ replies) (replies_to-append (state_after world ask) asks more)

-- each ask has one reply
pub length-replies_to : (world : WorldState) (asks : List Ask) → length (replies_to world asks) ≡ length asks
length-replies_to world [] = refl
length-replies_to world (ask ∷ asks) = ap suc (length-replies_to (state_after world ask) asks)

-- the world after one ask more
pub world_after_more : (world : WorldState) (asks : List Ask) (at : ℕ) (ask : Ask) → at < length asks
    → world_after world (take (at + 1) asks) ≡ state_after (world_after world (take at asks)) (get_or asks at ask)
world_after_more world asks at ask some =
    ap (world_after world) (take_more asks at ask some)
    ∙ world_after-append world (take at asks) (get_or asks at ask ∷ [])

-- the replies to one ask more
pub replies_to_more : (world : WorldState) (asks : List Ask) (at : ℕ) (ask : Ask) → at < length asks
    → replies_to world (take (at + 1) asks)
    ≡ replies_to world (take at asks) ++ reply_to (world_after world (take at asks)) (get_or asks at ask) ∷ []
replies_to_more world asks at ask some =
    ap (replies_to world) (take_more asks at ask some)
    ∙ replies_to-append world (take at asks) (get_or asks at ask ∷ [])
