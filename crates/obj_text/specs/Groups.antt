-- The groups of triangles, from the list of each triangle's name.
use Rattle.std.specs.Prelude.{ℕ, List, [], ◌∷◌, ◌++◌, not, filter, map, if◌then◌else◌}
use Rattle.std.specs.List.{list_any, position_or_len}
use Rattle.std.specs.Str.{bytes_eq}

-- the different names, in the order in which each stands first
abbrev pub first_seen : List (List ℕ) → List (List ℕ)
first_seen [] = []
first_seen (name ∷ names) = name ∷ filter (λ other. not (bytes_eq name other)) (first_seen names)

-- the place of each name among the groups, from 0
abbrev pub places_in : List (List ℕ) → List (List ℕ) → List ℕ
places_in groups names = map (λ name. position_or_len (bytes_eq name) groups) names

-- the groups behind a face of this name
abbrev pub with_name : List (List ℕ) → List ℕ → List (List ℕ)
with_name groups name = if list_any (bytes_eq name) groups then groups else groups ++ name ∷ []
