-- The words as the uses of arguments that the one command of `clap` finds, and the plan of their texts. Only private
-- calls promise this; the public clauses speak of the grammar.
use Rattle.std.specs.Prelude.{ℕ, ◌==◌, ◌&&◌, ◌+◌, not, Bool, true, false, if◌then◌else◌, List, [], ◌∷◌, ◌++◌, map, Option, None, Some, is_some, codes, option_map, option_and_then, slice_get}
use Rattle.std.specs.Option.{option_map_or}
use Rattle.std.specs.Str.{bytes_eq, chars}
use Rattle.std.specs.List.{list_any}
use Rattle.text_words.specs.Numbers.{starts_minus}
use Rattle.clap.specs.Lexer.{long_of, short_of}
use Rattle.clap.specs.Facts.{parser_of_value}
use Rattle.clap.specs.Values.{reading_of}
use Rattle.clap.specs.Walk.{Row, Text, first_of, has_row}
use Rattle.clap.specs.declared.parser.matches.ValueSource.TheVariants.{CommandLine}
use Rattle.clap.specs.declared.builder.value_parser.ValueParser.TheVariants as vp
use Rattle.fixed_box.specs.declared.shapes.TheConstants.{UNIT_MAX}
use Rattle.obj_text.specs.declared.limits.TheConstants.{LEAST_GRID, MOST_GRID}
use Rattle.command_line.specs.declared.limits.TheConstants.{WORKERS, UNIT, MOST_WORKERS}
use Rattle.command_line.specs.Parts.{Name}
use Rattle.command_line.specs.Parts.{Name as name}
use Rattle.command_line.specs.declared.plan.Build.TheVariants.{Karras}
use Rattle.command_line.specs.declared.plan.Input.TheVariants.{File, Grid}
use Rattle.command_line.specs.declared.plan.Input.{Input}
use Rattle.command_line.specs.declared.plan.Plan.{Plan}
use Rattle.command_line.specs.Values.{name_of, number_in, build_of}
use Rattle.command_line.specs.Plans.{plan_with}

-- the id of the MESH word's argument, or of an option's
abbrev pub key_text : Option Name → Text
key_text None = codes "mesh"
key_text (Some name.Grid) = codes "grid"
key_text (Some name.Workers) = codes "workers"
key_text (Some name.Build) = codes "build"
key_text (Some name.Unit) = codes "unit"

-- the MESH word or an option, with its text
abbrev pub Use : Type 0
Use = Option Name × Text

abbrev pub use_row : Use → Row
use_row u = record {
  id = key_text u.0;
  values = u.1 ∷ [];
  count = None;
  source = Some CommandLine;
  reading = reading_of (parser_of_value (Some vp.String));
}

abbrev pub rows : List Use → List Row
rows = map use_row

abbrev pub seen : Option Name → List Use → Bool
seen k us = has_row (key_text k) (rows us)

-- ---- the cut

-- a word that begins with one `-` and more
abbrev pub is_stray : Text → Bool
is_stray word = option_map_or (λ flags. is_some (slice_get (chars flags) 0)) (short_of word) false

abbrev pub long_cut : Option Name → Option Text → Option (List Use) → (Name → Option (List Use)) → Option (List Use)
long_cut None v later waiting = None
long_cut (Some n) (Some t) later waiting = option_map (λ us. (Some n, t) ∷ us) later
long_cut (Some n) None later waiting = waiting n

abbrev pub idle_cut : Option (Text × Option Text) → Text → Option (List Use) → (Name → Option (List Use))
    → Option (List Use)
idle_cut (Some p) word later waiting = long_cut (name_of p.0) p.1 later waiting
idle_cut None word later waiting = if is_stray word then None else option_map (λ us. (None, word) ∷ us) later

abbrev pub open_cut : Name → Option (Text × Option Text) → Text → Option (List Use) → Option (List Use)
open_cut n (Some p) word later = None
open_cut n None word later = if is_stray word then None else option_map (λ us. (Some n, word) ∷ us) later

abbrev pub cut : Option Name → List Text → Option (List Use)
cut None [] = Some []
cut (Some n) [] = None
cut None (word ∷ words) = idle_cut (long_of word) word (cut None words) (λ n. cut (Some n) words)
cut (Some n) (word ∷ words) = open_cut n (long_of word) word (cut None words)

-- no argument twice
abbrev pub fresh : List Use → List Use → Bool
fresh us [] = true
fresh us (u ∷ later) = not (seen u.0 us) && fresh (us ++ u ∷ []) later

abbrev pub ends : List Use → Option (List Use) → Option (List Row)
ends us o = option_and_then (λ later. if fresh us later then Some (rows (us ++ later)) else None) o

-- what a parse finds
abbrev pub found : List Text → Option (List Row)
found words = ends [] (cut None words)

-- ---- the plan of the texts

-- a word that names a mesh
abbrev pub is_mesh : Text → Bool
is_mesh [] = false
is_mesh (b ∷ bs) = not (starts_minus (b ∷ bs))

abbrev pub read_or : {A : Type 0} → A → (Text → Option A) → Option Text → Option A
read_or default read None = Some default
read_or default read (Some text) = read text

-- the input of a MESH word at a place, or of a text of `grid` with no text of `unit`
abbrev pub input_from : Option Text → Option Text → Option Text → Option ℕ → Option Input
input_from (Some mesh) None unit place = if is_mesh mesh then option_map File place else None
input_from None (Some grid) None place = option_map Grid (number_in LEAST_GRID MOST_GRID grid)
input_from _ _ _ _ = None

-- the plan of a MESH word at a place and of the texts of the options
abbrev pub plan_from : Option ℕ → Option Text → Option Text → Option Text → Option Text → Option Text → Option Plan
plan_from place mesh grid workers build unit =
    plan_with (input_from mesh grid unit place) (read_or WORKERS (number_in 1 MOST_WORKERS) workers)
    (read_or Karras build_of build) (read_or UNIT (number_in 1 UNIT_MAX) unit)

-- the place of the first word that is neither an option nor an option's value, from a place on
abbrev pub mesh_from : Bool → ℕ → List Text → Option ℕ
mesh_from is_value place [] = None
mesh_from true place (word ∷ words) = mesh_from false (place + 1) words
mesh_from false place (word ∷ words) =
    if starts_minus word then mesh_from (not (list_any (λ b. b == 61) word)) (place + 1) words else Some place

-- the plan of what a parse finds
abbrev pub row_plan : Option ℕ → List Row → Option Plan
row_plan place rs = plan_from place (first_of (codes "mesh") rs) (first_of (codes "grid") rs)
    (first_of (codes "workers") rs) (first_of (codes "build") rs) (first_of (codes "unit") rs)

abbrev pub given_plan : List Text → Option Plan
given_plan words = option_and_then (row_plan (mesh_from false 0 words)) (found words)

-- a word is `--`
abbrev pub has_dashes : List Text → Bool
has_dashes words = list_any (λ w. bytes_eq w (codes "--")) words
