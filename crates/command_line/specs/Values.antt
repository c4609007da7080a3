-- The names of the options, and the values that they take.
use Rattle.std.specs.Prelude.{ℕ, ◌&&◌, List, nat_le, nat_lt, length, codes, if◌then◌else◌, Option, None, Some, option_map, Result, Ok, Err}
use Rattle.std.specs.Str.{bytes_eq}
use Rattle.decimals.specs.Values.{whole_of}
use Rattle.decimals.specs.declared.fault.NumberFault.{NumberFault}
use Rattle.fixed_box.specs.declared.shapes.TheConstants.{UNIT_MAX}
use Rattle.obj_text.specs.declared.limits.TheConstants.{LEAST_GRID, MOST_GRID}
use Rattle.command_line.specs.declared.limits.TheConstants.{MOST_DIGITS, MOST_WORKERS}
use Rattle.command_line.specs.Parts.{Name}
use Rattle.command_line.specs.Parts.{Name as name}
use Rattle.command_line.specs.Parts.{Item}
use Rattle.command_line.specs.Parts.{Item as item}
use Rattle.command_line.specs.declared.plan.Build.{Build}
use Rattle.command_line.specs.declared.plan.Build.TheVariants as build

-- the option that a text names
abbrev pub name_of : List ℕ → Option Name
name_of text =
    if bytes_eq text (codes "grid") then Some name.Grid
    else (if bytes_eq text (codes "workers") then Some name.Workers
    else (if bytes_eq text (codes "build") then Some name.Build
    else (if bytes_eq text (codes "unit") then Some name.Unit else None)))

-- a number that was read, where it is from `least` to `most`
abbrev pub within : ℕ → ℕ → Result ℕ NumberFault → Option ℕ
within least most (Ok n) = if nat_le least n && nat_le n most then Some n else None
within least most (Err fault) = None

-- the number that 1 to 6 digits write, where it is from `least` to `most`
abbrev pub number_in : ℕ → ℕ → List ℕ → Option ℕ
number_in least most text = if nat_lt MOST_DIGITS (length text) then None else within least most (whole_of text)

-- the build that a text names
abbrev pub build_of : List ℕ → Option Build
build_of text =
    if bytes_eq text (codes "karras") then Some build.Karras
    else (if bytes_eq text (codes "apetrei") then Some build.Apetrei else None)

-- an option with its value
abbrev pub option_item : Name → List ℕ → Option Item
option_item name.Grid text = option_map item.Grid (number_in LEAST_GRID MOST_GRID text)
option_item name.Workers text = option_map item.Workers (number_in 1 MOST_WORKERS text)
option_item name.Build text = option_map item.Build (build_of text)
option_item name.Unit text = option_map item.Unit (number_in 1 UNIT_MAX text)
