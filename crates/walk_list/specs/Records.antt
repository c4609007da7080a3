-- The records of a list by number.
use Rattle.std.specs.Prelude.{ℕ, List, slice_index_or}
use Rattle.radix_tree.specs.Table.{no_box}
use Rattle.walk_list.specs.declared.records.Record.{Record}

-- the record that stands where no record is
unfoldable pub no_record : Record
no_record = record { fit = no_box; escape = 0; end = 0 }

-- the record of a number
unfoldable pub record_at : List Record → ℕ → Record
record_at records i = slice_index_or records i no_record
