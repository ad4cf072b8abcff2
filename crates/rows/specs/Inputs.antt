-- The tables that a row is filled from, as the code's struct holds them.
use Rattle.rows.specs.declared.inputs.RowInputs.{RowInputs}
use Rattle.rows.specs.Reads.{score_read}
use Rattle.rows.specs.Units.{RowTables, row_tables}

abbrev pub tables_by : RowInputs → RowTables
tables_by inputs =
    row_tables inputs.n inputs.tables.now
    (score_read inputs.accepted.bytes.now inputs.tables.now.words inputs.column) inputs.costs inputs.strictness
