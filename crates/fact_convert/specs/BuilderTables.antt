-- Short words for what conversions change of a builder.
use Rattle.fact_types.specs.Tables.{Tables}
use Rattle.fact_builder.specs.Builder.{Builder}

abbrev pub tables_of : Builder → Tables
tables_of b = b.tables

-- A builder with other tables of types.
abbrev pub with_tables : Builder → Tables → Builder
with_tables b t = record b { tables = t }
