-- A name of 16 bytes as two numbers. Assumes nothing.
use Rattle.std.specs.Prelude.{◌++◌}
use Rattle.sheets.specs.Bytes.{Bytes}
use Rattle.words.specs.Words.{low_bytes}
use Rattle.kind_names.specs.declared.Halves.{Halves}

abbrev pub both_halves : Halves → Bytes
both_halves h = low_bytes 8 h.low ++ low_bytes 8 h.high
