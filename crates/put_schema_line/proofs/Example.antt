-- A line that meets what `put_schema_line` requires, and its text: an extension whose metadata is empty, over Float64 with one pair. Assumes nothing.
use mathlib.Core.Path.{◌≡◌, refl}
use mathlib.Core.Bool.{false}
use mathlib.Core.List.{[], ◌∷◌}
use Rattle.std.specs.Prelude.{Some}
use native.Mathlib.Omega.{arith}
use Rattle.sheets.specs.Bytes.{ascii}
use Rattle.sheets.specs.Number.{decimal}
use Rattle.sheets.specs.Field.{leaf}
use Rattle.sheets.specs.FieldSheet.{of_scalar}
use Rattle.column_text.specs.ColumnText.{column_text}
use Rattle.field_pairs.specs.Pairs.{pairs_in}
use Rattle.put_format.specs.LineFormat.{line_shape}
use Rattle.put_schema_line.specs.Lines.{line_text, CanPutColumns}
use Rattle.put_schema_line.specs.declared.LineNumbers.{LineNumbers}

abbrev numbers : LineNumbers
numbers = record { kind = 14; p = 0; q = 0; flags = 2; children = 0; dictionary = 0; big = false }

pub can_put : CanPutColumns numbers (ascii "~") (ascii "6974656d") (ascii "6d=32") (ascii "666f6f") (ascii "-")
unfolding line_shape
can_put =
    record {
      format = record { shape = of_scalar (leaf 14 0); read = refl; is = refl; rule = (refl, refl); plain = λ e. omega arith; short = omega arith; few = omega arith; low = omega arith };
      named = record { text = Some (ascii "item"); is = refl; rule = refl; short = omega arith };
      column = record { pairs = Some ((ascii "m", ascii "2") ∷ []); text = refl; rule = (refl, (refl, (refl, refl))) };
      short = omega arith;
      extended = record { text = Some (ascii "foo"); is = refl; rule = refl; short = omega arith };
      metadata = record { text = Some []; is = refl; rule = refl; short = omega arith };
    }

pub is_text_lem : line_text numbers (ascii "6974656d") (ascii "6d=32") (ascii "666f6f") (ascii "-") (ascii "g")
    ≡ ascii "67 6974656d 2 03000000180000004152524f573a657874656e73696f6e3a6d6574616461746100000000140000004152524f573a657874656e73696f6e3a6e616d6503000000666f6f010000006d0100000032 0 0\n"
unfolding line_text column_text pairs_in decimal
is_text_lem = refl
