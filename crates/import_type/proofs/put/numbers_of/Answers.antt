-- `numbers_of` meets its contract: in each arm the definition computes. Assumes nothing.
use mathlib.Core.Path.{sym, ◌∙◌, ap}
use Prim.Native.Nat.{ℕ}
use Rattle.sheets.specs.FieldSheet.{columns}
use Rattle.sheets.specs.Kind
use Rattle.format.specs.Formats.{textless_format}
use Rattle.import_type.specs.TypeColumns.{shape_of, number_columns}
use Rattle.format.specs.declared.read.Textless.{Textless}
use Rattle.import_type.proofs.put.numbers_of.Goals as goal

pub returns-in-Leaf : goal.returns-in-Leaf
returns-in-Leaf c = ap (λ (t : Textless). columns (shape_of (textless_format t))) c.in-Leaf.is

pub returns-in-FixedSizeBinary : goal.returns-in-FixedSizeBinary
returns-in-FixedSizeBinary c = ap (λ (t : Textless). columns (shape_of (textless_format t))) c.in-FixedSizeBinary.is

pub returns-in-Decimal : goal.returns-in-Decimal
returns-in-Decimal c = ap (λ (t : Textless). columns (shape_of (textless_format t))) c.in-Decimal.is ∙ ap (λ (k : ℕ). number_columns (record { 0 = k; 1 = c.in-Decimal.precision; 2 = c.in-Decimal.scale })) (sym c.decimal_kind.ensures)

pub returns-in-List : goal.returns-in-List
returns-in-List c = ap (λ (t : Textless). columns (shape_of (textless_format t))) c.in-List.is

pub returns-in-LargeList : goal.returns-in-LargeList
returns-in-LargeList c = ap (λ (t : Textless). columns (shape_of (textless_format t))) c.in-LargeList.is

pub returns-in-FixedSizeList : goal.returns-in-FixedSizeList
returns-in-FixedSizeList c = ap (λ (t : Textless). columns (shape_of (textless_format t))) c.in-FixedSizeList.is

pub returns-in-Map : goal.returns-in-Map
returns-in-Map c = ap (λ (t : Textless). columns (shape_of (textless_format t))) c.in-Map.is ∙ ap (λ (p : ℕ). number_columns (record { 0 = Kind.Map; 1 = p; 2 = 0 })) (sym c.flag.ensures)

pub returns-in-Struct : goal.returns-in-Struct
returns-in-Struct c = ap (λ (t : Textless). columns (shape_of (textless_format t))) c.in-Struct.is
