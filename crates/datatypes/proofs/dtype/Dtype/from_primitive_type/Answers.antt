-- `from_primitive_type` meets its contract: in each arm the case is known, and the definitions compute there to the columns that the call gives.
-- Assumes nothing.
use mathlib.Core.Path.{sym, ap, ◌∙◌}
use Rattle.datatypes.proofs.DtypeLaws.{primitive_columns, line_of}
use Rattle.datatypes.proofs.dtype.Dtype.from_primitive_type.Goals as goal

pub returns-in-Int8 : goal.returns-in-Int8
returns-in-Int8 c = ap primitive_columns c.in-Int8.is ∙ ap line_of (sym c.leaf.ensures)

pub returns-in-Int16 : goal.returns-in-Int16
returns-in-Int16 c = ap primitive_columns c.in-Int16.is ∙ ap line_of (sym c.leaf-in-Int16.ensures)

pub returns-in-Int32 : goal.returns-in-Int32
returns-in-Int32 c = ap primitive_columns c.in-Int32.is ∙ ap line_of (sym c.leaf-in-Int32.ensures)

pub returns-in-Int64 : goal.returns-in-Int64
returns-in-Int64 c = ap primitive_columns c.in-Int64.is ∙ ap line_of (sym c.leaf-in-Int64.ensures)

pub returns-in-Int128 : goal.returns-in-Int128
returns-in-Int128 c = ap primitive_columns c.in-Int128.is ∙ ap line_of (sym c.leaf-in-Int128.ensures)

pub returns-in-Int256 : goal.returns-in-Int256
returns-in-Int256 c = ap primitive_columns c.in-Int256.is

pub returns-in-UInt8 : goal.returns-in-UInt8
returns-in-UInt8 c = ap primitive_columns c.in-UInt8.is ∙ ap line_of (sym c.leaf-in-UInt8.ensures)

pub returns-in-UInt16 : goal.returns-in-UInt16
returns-in-UInt16 c = ap primitive_columns c.in-UInt16.is ∙ ap line_of (sym c.leaf-in-UInt16.ensures)

pub returns-in-UInt32 : goal.returns-in-UInt32
returns-in-UInt32 c = ap primitive_columns c.in-UInt32.is ∙ ap line_of (sym c.leaf-in-UInt32.ensures)

pub returns-in-UInt64 : goal.returns-in-UInt64
returns-in-UInt64 c = ap primitive_columns c.in-UInt64.is ∙ ap line_of (sym c.leaf-in-UInt64.ensures)

pub returns-in-UInt128 : goal.returns-in-UInt128
returns-in-UInt128 c = ap primitive_columns c.in-UInt128.is ∙ ap line_of (sym c.leaf-in-UInt128.ensures)

pub returns-in-Float16 : goal.returns-in-Float16
returns-in-Float16 c = ap primitive_columns c.in-Float16.is ∙ ap line_of (sym c.leaf-in-Float16.ensures)

pub returns-in-Float32 : goal.returns-in-Float32
returns-in-Float32 c = ap primitive_columns c.in-Float32.is ∙ ap line_of (sym c.leaf-in-Float32.ensures)

pub returns-in-Float64 : goal.returns-in-Float64
returns-in-Float64 c = ap primitive_columns c.in-Float64.is ∙ ap line_of (sym c.leaf-in-Float64.ensures)

pub returns-in-DaysMs : goal.returns-in-DaysMs
returns-in-DaysMs c = ap primitive_columns c.in-DaysMs.is ∙ ap line_of (sym c.interval.ensures)

pub returns-in-MonthDayNano : goal.returns-in-MonthDayNano
returns-in-MonthDayNano c = ap primitive_columns c.in-MonthDayNano.is ∙ ap line_of (sym c.interval-in-MonthDayNano.ensures)

pub returns-in-MonthDayMillis : goal.returns-in-MonthDayMillis
returns-in-MonthDayMillis c = ap primitive_columns c.in-MonthDayMillis.is ∙ ap line_of (sym c.interval-in-MonthDayMillis.ensures)
