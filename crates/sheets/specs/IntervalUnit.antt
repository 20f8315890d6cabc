-- The places in `IntervalUnit`, from 0 in declaration order. Assumes nothing.
use Rattle.std.specs.Prelude.{ℕ}

abbrev pub YearMonth : ℕ
YearMonth = 0

abbrev pub DayTime : ℕ
DayTime = 1

abbrev pub MonthDayNano : ℕ
MonthDayNano = 2

abbrev pub MonthDayMillis : ℕ
MonthDayMillis = 3
