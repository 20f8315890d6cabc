-- `is_leaf` meets its contract, test by test. Assumes nothing.
use native.Mathlib.Omega.{arith}
use borrow.Author.Tests.{le-leb, lt-leb}
use Rattle.field_kinds.proofs.is_leaf.Goals as goal

pub returns-then-kind-le-FLOAT64 : goal.returns-then-kind-le-FLOAT64
returns-then-kind-le-FLOAT64 c = rw (le-leb _ 14 c.if-kind-le-FLOAT64.true)

pub returns-then-kind-lt-DATE32 : goal.returns-then-kind-lt-DATE32
returns-then-kind-lt-DATE32 c = rw (lt-leb _ 14 c.if-kind-le-FLOAT64.false, lt-leb 16 _ c.if-kind-lt-DATE32.true, lt-leb 24 c.args.kind (omega arith), lt-leb 38 c.args.kind (omega arith))

pub returns-then-kind-le-BINARY : goal.returns-then-kind-le-BINARY
returns-then-kind-le-BINARY c = rw (lt-leb _ 14 c.if-kind-le-FLOAT64.false, le-leb 16 _ c.if-kind-lt-DATE32.false, le-leb _ 22 c.if-kind-le-BINARY.true)

pub returns-then-kind-lt-LARGE_BINARY : goal.returns-then-kind-lt-LARGE_BINARY
returns-then-kind-lt-LARGE_BINARY c = rw (lt-leb _ 14 c.if-kind-le-FLOAT64.false, le-leb 16 _ c.if-kind-lt-DATE32.false, lt-leb _ 22 c.if-kind-le-BINARY.false, lt-leb 24 _ c.if-kind-lt-LARGE_BINARY.true, lt-leb 38 c.args.kind (omega arith))

pub returns-then-kind-le-LARGE_UTF8 : goal.returns-then-kind-le-LARGE_UTF8
returns-then-kind-le-LARGE_UTF8 c = rw (lt-leb _ 14 c.if-kind-le-FLOAT64.false, le-leb 16 _ c.if-kind-lt-DATE32.false, lt-leb _ 22 c.if-kind-le-BINARY.false, le-leb 24 _ c.if-kind-lt-LARGE_BINARY.false, le-leb _ 26 c.if-kind-le-LARGE_UTF8.true)

pub returns-then-kind-lt-BINARY_VIEW : goal.returns-then-kind-lt-BINARY_VIEW
returns-then-kind-lt-BINARY_VIEW c = rw (lt-leb _ 14 c.if-kind-le-FLOAT64.false, le-leb 16 _ c.if-kind-lt-DATE32.false, lt-leb _ 22 c.if-kind-le-BINARY.false, le-leb 24 _ c.if-kind-lt-LARGE_BINARY.false, lt-leb _ 26 c.if-kind-le-LARGE_UTF8.false, lt-leb 38 _ c.if-kind-lt-BINARY_VIEW.true)

pub returns : goal.returns
returns c = rw (lt-leb _ 14 c.if-kind-le-FLOAT64.false, le-leb 16 _ c.if-kind-lt-DATE32.false, lt-leb _ 22 c.if-kind-le-BINARY.false, le-leb 24 _ c.if-kind-lt-LARGE_BINARY.false, lt-leb _ 26 c.if-kind-le-LARGE_UTF8.false, le-leb 38 _ c.if-kind-lt-BINARY_VIEW.false)
