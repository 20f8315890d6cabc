-- `format_of` meets its contract: in each arm the definition computes at the pattern, and a kind that is no pattern has no name (`rest_format`). Assumes nothing.
use mathlib.Core.Path.{refl, sym, ap, ◌∙◌}
use mathlib.Core.List.{List, [], ◌∷◌}
use Prim.Native.Nat.{ℕ}
use Rattle.sheets.specs.Format.{rows}
use Rattle.sheets.specs.Kind
use Rattle.sheets.proofs.Tests.{every, meets}
use Rattle.format_names.specs.Names.{row_at}
use Rattle.put_schema_leaf.specs.Formats.{format_digits}
use Rattle.put_schema_leaf.proofs.FormatLaws.{unnamed, rest_format}
use Rattle.put_schema_leaf.proofs.format.format_of.Goals as goal

-- the patterns, the last first
abbrev arms : List (List ℕ)
arms =
    (Kind.Utf8View ∷ [])
    ∷ (Kind.BinaryView ∷ [])
    ∷ (Kind.LargeUtf8 ∷ [])
    ∷ (Kind.Utf8 ∷ [])
    ∷ (Kind.LargeBinary ∷ [])
    ∷ (Kind.Binary ∷ [])
    ∷ (Kind.Date64 ∷ [])
    ∷ (Kind.Date32 ∷ [])
    ∷ (Kind.Float64 ∷ [])
    ∷ (Kind.Float32 ∷ [])
    ∷ (Kind.Float16 ∷ [])
    ∷ (Kind.UInt128 ∷ [])
    ∷ (Kind.UInt64 ∷ [])
    ∷ (Kind.UInt32 ∷ [])
    ∷ (Kind.UInt16 ∷ [])
    ∷ (Kind.UInt8 ∷ [])
    ∷ (Kind.Int128 ∷ [])
    ∷ (Kind.Int64 ∷ [])
    ∷ (Kind.Int32 ∷ [])
    ∷ (Kind.Int16 ∷ [])
    ∷ (Kind.Int8 ∷ [])
    ∷ (Kind.Boolean ∷ [])
    ∷ (Kind.Null ∷ [])
    ∷ []

pub returns-in-0 : goal.returns-in-0
unfolding rows row_at
returns-in-0 c = c.named.ensures ∙ ap format_digits (sym c.in-0.is)

pub returns-in-1 : goal.returns-in-1
unfolding rows row_at
returns-in-1 c = c.named-in-1.ensures ∙ ap format_digits (sym c.in-1.is)

pub returns-in-2 : goal.returns-in-2
unfolding rows row_at
returns-in-2 c = c.named-in-2.ensures ∙ ap format_digits (sym c.in-2.is)

pub returns-in-3 : goal.returns-in-3
unfolding rows row_at
returns-in-3 c = c.named-in-3.ensures ∙ ap format_digits (sym c.in-3.is)

pub returns-in-4 : goal.returns-in-4
unfolding rows row_at
returns-in-4 c = c.named-in-4.ensures ∙ ap format_digits (sym c.in-4.is)

pub returns-in-5 : goal.returns-in-5
unfolding rows row_at
returns-in-5 c = c.named-in-5.ensures ∙ ap format_digits (sym c.in-5.is)

pub returns-in-6 : goal.returns-in-6
unfolding rows row_at
returns-in-6 c = c.named-in-6.ensures ∙ ap format_digits (sym c.in-6.is)

pub returns-in-7 : goal.returns-in-7
unfolding rows row_at
returns-in-7 c = c.named-in-7.ensures ∙ ap format_digits (sym c.in-7.is)

pub returns-in-8 : goal.returns-in-8
unfolding rows row_at
returns-in-8 c = c.named-in-8.ensures ∙ ap format_digits (sym c.in-8.is)

pub returns-in-9 : goal.returns-in-9
unfolding rows row_at
returns-in-9 c = c.named-in-9.ensures ∙ ap format_digits (sym c.in-9.is)

pub returns-in-10 : goal.returns-in-10
unfolding rows row_at
returns-in-10 c = c.named-in-10.ensures ∙ ap format_digits (sym c.in-10.is)

pub returns-in-11 : goal.returns-in-11
unfolding rows row_at
returns-in-11 c = c.named-in-11.ensures ∙ ap format_digits (sym c.in-11.is)

pub returns-in-12 : goal.returns-in-12
unfolding rows row_at
returns-in-12 c = c.named-in-12.ensures ∙ ap format_digits (sym c.in-12.is)

pub returns-in-13 : goal.returns-in-13
unfolding rows row_at
returns-in-13 c = c.named-in-13.ensures ∙ ap format_digits (sym c.in-13.is)

pub returns-in-14 : goal.returns-in-14
unfolding rows row_at
returns-in-14 c = c.named-in-14.ensures ∙ ap format_digits (sym c.in-14.is)

pub returns-in-16 : goal.returns-in-16
unfolding rows row_at
returns-in-16 c = c.named-in-16.ensures ∙ ap format_digits (sym c.in-16.is)

pub returns-in-17 : goal.returns-in-17
unfolding rows row_at
returns-in-17 c = c.named-in-17.ensures ∙ ap format_digits (sym c.in-17.is)

pub returns-in-22 : goal.returns-in-22
unfolding rows row_at
returns-in-22 c = c.named-in-22.ensures ∙ ap format_digits (sym c.in-22.is)

pub returns-in-24 : goal.returns-in-24
unfolding rows row_at
returns-in-24 c = c.named-in-24.ensures ∙ ap format_digits (sym c.in-24.is)

pub returns-in-25 : goal.returns-in-25
unfolding rows row_at
returns-in-25 c = c.named-in-25.ensures ∙ ap format_digits (sym c.in-25.is)

pub returns-in-26 : goal.returns-in-26
unfolding rows row_at
returns-in-26 c = c.named-in-26.ensures ∙ ap format_digits (sym c.in-26.is)

pub returns-in-38 : goal.returns-in-38
unfolding rows row_at
returns-in-38 c = c.named-in-38.ensures ∙ ap format_digits (sym c.in-38.is)

pub returns-in-39 : goal.returns-in-39
unfolding rows row_at
returns-in-39 c = c.named-in-39.ensures ∙ ap format_digits (sym c.in-39.is)

pub returns-in_default : goal.returns-in_default
unfolding rows
returns-in_default c = rest_format arms (meets (every 41 (unnamed arms)) refl) c.args.kind c.in_default.in_default-own.rest
