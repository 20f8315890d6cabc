-- `late_name` meets its contract: in each arm the name is computed at the pattern, and the last arm is left with the last kind (`last_left`). Assumes nothing.
use mathlib.Core.Path.{refl, sym, ap, ◌∙◌}
use mathlib.Core.List.{List, [], ◌∷◌}
use Prim.Native.Nat.{ℕ, suc}
use Rattle.sheets.specs.Kind
use Rattle.sheets.specs.KindNames.{kind_rows}
use Rattle.sheets.proofs.Tests.{every, meets}
use Rattle.kind_names.proofs.NameLaws.{padded, all_but, last_left}
use Rattle.kind_names.proofs.late_name.Goals as goal

-- the patterns, the last first
abbrev arms : List (List ℕ)
arms =
    (Kind.Unknown ∷ [])
    ∷ (Kind.Utf8View ∷ [])
    ∷ (Kind.BinaryView ∷ [])
    ∷ (Kind.Extension ∷ [])
    ∷ (Kind.Decimal256 ∷ [])
    ∷ (Kind.Decimal64 ∷ [])
    ∷ (Kind.Decimal32 ∷ [])
    ∷ (Kind.Decimal ∷ [])
    ∷ (Kind.Dictionary ∷ [])
    ∷ (Kind.Map ∷ [])
    ∷ (Kind.Struct ∷ [])
    ∷ (Kind.LargeList ∷ [])
    ∷ (Kind.FixedSizeList ∷ [])
    ∷ (Kind.List ∷ [])
    ∷ (Kind.LargeUtf8 ∷ [])
    ∷ (Kind.Utf8 ∷ [])
    ∷ (Kind.LargeBinary ∷ [])
    ∷ (Kind.FixedSizeBinary ∷ [])
    ∷ (Kind.Binary ∷ [])
    ∷ []

pub returns-in-22 : goal.returns-in-22
unfolding kind_rows
returns-in-22 c = c.in_halves.ensures ∙ ap padded (sym c.in-22.is)

pub returns-in-23 : goal.returns-in-23
unfolding kind_rows
returns-in-23 c = c.in_halves-in-23.ensures ∙ ap padded (sym c.in-23.is)

pub returns-in-24 : goal.returns-in-24
unfolding kind_rows
returns-in-24 c = c.in_halves-in-24.ensures ∙ ap padded (sym c.in-24.is)

pub returns-in-25 : goal.returns-in-25
unfolding kind_rows
returns-in-25 c = c.in_halves-in-25.ensures ∙ ap padded (sym c.in-25.is)

pub returns-in-26 : goal.returns-in-26
unfolding kind_rows
returns-in-26 c = c.in_halves-in-26.ensures ∙ ap padded (sym c.in-26.is)

pub returns-in-27 : goal.returns-in-27
unfolding kind_rows
returns-in-27 c = c.in_halves-in-27.ensures ∙ ap padded (sym c.in-27.is)

pub returns-in-28 : goal.returns-in-28
unfolding kind_rows
returns-in-28 c = c.in_halves-in-28.ensures ∙ ap padded (sym c.in-28.is)

pub returns-in-29 : goal.returns-in-29
unfolding kind_rows
returns-in-29 c = c.in_halves-in-29.ensures ∙ ap padded (sym c.in-29.is)

pub returns-in-30 : goal.returns-in-30
unfolding kind_rows
returns-in-30 c = c.in_halves-in-30.ensures ∙ ap padded (sym c.in-30.is)

pub returns-in-31 : goal.returns-in-31
unfolding kind_rows
returns-in-31 c = c.in_halves-in-31.ensures ∙ ap padded (sym c.in-31.is)

pub returns-in-32 : goal.returns-in-32
unfolding kind_rows
returns-in-32 c = c.in_halves-in-32.ensures ∙ ap padded (sym c.in-32.is)

pub returns-in-33 : goal.returns-in-33
unfolding kind_rows
returns-in-33 c = c.in_halves-in-33.ensures ∙ ap padded (sym c.in-33.is)

pub returns-in-34 : goal.returns-in-34
unfolding kind_rows
returns-in-34 c = c.in_halves-in-34.ensures ∙ ap padded (sym c.in-34.is)

pub returns-in-35 : goal.returns-in-35
unfolding kind_rows
returns-in-35 c = c.in_halves-in-35.ensures ∙ ap padded (sym c.in-35.is)

pub returns-in-36 : goal.returns-in-36
unfolding kind_rows
returns-in-36 c = c.in_halves-in-36.ensures ∙ ap padded (sym c.in-36.is)

pub returns-in-37 : goal.returns-in-37
unfolding kind_rows
returns-in-37 c = c.in_halves-in-37.ensures ∙ ap padded (sym c.in-37.is)

pub returns-in-38 : goal.returns-in-38
unfolding kind_rows
returns-in-38 c = c.in_halves-in-38.ensures ∙ ap padded (sym c.in-38.is)

pub returns-in-39 : goal.returns-in-39
unfolding kind_rows
returns-in-39 c = c.in_halves-in-39.ensures ∙ ap padded (sym c.in-39.is)

pub returns-in-40 : goal.returns-in-40
unfolding kind_rows
returns-in-40 c = c.in_halves-in-40.ensures ∙ ap padded (sym c.in-40.is)

pub returns-in_default : goal.returns-in_default
unfolding kind_rows
returns-in_default c =
    let e = last_left Kind.Binary Kind.Union arms (meets (every (suc Kind.Union) (all_but Kind.Binary Kind.Union arms)) refl) c.args.kind c.requires.0 c.requires.1 c.in_default.in_default-own.rest in
    c.in_halves-in_default.ensures ∙ ap padded (sym e)
