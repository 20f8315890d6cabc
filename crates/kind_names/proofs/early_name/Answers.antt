-- `early_name` meets its contract: in each arm the name is computed at the pattern, and the last arm is left with the last kind (`last_left`). Assumes nothing.
use mathlib.Core.Path.{refl, sym, ap, ◌∙◌}
use mathlib.Core.List.{List, [], ◌∷◌}
use Prim.Native.Nat.{ℕ, suc}
use native.Mathlib.Omega.{arith}
use Rattle.sheets.specs.Kind
use Rattle.sheets.specs.KindNames.{kind_rows}
use Rattle.sheets.proofs.Tests.{every, meets}
use Rattle.kind_names.proofs.NameLaws.{padded, all_but, last_left}
use Rattle.kind_names.proofs.early_name.Goals as goal

-- the patterns, the last first
abbrev arms : List (List ℕ)
arms =
    (Kind.Duration ∷ [])
    ∷ (Kind.Time64 ∷ [])
    ∷ (Kind.Time32 ∷ [])
    ∷ (Kind.Date64 ∷ [])
    ∷ (Kind.Date32 ∷ [])
    ∷ (Kind.Timestamp ∷ [])
    ∷ (Kind.Float64 ∷ [])
    ∷ (Kind.Float32 ∷ [])
    ∷ (Kind.Float16 ∷ [])
    ∷ (Kind.UInt128 ∷ [])
    ∷ (Kind.UInt64 ∷ [])
    ∷ (Kind.UInt32 ∷ [])
    ∷ (Kind.UInt16 ∷ [])
    ∷ (Kind.UInt8 ∷ [])
    ∷ (Kind.Int128 ∷ [])
    ∷ (Kind.Int64 ∷ [])
    ∷ (Kind.Int32 ∷ [])
    ∷ (Kind.Int16 ∷ [])
    ∷ (Kind.Int8 ∷ [])
    ∷ (Kind.Boolean ∷ [])
    ∷ (Kind.Null ∷ [])
    ∷ []

pub returns-in-0 : goal.returns-in-0
unfolding kind_rows
returns-in-0 c = c.in_halves.ensures ∙ ap padded (sym c.in-0.is)

pub returns-in-1 : goal.returns-in-1
unfolding kind_rows
returns-in-1 c = c.in_halves-in-1.ensures ∙ ap padded (sym c.in-1.is)

pub returns-in-2 : goal.returns-in-2
unfolding kind_rows
returns-in-2 c = c.in_halves-in-2.ensures ∙ ap padded (sym c.in-2.is)

pub returns-in-3 : goal.returns-in-3
unfolding kind_rows
returns-in-3 c = c.in_halves-in-3.ensures ∙ ap padded (sym c.in-3.is)

pub returns-in-4 : goal.returns-in-4
unfolding kind_rows
returns-in-4 c = c.in_halves-in-4.ensures ∙ ap padded (sym c.in-4.is)

pub returns-in-5 : goal.returns-in-5
unfolding kind_rows
returns-in-5 c = c.in_halves-in-5.ensures ∙ ap padded (sym c.in-5.is)

pub returns-in-6 : goal.returns-in-6
unfolding kind_rows
returns-in-6 c = c.in_halves-in-6.ensures ∙ ap padded (sym c.in-6.is)

pub returns-in-7 : goal.returns-in-7
unfolding kind_rows
returns-in-7 c = c.in_halves-in-7.ensures ∙ ap padded (sym c.in-7.is)

pub returns-in-8 : goal.returns-in-8
unfolding kind_rows
returns-in-8 c = c.in_halves-in-8.ensures ∙ ap padded (sym c.in-8.is)

pub returns-in-9 : goal.returns-in-9
unfolding kind_rows
returns-in-9 c = c.in_halves-in-9.ensures ∙ ap padded (sym c.in-9.is)

pub returns-in-10 : goal.returns-in-10
unfolding kind_rows
returns-in-10 c = c.in_halves-in-10.ensures ∙ ap padded (sym c.in-10.is)

pub returns-in-11 : goal.returns-in-11
unfolding kind_rows
returns-in-11 c = c.in_halves-in-11.ensures ∙ ap padded (sym c.in-11.is)

pub returns-in-12 : goal.returns-in-12
unfolding kind_rows
returns-in-12 c = c.in_halves-in-12.ensures ∙ ap padded (sym c.in-12.is)

pub returns-in-13 : goal.returns-in-13
unfolding kind_rows
returns-in-13 c = c.in_halves-in-13.ensures ∙ ap padded (sym c.in-13.is)

pub returns-in-14 : goal.returns-in-14
unfolding kind_rows
returns-in-14 c = c.in_halves-in-14.ensures ∙ ap padded (sym c.in-14.is)

pub returns-in-15 : goal.returns-in-15
unfolding kind_rows
returns-in-15 c = c.in_halves-in-15.ensures ∙ ap padded (sym c.in-15.is)

pub returns-in-16 : goal.returns-in-16
unfolding kind_rows
returns-in-16 c = c.in_halves-in-16.ensures ∙ ap padded (sym c.in-16.is)

pub returns-in-17 : goal.returns-in-17
unfolding kind_rows
returns-in-17 c = c.in_halves-in-17.ensures ∙ ap padded (sym c.in-17.is)

pub returns-in-18 : goal.returns-in-18
unfolding kind_rows
returns-in-18 c = c.in_halves-in-18.ensures ∙ ap padded (sym c.in-18.is)

pub returns-in-19 : goal.returns-in-19
unfolding kind_rows
returns-in-19 c = c.in_halves-in-19.ensures ∙ ap padded (sym c.in-19.is)

pub returns-in-20 : goal.returns-in-20
unfolding kind_rows
returns-in-20 c = c.in_halves-in-20.ensures ∙ ap padded (sym c.in-20.is)

pub returns-in_default : goal.returns-in_default
unfolding kind_rows
returns-in_default c =
    let e = last_left Kind.Null Kind.Interval arms (meets (every (suc Kind.Interval) (all_but Kind.Null Kind.Interval arms)) refl) c.args.kind (omega arith) c.requires c.in_default.in_default-own.rest in
    c.in_halves-in_default.ensures ∙ ap padded (sym e)
