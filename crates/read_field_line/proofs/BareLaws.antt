-- A bare line's columns, told by their bytes: three columns that are `~` and a space each are what a bare line says of its field. Assumes nothing.
use mathlib.Core.Path.{◌≡◌, refl, sym, ap, subst, ◌∙◌}
use mathlib.Core.Bool.{Bool, true, false, ◌&&◌}
use mathlib.Core.List.{[], ◌∷◌}
use Prim.Native.Nat.{ℕ, ◌+◌}
use native.Mathlib.Omega.{arith}
use lib.Dec.{eqb}
use lib.ListN.{get_or, drop}
use borrow.Author.Tests.{eqb-true, lt-ltb}
use Rattle.sheets.specs.Bytes.{Bytes}
use Rattle.sheets.proofs.Tests.{and_left, and_right}
use Rattle.columns.specs.Columns.{part, part_of, one_of, past_space, ColumnAt}
use Rattle.columns.specs.declared.Part.{Part}
use Rattle.columns.proofs.OneByteLaws.{One, one_told, one_past, one_part, one_column}
use Rattle.field_columns.specs.FieldColumns.{is_nothing, is_optional_text}
use Rattle.field_kinds.specs.FieldKinds.{OwnFits}
use Rattle.read_field_line.specs.Stages.{is_none, bare_at, bare_own, OwnAt}

pub none_past : (b : ℕ) → is_none b ≡ true → past_space b ≡ true
none_past b h = lt-ltb 32 b (omega (arith, eqb-true b 126 h))

-- a column that is `~`
record None (s : Bytes) (a e : ℕ) : Type 0 where
  column : ColumnAt s a e 32
  is : part s a e ≡ 126 ∷ []
  byte : get_or s a 0 ≡ 126

none_at : (s : Bytes) (k a e : ℕ) → one_of is_none 32 (drop k s) ≡ true → a ≡ k → e ≡ k + 1 → None s a e
none_at s k a e h ea ee =
    let o = one_told is_none 32 s k h in
    let p = one_past is_none none_past 32 s k o in
    let byte : get_or s k 0 ≡ 126 = eqb-true (get_or s k 0) 126 o.holds in
    subst (λ (i : ℕ). None s i e) (sym ea) (subst (λ (i : ℕ). None s k i) (sym ee) (record { column = one_column p; is = one_part p ∙ ap (λ (b : ℕ). b ∷ []) byte; byte = byte }))

bare_fits : OwnFits (126 ∷ [], (126 ∷ [], 126 ∷ []))
unfolding is_nothing is_optional_text
bare_fits = record { name_fit = refl; flag_fit = refl; pairs_fit = refl }

nothing_bare : is_nothing (126 ∷ []) ≡ true
unfolding is_nothing
nothing_bare = refl

pub bare_own_lem : (s : Bytes) (at : ℕ) → bare_at s at ≡ true → OwnAt s at (bare_own at)
bare_own_lem s at h =
    let second = and_right (one_of is_none 32 (drop at s)) (one_of is_none 32 (drop (at + 2) s) && one_of is_none 32 (drop (at + 4) s)) h in
    let name = none_at s at at (at + 1) (and_left (one_of is_none 32 (drop at s)) (one_of is_none 32 (drop (at + 2) s) && one_of is_none 32 (drop (at + 4) s)) h) refl refl in
    let flag = none_at s (at + 2) (at + 1 + 1) (at + 3) (and_left (one_of is_none 32 (drop (at + 2) s)) (one_of is_none 32 (drop (at + 4) s)) second) (omega arith) (omega arith) in
    let pairs = none_at s (at + 4) (at + 3 + 1) (at + 5) (and_right (one_of is_none 32 (drop (at + 2) s)) (one_of is_none 32 (drop (at + 4) s)) second) (omega arith) (omega arith) in
    let place : at + 4 ≡ at + 3 + 1 = omega arith in
    record {
      name_end = at + 1;
      flag_end = at + 3;
      name_at = name.column;
      flag_at = flag.column;
      pairs_at = pairs.column;
      name_is = refl;
      pairs_is = ap (λ (k : ℕ). part_of k (at + 5)) place;
      bare_is = sym (ap is_nothing name.is ∙ nothing_bare);
      flag_is = sym (ap (λ (b : ℕ). eqb b 49) flag.byte);
      fits = subst OwnFits (λ i. (sym name.is i, (sym flag.is i, sym pairs.is i))) bare_fits;
    }
