-- What the parts of a format say, and each step of the ladder of names and of heads as one equation. By cases of the answers. Assumes nothing.
use mathlib.Core.Path.{◌≡◌, refl, sym, ◌∙◌, ap, ap₂}
use mathlib.Core.Bool.{Bool, true, false, cond}
use mathlib.Core.List.{List, [], ◌∷◌}
use Rattle.std.specs.Prelude.{Option, None, Some}
use Prim.Native.Nat.{ℕ, ◌+◌, ◌≤◌, ◌<◌}
use native.Mathlib.Omega.{arith}
use lib.ListN.{length, drop}
use Rattle.sheets.specs.Refusal.{bad_number, bad_decimal, unsupported_format}
use Rattle.sheets.specs.Bytes.{Bytes, ascii, comma, same, split}
use Rattle.sheets.specs.Answer.{Answer, refused, given, ◌>>=◌}
use Rattle.sheets.specs.Field.{Width, bits128, decimal_type, fixed_size_binary, fixed_size_list}
use Rattle.sheets.specs.Format.{Format, of_scalar, of_nesting, read_size, width_of, read_cut}
use Rattle.sheets.proofs.Tests.{not_some}
use Rattle.sheets.proofs.BytesLaws.{same_eq}
use Rattle.datatypes.specs.declared.units.TimeUnit.{TimeUnit}
use Rattle.datatypes.specs.declared.units.TimeUnit.TheVariants as TimeUnits
use Rattle.datatypes.specs.declared.units.UnionMode.{UnionMode}
use Rattle.datatypes.specs.declared.units.UnionMode.TheVariants as UnionModes
use Rattle.format_names.specs.Names.{head_unit, head_mode}
use Rattle.sheets.specs.Parts.{parts_from}
use Rattle.format.specs.Parts.{format_part}
use Rattle.format.specs.Formats.{timestamp_format, union_format, Reads, decimal_of, decimal_format}
use Rattle.sheets.proofs.PartLaws.{PartEnds, parts_here, last_part}
use Rattle.refusal.specs.Refusals.{Refusing}
use Rattle.format.specs.declared.read.Format.{Format as Said}
use Rattle.sheets.proofs.InverseLaws.{split_some}

-- the same answer was read
pub reads_as : (f : Bytes) (r : Refusing Said) (a b : Answer Format) → a ≡ b → Reads f a r → Reads f b r
reads_as f r a b e h = (h.0 ∙ e, h.1)

-- ── decimals

pub decimal_read : (width : ℕ) (p s : Bytes) (a b : Answer ℕ) → a ≡ read_size p → b ≡ read_size s → (a >>= λ x. b >>= λ y. given (of_scalar (decimal_type (width_of width) x y))) ≡ decimal_of width p s
decimal_read width p s a b e d = ap₂ (λ (x y : Answer ℕ). x >>= λ m. y >>= λ n. given (of_scalar (decimal_type (width_of width) m n))) e d

made : (w : Width) (a b : Answer ℕ) → (a >>= λ x. b >>= λ y. given (of_scalar (decimal_type w x y))) ≡ ((a >>= λ x. b >>= λ y. given (decimal_type w x y)) >>= λ s. given (of_scalar s))
made w (refused r) b = refl
made w (given x) (refused r) = refl
made w (given x) (given y) = refl

-- no width
pub two_parts : (p s : Bytes) → decimal_of 128 p s ≡ decimal_format (p ∷ s ∷ [])
two_parts p s = made bits128 (read_size p) (read_size s)

pub three_parts : (p s w : Bytes) (n : ℕ) → given n ≡ read_size w → decimal_of n p s ≡ decimal_format (p ∷ s ∷ w ∷ [])
three_parts p s w n e =
    made (width_of n) (read_size p) (read_size s)
    ∙ ap (λ (x : Answer ℕ). (x >>= λ m. read_size p >>= λ a. read_size s >>= λ b. given (decimal_type (width_of m) a b)) >>= λ t. given (of_scalar t)) e

pub bad_width : (p s w : Bytes) → refused bad_number ≡ read_size w → refused bad_number ≡ decimal_format (p ∷ s ∷ w ∷ [])
bad_width p s w e = ap (λ (x : Answer ℕ). (x >>= λ m. read_size p >>= λ a. read_size s >>= λ b. given (decimal_type (width_of m) a b)) >>= λ t. given (of_scalar t)) e

module _ (b : Bytes) (from to : ℕ) (e : PartEnds b from to) where
  -- one part
  pub one_part : length b ≤ to → refused bad_decimal ≡ decimal_format (parts_from b from)
  one_part h = ap decimal_format (sym (last_part b from to e h))

  -- the second of two
  pub second_part : (p : Bytes) → length b ≤ to → decimal_format (p ∷ format_part from to b ∷ []) ≡ decimal_format (p ∷ parts_from b from)
  second_part p h = ap (λ (ps : List Bytes). decimal_format (p ∷ ps)) (sym (last_part b from to e h))

  -- the third of three
  pub third_part : (p s : Bytes) → length b ≤ to → decimal_format (p ∷ s ∷ format_part from to b ∷ []) ≡ decimal_format (p ∷ s ∷ parts_from b from)
  third_part p s h = ap (λ (ps : List Bytes). decimal_format (p ∷ s ∷ ps)) (sym (last_part b from to e h))

  -- a fourth
  pub four_parts : (p s : Bytes) → to < length b → refused bad_decimal ≡ decimal_format (p ∷ s ∷ parts_from b from)
  four_parts p s h =
      let (x, xs, q) = split_some 44 (drop (to + 1) b) in
      sym (ap (λ (ps : List Bytes). decimal_format (p ∷ s ∷ ps)) (e.parts ∙ ap (λ (ps : List Bytes). format_part from to b ∷ ps) (parts_here b (to + 1) (omega arith) ∙ q)))

-- ── heads

pub cut_binary : (h r : Bytes) (a : Answer ℕ) → true ≡ same h (ascii "w") → a ≡ read_size r → (a >>= λ n. given (of_scalar (fixed_size_binary n))) ≡ read_cut h r
cut_binary h r a e d = ap (λ (x : Answer ℕ). x >>= λ n. given (of_scalar (fixed_size_binary n))) d ∙ ap (λ (n : Bytes). read_cut n r) (sym (same_eq h (ascii "w") (sym e)))

pub cut_list : (h r : Bytes) (a : Answer ℕ) → true ≡ same h (ascii "+w") → a ≡ read_size r → (a >>= λ n. given (of_nesting (fixed_size_list n))) ≡ read_cut h r
cut_list h r a e d = ap (λ (x : Answer ℕ). x >>= λ n. given (of_nesting (fixed_size_list n))) d ∙ ap (λ (n : Bytes). read_cut n r) (sym (same_eq h (ascii "+w") (sym e)))

pub cut_decimal : (h r : Bytes) → true ≡ same h (ascii "d") → decimal_format (split comma r) ≡ read_cut h r
cut_decimal h r e = ap (λ (n : Bytes). read_cut n r) (sym (same_eq h (ascii "d") (sym e)))

-- ── the unit and the mode of a head

abbrev units : Bool → Bool → Bool → Bool → Option TimeUnit
units s m u n = cond s (Some TimeUnits.Second) (cond m (Some TimeUnits.Millisecond) (cond u (Some TimeUnits.Microsecond) (cond n (Some TimeUnits.Nanosecond) None)))

abbrev unit_head : TimeUnit → Bytes
unit_head TimeUnits.Second = ascii "tss"
unit_head TimeUnits.Millisecond = ascii "tsm"
unit_head TimeUnits.Microsecond = ascii "tsu"
unit_head TimeUnits.Nanosecond = ascii "tsn"

unit_cut : (u : TimeUnit) (r : Bytes) → given (timestamp_format u r) ≡ read_cut (unit_head u) r
unit_cut TimeUnits.Second r = refl
unit_cut TimeUnits.Millisecond r = refl
unit_cut TimeUnits.Microsecond r = refl
unit_cut TimeUnits.Nanosecond r = refl

no_units : (s m u n : Bool) → units s m u n ≡ None → (s ≡ false) × (m ≡ false) × (u ≡ false) × (n ≡ false)
no_units true m u n e = not_some (sym e)
no_units false true u n e = not_some (sym e)
no_units false false true n e = not_some (sym e)
no_units false false false true e = not_some (sym e)
no_units false false false false e = (refl, refl, refl, refl)

abbrev modes : Bool → Bool → Option UnionMode
modes d s = cond d (Some UnionModes.Dense) (cond s (Some UnionModes.Sparse) None)

abbrev mode_head : UnionMode → Bytes
mode_head UnionModes.Dense = ascii "+ud"
mode_head UnionModes.Sparse = ascii "+us"

mode_cut : (m : UnionMode) (r : Bytes) → union_format m r ≡ read_cut (mode_head m) r
mode_cut UnionModes.Dense r = refl
mode_cut UnionModes.Sparse r = refl

no_modes : (d s : Bool) → modes d s ≡ None → (d ≡ false) × (s ≡ false)
no_modes true s e = not_some (sym e)
no_modes false true e = not_some (sym e)
no_modes false false e = (refl, refl)

module _ (h r : Bytes) where
  unit_head_lem : (u : TimeUnit) → Some u ≡ head_unit h → h ≡ unit_head u
  unit_head_lem v e = pick (same h (ascii "tss")) (same h (ascii "tsm")) (same h (ascii "tsu")) (same h (ascii "tsn")) refl refl refl refl e
    where
      pick : (s m u n : Bool) → same h (ascii "tss") ≡ s → same h (ascii "tsm") ≡ m → same h (ascii "tsu") ≡ u → same h (ascii "tsn") ≡ n → Some v ≡ units s m u n → h ≡ unit_head v
      pick true m u n a b c d e = same_eq h (ascii "tss") a ∙ ap unit_head (let q : TimeUnits.Second ≡ v = cc in q)
      pick false true u n a b c d e = same_eq h (ascii "tsm") b ∙ ap unit_head (let q : TimeUnits.Millisecond ≡ v = cc in q)
      pick false false true n a b c d e = same_eq h (ascii "tsu") c ∙ ap unit_head (let q : TimeUnits.Microsecond ≡ v = cc in q)
      pick false false false true a b c d e = same_eq h (ascii "tsn") d ∙ ap unit_head (let q : TimeUnits.Nanosecond ≡ v = cc in q)
      pick false false false false a b c d e = not_some (sym e)

  pub cut_unit : (u : TimeUnit) → Some u ≡ head_unit h → given (timestamp_format u r) ≡ read_cut h r
  cut_unit u e = unit_cut u r ∙ ap (λ (n : Bytes). read_cut n r) (sym (unit_head_lem u e))

  mode_head_lem : (m : UnionMode) → Some m ≡ head_mode h → h ≡ mode_head m
  mode_head_lem v e = pick (same h (ascii "+ud")) (same h (ascii "+us")) refl refl e
    where
      pick : (d s : Bool) → same h (ascii "+ud") ≡ d → same h (ascii "+us") ≡ s → Some v ≡ modes d s → h ≡ mode_head v
      pick true s a b e = same_eq h (ascii "+ud") a ∙ ap mode_head (let q : UnionModes.Dense ≡ v = cc in q)
      pick false true a b e = same_eq h (ascii "+us") b ∙ ap mode_head (let q : UnionModes.Sparse ≡ v = cc in q)
      pick false false a b e = not_some (sym e)

  pub cut_mode : (m : UnionMode) → Some m ≡ head_mode h → union_format m r ≡ read_cut h r
  cut_mode m e = mode_cut m r ∙ ap (λ (n : Bytes). read_cut n r) (sym (mode_head_lem m e))

  pub cut_other : head_unit h ≡ None → head_mode h ≡ None → false ≡ same h (ascii "w") → false ≡ same h (ascii "+w") → false ≡ same h (ascii "d") → refused unsupported_format ≡ read_cut h r
  cut_other u m a b c =
      let x = no_units (same h (ascii "tss")) (same h (ascii "tsm")) (same h (ascii "tsu")) (same h (ascii "tsn")) u in
      let y = no_modes (same h (ascii "+ud")) (same h (ascii "+us")) m in
      rw (x.0, x.1, x.2, x.3, y.0, y.1, ← a, ← b, ← c)
