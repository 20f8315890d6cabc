-- The parts of the sheet that a field line is made of, and the line that they make with the columns of another field. By the lengths of its columns, which
-- stand one after the other. Assumes nothing.
use mathlib.Core.Path.{◌≡◌, refl, sym, ap, subst, ◌∙◌}
use mathlib.Core.Bool.{Bool, true, false, ◌&&◌}
use mathlib.Core.List.{[], ◌∷◌, ◌++◌, append_assoc}
use Rattle.std.specs.Prelude.{Option, None, Some}
use Prim.Native.Nat.{ℕ, ◌+◌, ◌-◌, ◌^◌, ◌≤◌, ◌<◌}
use native.Mathlib.Omega.{arith}
use lib.Dec.{eqb}
use lib.ListN.{length, take, drop, length-append, length-take, length-drop}
use lib.Seq.{drop-drop, take_at, drop_at}
use Rattle.sheets.specs.Bytes.{Bytes}
use Rattle.sheets.specs.Number.{decimal}
use Rattle.sheets.specs.Field.{Info, leaf}
use Rattle.sheets.specs.FieldSheet.{Shape, of_scalar, columns, info_columns, no_text, to_nat}
use Rattle.sheets.specs.FieldTrees.{is_bare}
use borrow.Author.Tests.{eqb-true, eq-eqb, ne_eqb}
use Rattle.sheets.proofs.Tests.{never}
use Rattle.sheets.proofs.WalkLaws.{head_text_lem}
use Rattle.columns.specs.Columns.{part, part_of}
use Rattle.columns.specs.declared.Part.{Part}
use Rattle.buffer.specs.Over.{over, PutAt, PutFirst}
use Rattle.buffer.proofs.OverLaws.{Written, and_then, whole}
use Rattle.field_line.specs.Columns.{shape_piece, columns_piece, own_piece, end_piece}
use Rattle.field_line.proofs.ColumnLaws.{line_pieces, line_pieces_left}
use Rattle.field_line.proofs.LengthLaws.{column_length_lem, shape_short, bare_length, end_length, end_short}
use Rattle.read_field_line.specs.FieldLines.{PartAt, FieldLineAt}
use Rattle.read_field_line.specs.declared.FieldLine.{FieldLine}
use Rattle.mapping_line.specs.PutLines.{info_text, HasPart, HasColumns, columns_text, Says, columns_of, is_own, CanPutLine, line_with, LinePut, CanPutKind, KindPut}

-- ── pieces of the sheet

-- from a place on, a piece of known length, and what stands after it
piece : (s : Bytes) (a : ℕ) (p q : Bytes) → drop a s ≡ p ++ q → (e : ℕ) → e ≡ a + length p → (part s a e ≡ p) × (drop e s ≡ q)
piece s a p q h e l = (
  ap (λ (b : Bytes). take (e - a) b) h ∙ take_at p q (e - a) (omega arith),
  ap (λ (n : ℕ). drop n s) l ∙ sym (drop-drop (length p) a s) ∙ ap (drop (length p)) h ∙ drop_at p q (length p) refl,
)

info_length : (i : Option Info) → length (info_text i) ≡ 4 + (length (info_columns i).0 + length (info_columns i).1.1)
unfolding own_piece decimal
info_length None = simp (length-append, column_length_lem) (omega arith)
info_length (Some i) = go i.nullable
  where
    go : (b : Bool) → length (own_piece (info_columns (Some i)).0 (decimal (to_nat b)) (info_columns (Some i)).1.1) ≡ 4 + (length (info_columns (Some i)).0 + length (info_columns (Some i)).1.1)
    go true = simp (length-append, column_length_lem) (omega arith)
    go false = simp (length-append, column_length_lem) (omega arith)

part_length : {s : Bytes} {p : Part} {c : Bytes} → PartAt s p c → p.end ≡ p.start + length c
part_length {s} {p} {c} h = omega (arith, ap length h.is, length-take (p.end - p.start) (drop p.start s), length-drop p.start s, h.some, h.within)

-- ── the line that stands there

module _ {s : Bytes} {at : ℕ} {l : FieldLine} (k : FieldLineAt s at l) where
  abbrev type : Bytes
  type = columns_piece (columns k.line.shape)

  abbrev own : Bytes
  own = info_text k.line.info

  abbrev last : Bytes
  last = end_piece k.line.children

  pieces : k.there.bytes ++ (10 ∷ []) ≡ type ++ (own ++ last)
  pieces = ap (λ (b : Bytes). b ++ (10 ∷ [])) (sym (head_text_lem k.there.bytes k.line k.there.reads)) ∙ line_pieces k.line.shape k.line.info k.line.children

  stands : drop at s ≡ type ++ (own ++ (last ++ drop l.end s))
  stands =
      k.there.is ∙ sym (append_assoc k.there.bytes (10 ∷ []) (drop l.end s)) ∙ ap (λ (b : Bytes). b ++ drop l.end s) pieces
      ∙ append_assoc type (own ++ last) (drop l.end s) ∙ ap (λ (b : Bytes). type ++ b) (append_assoc own last (drop l.end s))

  end_is : l.end ≡ at + length type + length own + length last
  end_is =
      omega (arith, ap length stands, length-append type (own ++ (last ++ drop l.end s)), length-append own (last ++ drop l.end s), length-append last (drop l.end s), length-drop at s, length-drop l.end s, k.there.low, k.there.high)

  own_end : l.pairs.end + 1 ≡ at + length type + length own
  own_end = omega (arith, end_is, k.shows.last, end_length k.line.children)

  own_start : l.name.start ≡ at + length type
  own_start = omega (arith, own_end, k.shows.flag, info_length k.line.info, part_length k.shows.name, part_length k.shows.pairs)

  type_part : (part s at l.name.start ≡ type) × (drop l.name.start s ≡ own ++ (last ++ drop l.end s))
  type_part = piece s at type (own ++ (last ++ drop l.end s)) stands l.name.start own_start

  own_part : (part s l.name.start (l.pairs.end + 1) ≡ own) × (drop (l.pairs.end + 1) s ≡ last ++ drop l.end s)
  own_part = piece s l.name.start own (last ++ drop l.end s) type_part.1 (l.pairs.end + 1) (omega (arith, own_end, own_start))

  last_part : part s (l.pairs.end + 1) l.end ≡ last
  last_part = (piece s (l.pairs.end + 1) last (drop l.end s) own_part.1 l.end (omega (arith, end_is, own_end))).0

  whole_part : part s at l.end ≡ type ++ (own ++ last)
  whole_part =
      (piece s at (type ++ (own ++ last)) (drop l.end s) (k.there.is ∙ sym (append_assoc k.there.bytes (10 ∷ []) (drop l.end s)) ∙ ap (λ (b : Bytes). b ++ drop l.end s) pieces) l.end
      (omega (arith, end_is, length-append type (own ++ last), length-append own last))).0

  -- ── its parts, and its columns

  pub type_there : HasPart s (part_of at l.name.start)
  type_there = (omega (arith, own_start), omega (arith, own_start, end_is, k.there.high))

  pub last_there : HasPart s (part_of (l.pairs.end + 1) l.end)
  last_there = (omega (arith, own_end, end_is), k.there.high)

  pub columns_there : HasColumns s (columns_of l)
  columns_there = (omega (arith, own_start, own_end), omega (arith, own_end, end_is, k.there.high))

  pub columns_said : Says s (columns_of l) k.line.info
  columns_said = own_part.0

  -- ── with other columns

  module _ (c : Option Part) (j : Option Info) (says : Says s c j) where
    -- with its own it stands as it is
    line_same : is_own l c ≡ true → line_with k.line j ≡ part s at l.end
    line_same e = line_pieces k.line.shape j k.line.children ∙ ap (λ (b : Bytes). type ++ (b ++ last)) (sym says ∙ go c e) ∙ sym whole_part
      where
        both : (a b : Bool) → (a && b) ≡ true → (a ≡ true) × (b ≡ true)
        both true true h = (refl, refl)
        both true false h = never h
        both false b h = never h

        bare : (i : Option Info) → is_bare i ≡ true → own_piece no_text no_text no_text ≡ info_text i
        bare None h = refl
        bare (Some i) h = never h

        go : (d : Option Part) → is_own l d ≡ true → columns_text s d ≡ own
        go (Some p) h =
            let q = both (eqb p.start l.name.start) (eqb p.end (l.pairs.end + 1)) h in
            (λ z. part s (eqb-true p.start l.name.start q.0 z) (eqb-true p.end (l.pairs.end + 1) q.1 z)) ∙ own_part.0
        go None h = bare k.line.info (sym k.shows.bare ∙ h)

    line_parts : line_with k.line j ≡ (part s at l.name.start ++ columns_text s c) ++ part s (l.pairs.end + 1) l.end
    line_parts = line_pieces_left k.line.shape j k.line.children ∙ λ z. (sym type_part.0 z ++ sym says z) ++ sym last_part z

-- ── by the columns

module _ (l : FieldLine) (c : Option Part) (p : Part) (e : c ≡ Some p) where
  pub starts_elsewhere : (p.start ≡ l.name.start → ⊥) → false ≡ is_own l c
  starts_elsewhere h = rw (e, ne_eqb p.start l.name.start h)

  pub starts_here : p.start ≡ l.name.start → eqb p.end (l.pairs.end + 1) ≡ is_own l c
  starts_here h = rw (e, eq-eqb p.start l.name.start h)

pub part_short : (s : Bytes) (a e : ℕ) → length (part s a e) ≤ length s
part_short s a e = omega (arith, length-take (e - a) (drop a s), length-drop a s)

pub columns_short : (s : Bytes) (c : Option Part) → length (columns_text s c) ≤ length s + 6
columns_short s (Some p) = omega (arith, part_short s p.start p.end)
columns_short s None = omega (arith, bare_length)

-- ── what is written

module _ {s : Bytes} {at : ℕ} {l : FieldLine} {c : Option Part} (w : CanPutLine s at l c) where
  pub put_whole : is_own l c ≡ true → (out out' : Bytes) → out' ≡ over (part s at l.end) out → LinePut s at l c out out' (l.end - at)
  put_whole e out out' laid k j says =
      let same = line_same k c j says e in
      let long : length (part s at l.end) ≡ l.end - at = omega (arith, length-take (l.end - at) (drop at s), length-drop at s, k.there.low, k.there.high) in
      ((omega (arith, ap length same, long), laid ∙ ap (λ (b : Bytes). over b out) (sym same)), omega (arith, k.there.high, w.short))

  pub put_parts : (out : Bytes) {a b r : ℕ} {one two out' : Bytes} → PutAt 0 (part s at l.name.start) a out one → PutAt a (columns_text s c) b one two → PutAt b (part s (l.pairs.end + 1) l.end) r two out'
      → LinePut s at l c out out' r
  put_parts out {a} {b} {r} {one} {two} {out'} p q z k j says =
      let text = (part s at l.name.start ++ columns_text s c) ++ part s (l.pairs.end + 1) l.end in
      let first : Written 0 (part s at l.name.start) out a one = record { place = p.0; holds = p.1 } in
      let done : PutFirst text r out out' = whole (and_then (part s (l.pairs.end + 1) l.end) (and_then (columns_text s c) first q) z) in (
        subst (λ (y : Bytes). PutFirst y r out out') (sym (line_parts k c j says)) done,
        omega (arith, done.0, length-append (part s at l.name.start ++ columns_text s c) (part s (l.pairs.end + 1) l.end), length-append (part s at l.name.start) (columns_text s c), part_short s at l.name.start, part_short s (l.pairs.end + 1) l.end, columns_short s c, w.short),
      )

-- ── the line of a kind

abbrev kind_shape : ℕ → Shape
kind_shape kind = of_scalar (leaf kind 0)

pub numbers_short : (kind : ℕ) → kind < 2 ^ 64 → length (shape_piece kind 0 0 no_text no_text) ≤ 67
numbers_short kind h = omega (arith, shape_short kind 0 0 no_text no_text h (omega arith) (omega arith))

module _ {s : Bytes} {c : Option Part} (w : CanPutKind s c) (kind : ℕ) (fits : kind < 2 ^ 64) where
  pub put_kind : (out : Bytes) {a b r : ℕ} {one two out' : Bytes} → PutAt 0 (shape_piece kind 0 0 no_text no_text) a out one → PutAt a (columns_text s c) b one two → PutAt b (end_piece 0) r two out'
      → KindPut s kind c out out' r
  put_kind out {a} {b} {r} {one} {two} {out'} p q z j says =
      let type = columns_piece (columns (kind_shape kind)) in
      let text = (type ++ columns_text s c) ++ end_piece 0 in
      let first : Written 0 type out a one = record { place = p.0; holds = p.1 } in
      let done : PutFirst text r out out' = whole (and_then (end_piece 0) (and_then (columns_text s c) first q) z) in (
        subst (λ (y : Bytes). PutFirst y r out out') (sym (line_pieces_left (kind_shape kind) j 0 ∙ ap (λ (y : Bytes). (type ++ y) ++ end_piece 0) (sym says))) done,
        omega (arith, done.0, length-append (type ++ columns_text s c) (end_piece 0), length-append type (columns_text s c), numbers_short kind fits, end_short 0 (omega arith), columns_short s c, w.short),
      )
