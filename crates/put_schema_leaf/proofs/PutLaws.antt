-- A leaf's schema line written as words, and its field line copied: each piece, and then the whole line, which is that of the node that `ArrowSchema::new`
-- makes of the leaf, or that of its plain form. Assumes nothing.
use mathlib.Core.Path.{◌≡◌, refl, sym, ap, ap₂, subst, ◌∙◌}
use mathlib.Core.Bool.{Bool, true, false, not, ◌&&◌, ◌||◌, and-false}
use mathlib.Core.List.{[], ◌∷◌, ◌++◌, append_assoc, append-nil}
use Rattle.std.specs.Prelude.{Option, None, Some}
use Prim.Native.Nat.{ℕ, zero, suc, ◌+◌, ◌*◌, ◌-◌, ◌/◌, ◌%◌, ◌^◌, ◌≤◌, ◌<◌, min}
use native.Mathlib.Nat.{zero-add, pow-suc, div-div-eq-div-mul}
use native.Mathlib.Omega.{arith}
use lib.Dec.{eqb, leb}
use lib.IntN.{pos}
use lib.ListN.{length, set, drop, length-append, length-take}
use borrow.Author.Tests.{ne_eqb, lt-ltb, lt-leb}
use Rattle.sheets.specs.Refusal.{zero_byte}
use Rattle.sheets.specs.Rule.{◌and◌, Meets}
use Rattle.sheets.specs.Kind
use Rattle.sheets.specs.Bytes.{Bytes, lacks}
use Rattle.sheets.specs.Answer.{given}
use Rattle.sheets.specs.Number.{decimal}
use Rattle.sheets.specs.Text.{hex}
use Rattle.sheets.specs.Sheet.{ended}
use Rattle.sheets.specs.Flags.{NULLABLE}
use Rattle.sheets.specs.Schema.{Node, schema, end, absent, schema_lines}
use Rattle.sheets.specs.Format.{rows, row_of}
use Rattle.sheets.specs.Export.{flag, schema_new}
use Rattle.sheets.proofs.Tests.{when_met}
use Rattle.hexadecimal.proofs.PartLaws.{length_hex}
use Rattle.buffer.specs.Over.{over, over_at, PutAt, PutFirst}
use Rattle.buffer.proofs.OverLaws.{over_empty, Written, none_yet, and_then, length_written, whole, stored, over_at_nothing, length_over_at}
use Rattle.words.specs.Words.{low_bytes}
use Rattle.words.proofs.WordLaws.{length_low, put_both, word_put}
use Rattle.columns.specs.Columns.{part}
use Rattle.copy_part.specs.Copies.{CanCopy}
use Rattle.field_leaf.specs.FieldLeaves.{Told, field_leaf_in, leaf_field, FieldLeafAt}
use Rattle.field_leaf.proofs.LeafLaws.{leaf_told, name_size, leaf_part}
use Rattle.put_schema_leaf.specs.Formats.{digits_text, digits_option, format_digits}
use Rattle.put_schema_leaf.specs.Written.{schema_tail, schema_text, format_fits, schema_fits, SchemaLeafWritten, is_copied, copy_fits, LeafCopied}
use Rattle.put_schema_leaf.proofs.FormatLaws.{digits_size, Format, format_told}

-- ── a number's lowest bytes, two at once

-- those before place i are written, and the number that is left begins with those at i
pub record Lowering (out₀ : Bytes) (at w len end : ℕ) (out : Bytes) (rest i : ℕ) : Type 0 where
  pub room : at + len ≤ length out₀
  pub ends : end ≡ at + len
  pub low : at ≤ i
  pub high : i ≤ end
  pub even : (end - i) % 2 ≡ 0
  pub left : rest ≡ w / 256 ^ (i - at)
  pub holds : out ≡ over_at at (low_bytes (i - at) w) out₀

module _ {out₀ : Bytes} {at w len end : ℕ} where
  pub lowering_none : at + len ≤ length out₀ → len % 2 ≡ 0 → end ≡ at + len → Lowering out₀ at w len end out₀ w at
  unfolding low_bytes
  lowering_none room even ends =
      let n : 0 ≡ at - at = omega arith in
      let one : w ≡ w / 256 ^ 0 = omega arith in
      record {
        room = room;
        ends = ends;
        low = omega arith;
        high = omega arith;
        even = omega arith;
        left = subst (λ (k : ℕ). w ≡ w / 256 ^ k) n one;
        holds = subst (λ (k : ℕ). out₀ ≡ over_at at (low_bytes k w) out₀) n (sym (over_at_nothing at out₀));
      }

  module _ {out : Bytes} {rest i : ℕ} (l : Lowering out₀ at w len end out rest i) where
    pub lowering_length : length out ≡ length out₀
    lowering_length = ap length l.holds ∙ length_over_at at (low_bytes (i - at) w) out₀

    pub lowering_more : (next : Bytes) → i < end → next ≡ over_at i (low_bytes 2 rest) out → Lowering out₀ at w len end next (rest / 65536) (i + 2)
    lowering_more next h p =
        let m = i - at in
        let n : m + 2 ≡ i + 2 - at = omega (arith, l.low) in
        let here : i ≡ at + m = omega (arith, l.low) in
        let power : 256 ^ m * 65536 ≡ 256 ^ (m + 2) = two_more m in
        record {
          room = l.room;
          ends = l.ends;
          low = omega (arith, l.low);
          high = omega (arith, l.even);
          even = omega (arith, l.even);
          left = ap (λ (x : ℕ). x / 65536) l.left ∙ div-div-eq-div-mul w (256 ^ m) 65536 ∙ ap (λ (x : ℕ). w / x) power ∙ ap (λ (x : ℕ). w / 256 ^ x) n;
          holds =
              put_both m 2 at w out₀ out next l.holds (p ∙ ap₂ (λ (x y : ℕ). over_at x (low_bytes 2 y) out) here l.left)
              ∙ ap (λ (x : ℕ). over_at at (low_bytes x w) out₀) n;
        }
      where
        two_more : (m : ℕ) → 256 ^ m * 65536 ≡ 256 ^ (m + 2)
        two_more m =
            let s : m + 2 ≡ suc (suc m) = omega arith in
            let a : 256 ^ suc m ≡ 256 ^ m * 256 = pow-suc 256 m in
            let b : 256 ^ suc (suc m) ≡ 256 ^ suc m * 256 = pow-suc 256 (suc m) in
            let c : 256 ^ m * 65536 ≡ 256 ^ suc (suc m) = omega (arith, a, b) in
            c ∙ ap (λ (x : ℕ). 256 ^ x) (sym s)

    pub lowering_all : end ≤ i → PutAt at (low_bytes len w) i out₀ out
    lowering_all h =
        let n : i - at ≡ len = omega (arith, l.low, l.high, l.ends) in
        (omega (arith, length_low len w, l.low, l.high, l.ends), l.holds ∙ ap (λ (x : ℕ). over_at at (low_bytes x w) out₀) n)

-- ── the format

module _ (out : Bytes) (low high len : ℕ) (room : len + 1 ≤ length out) where
  spaced : (mid : Bytes) (to : ℕ) → Written 0 (digits_text low high len) out to mid → PutAt 0 (digits_text low high len ++ (32 ∷ [])) (to + 1) out (set mid to 32)
  spaced mid to v =
      let w = and_then (32 ∷ []) {m = to + 1} {k = set mid to 32} v (refl, stored to 32 mid (omega (arith, v.place, digits_size low high len, length_written v))) in
      (w.place, w.holds)

  pub format_short : (mid : Bytes) (to : ℕ) → len ≤ 8 → PutAt 0 (low_bytes len low) to out mid → PutAt 0 (digits_text low high len ++ (32 ∷ [])) (to + 1) out (set mid to 32)
  unfolding low_bytes
  format_short mid to h p =
      let m : min len 8 ≡ len = omega arith in
      let z : len - 8 ≡ 0 = omega arith in
      let t : digits_text low high len ≡ low_bytes len low = ap₂ (λ (i j : ℕ). low_bytes i low ++ low_bytes j high) m z ∙ append-nil (low_bytes len low) in
      spaced mid to (record { place = p.0 ∙ ap (λ (b : Bytes). 0 + length b) (sym t); holds = p.1 ∙ ap (λ (b : Bytes). over_at 0 b out) (sym t) })

  -- the two digits of a name of one byte
  pub format_pair : (mid : Bytes) → len ≡ 2 → mid ≡ over_at 0 (low_bytes 2 low) out → PutAt 0 (digits_text low high len ++ (32 ∷ [])) 3 out (set mid 2 32)
  format_pair mid is e =
      let n : low_bytes 2 low ≡ low_bytes len low = ap (λ (i : ℕ). low_bytes i low) (sym is) in
      format_short mid 2 (omega arith) (omega (arith, is, length_low len low), e ∙ ap (λ (b : Bytes). over_at 0 b out) n)

  pub format_long : (first mid : Bytes) (to : ℕ) → 8 < len → first ≡ over_at 0 (low_bytes 8 low) out → PutAt 8 (low_bytes (len - 8) high) to first mid → PutAt 0 (digits_text low high len ++ (32 ∷ [])) (to + 1) out (set mid to 32)
  format_long first mid to h e p =
      let m : min len 8 ≡ 8 = omega arith in
      let t : digits_text low high len ≡ low_bytes 8 low ++ low_bytes (len - 8) high = ap (λ (i : ℕ). low_bytes i low ++ low_bytes (len - 8) high) m in
      let v : Written 0 (low_bytes 8 low) out 8 first = record { place = sym (ap (λ (n : ℕ). 0 + n) (length_low 8 low)); holds = e } in
      spaced mid to (subst (λ (b : Bytes). Written 0 b out to mid) (sym t) (and_then (low_bytes (len - 8) high) v p))

-- ── the tail

pub tail_put : (at n : ℕ) (out mid : Bytes) → n < 2 → at + 9 ≤ length out → mid ≡ over_at at (low_bytes 8 (3467824629188407328 + n * 512)) out
    → PutAt at (schema_tail n) (at + 9) out (set mid (at + 8) 10)
unfolding schema_tail
tail_put at n out mid h room e =
    let t : Bytes = 32 ∷ (48 + 2 * n) ∷ 32 ∷ 126 ∷ 32 ∷ 48 ∷ 32 ∷ 48 ∷ [] in
    let a = word_put t (3467824629188407328 + n * 512) (at + 8) mid (none_yet at out) (refl, (lt-ltb (48 + 2 * n) 256 (omega arith), (refl, (refl, (refl, (refl, (refl, (refl, refl)))))))) (omega arith) refl e in
    let b = and_then (10 ∷ []) {m = at + 9} {k = set mid (at + 8) 10} a (omega arith, stored (at + 8) 10 mid (omega (arith, length_written a))) in
    (b.place, b.holds)

-- ── what was recognised

-- how many digits it has
pub format_size : {kind low high len : ℕ} → Format kind low high len → (len % 2 ≡ 0) × (len ≤ 14)
format_size {kind} {low} {high} {len} f =
    let n : len ≡ 2 * length f.row.name = sym (digits_size low high len) ∙ ap length f.is ∙ length_hex f.row.name in
    (omega (arith, n), omega (arith, n, f.few))

-- ── the node

abbrev leaf_node : Bytes → Bytes → ℕ → Node
leaf_node format name n = record { format = Some format; name = Some name; flags = pos (flag (eqb n 1) NULLABLE + 0); metadata = None }

-- the line as it is written
line_text_lem : (f b : Bytes) (n : ℕ) → 0 < length f → 0 < length b → n < 2 → schema_text (hex f) (hex b) n ≡ ended (schema_lines (schema (leaf_node f b n) end absent))
unfolding schema_tail decimal
line_text_lem [] b n h k l = absurd (omega arith)
line_text_lem (x ∷ f) [] n h k l = absurd (omega arith)
line_text_lem (x ∷ f) (y ∷ b) zero h k l = simp append_assoc
line_text_lem (x ∷ f) (y ∷ b) (suc zero) h k l = simp append_assoc
line_text_lem (x ∷ f) (y ∷ b) (suc (suc n)) h k l = absurd (omega arith)

made : (kind low high len : ℕ) (b : Bytes) (n : ℕ) (f : Format kind low high len) → Meets (lacks 0 b) → (big : Bool) → schema_new big (leaf_field kind b n) ≡ given (schema (leaf_node f.row.name b n) end absent)
made kind low high len b n f h big = rw f.is_row (when_met zero_byte (lacks 0 b and lacks 0 f.row.name) (schema (leaf_node f.row.name b n) end absent) (h, f.nonzero))

-- ── the line

tail_size : (n : ℕ) → length (schema_tail n) ≡ 9
unfolding schema_tail
tail_size n = refl

module _ {s : Bytes} {at kind from e n low high len : ℕ} (k : FieldLeafAt s at kind from e n) (f : Format kind low high len) where
  abbrev text : Bytes
  text = schema_text (digits_text low high len) (part s from e) n

  text_size_lem : length text ≡ e - from + len + 10
  text_size_lem =
      omega (
        arith,
        length-append ((digits_text low high len ++ (32 ∷ [])) ++ part s from e) (schema_tail n),
        length-append (digits_text low high len ++ (32 ∷ [])) (part s from e),
        length-append (digits_text low high len) (32 ∷ []),
        digits_size low high len,
        name_size k,
        tail_size n,
      )

  line_written_lem : (out r : Bytes) (size : ℕ) → PutFirst text size out r → SchemaLeafWritten s at out r (e + 7) size
  line_written_lem out r size p =
      let is : text ≡ ended (schema_lines (schema (leaf_node f.row.name k.bytes n) end absent)) =
      ap₂ (λ (x y : Bytes). schema_text x y n) f.is k.name ∙ line_text_lem f.row.name k.bytes n f.some k.some k.flag in
      record {
        kind = kind;
        from = from;
        e = e;
        nullable = n;
        leaf = k;
        node = leaf_node f.row.name k.bytes n;
        made = made kind low high len k.bytes n f k.nonzero;
        after = refl;
        put = (p.0 ∙ ap length is, p.1 ∙ ap (λ (b : Bytes). over b out) is);
        short = omega (arith, p.0, text_size_lem, (format_size f).1);
      }

  -- no byte is lent
  pub schema_counted : (out : Bytes) → length out ≡ 0 → SchemaLeafWritten s at out out (e + 7) (e - from + len + 10)
  schema_counted out h = line_written_lem out out (e - from + len + 10) (sym text_size_lem, over_empty text out h)

module _ {s : Bytes} {at kind from e n low high len : ℕ} (k : FieldLeafAt s at kind from e n) (f : Format kind low high len) (out : Bytes) (fits : e - from ≤ length out) (room : len + 10 ≤ length out - (e - from)) where
  pub name_can : (l : Bytes) (to : ℕ) → PutAt 0 (digits_text low high len ++ (32 ∷ [])) to out l → CanCopy l to s from e
  name_can l to p =
      let v : Written 0 (digits_text low high len ++ (32 ∷ [])) out to l = record { place = p.0; holds = p.1 } in
      record {
        low = omega (arith, k.long);
        high = omega (arith, k.high);
        room = omega (arith, p.0, spaced_size, length_written v);
      }
    where
      spaced_size : length (digits_text low high len ++ (32 ∷ [])) ≡ len + 1
      spaced_size = length-append (digits_text low high len) (32 ∷ []) ∙ omega (arith, digits_size low high len)

  pub tail_room : (l m : Bytes) (to stop : ℕ) → PutAt 0 (digits_text low high len ++ (32 ∷ [])) to out l → PutAt to (part s from e) stop l m → stop + 9 ≤ length m
  tail_room l m to stop p q =
      let v : Written 0 (digits_text low high len ++ (32 ∷ [])) out to l = record { place = p.0; holds = p.1 } in
      let w = and_then (part s from e) v q in
      omega (arith, p.0, q.0, length-append (digits_text low high len) (32 ∷ []), digits_size low high len, name_size k, length_written w)

  pub schema_written_lem : (l m r : Bytes) (to stop size : ℕ) → PutAt 0 (digits_text low high len ++ (32 ∷ [])) to out l → PutAt to (part s from e) stop l m → PutAt stop (schema_tail n) size m r
      → SchemaLeafWritten s at out r (e + 7) size
  schema_written_lem l m r to stop size p q t =
      let v : Written 0 (digits_text low high len ++ (32 ∷ [])) out to l = record { place = p.0; holds = p.1 } in
      let all = whole (and_then (schema_tail n) (and_then (part s from e) v q) t) in
      line_written_lem k f out r size (all.0, all.1)

-- ── dates

module _ (dates : Bool) (kind : ℕ) (d : dates ≡ false) where
  pub is_date32 : kind ≡ Kind.Date32 → false ≡ is_copied dates kind
  is_date32 e = rw (d, e)

  pub not_date32 : (kind ≡ Kind.Date32 → ⊥) → not (eqb kind Kind.Date64) ≡ is_copied dates kind
  not_date32 n = rw (d, ne_eqb kind Kind.Date32 n)

-- ── nothing is written

module _ (s : Bytes) (at : ℕ) (out : Bytes) where
  pub no_leaf : None ≡ field_leaf_in s at → schema_fits out (field_leaf_in s at) ≡ false
  no_leaf h = ap (schema_fits out) (sym h)

  pub no_copy : (dates : Bool) → None ≡ field_leaf_in s at → copy_fits out at dates (field_leaf_in s at) ≡ false
  no_copy dates h = ap (copy_fits out at dates) (sym h)

  module _ (kind from e n : ℕ) (h : Some (kind, (from, (e, n))) ≡ field_leaf_in s at) where
    fits_here : schema_fits out (field_leaf_in s at) ≡ format_fits out (e - from) (format_digits kind)
    fits_here = ap (schema_fits out) (sym h)

    pub no_format : None ≡ format_digits kind → schema_fits out (field_leaf_in s at) ≡ false
    no_format g = fits_here ∙ ap (format_fits out (e - from)) (sym g)

    pub no_room : (low high len : ℕ) → Some (digits_text low high len) ≡ format_digits kind → (length out ≡ 0 → ⊥) → length out < len + 10 + (e - from) → schema_fits out (field_leaf_in s at) ≡ false
    no_room low high len g lent l =
        fits_here ∙ ap (format_fits out (e - from)) (sym g)
        ∙ ap (λ (b : Bool). b || leb (length (digits_text low high len) + 10 + (e - from)) (length out)) (ne_eqb (length out) 0 lent)
        ∙ lt-leb (length (digits_text low high len) + 10 + (e - from)) (length out) (omega (arith, digits_size low high len))

    module _ (dates : Bool) where
      copy_here : copy_fits out at dates (field_leaf_in s at) ≡ (is_copied dates kind && leb (e + 7 - at) (length out))
      copy_here = ap (copy_fits out at dates) (sym h)

      pub no_copy_date : is_copied dates kind ≡ false → copy_fits out at dates (field_leaf_in s at) ≡ false
      no_copy_date d = copy_here ∙ ap (λ (b : Bool). b && leb (e + 7 - at) (length out)) d

      pub no_copy_room : length out < e + 7 - at → copy_fits out at dates (field_leaf_in s at) ≡ false
      no_copy_room l = copy_here ∙ ap (λ (b : Bool). is_copied dates kind && b) (lt-leb (e + 7 - at) (length out) l) ∙ and-false (is_copied dates kind)

-- ── the line itself

module _ {s : Bytes} {at kind from e n : ℕ} (k : FieldLeafAt s at kind from e n) (out : Bytes) where
  pub copy_can : e + 7 - at ≤ length out → CanCopy out 0 s at (e + 7)
  copy_can room = record { low = omega (arith, k.long, k.begins); high = k.high; room = omega arith }

  pub leaf_copied : (dates : Bool) → is_copied dates kind ≡ true → (r : Bytes) (size : ℕ) → PutAt 0 (part s at (e + 7)) size out r → LeafCopied s at dates out r (e + 7) size
  leaf_copied dates d r size p =
      let v : Written 0 (part s at (e + 7)) out size r = record { place = p.0; holds = p.1 } in
      let all = whole v in
      record { kind = kind; from = from; e = e; nullable = n; leaf = k; copied = d; after = refl; put = (all.0 ∙ ap length (leaf_part k), all.1 ∙ ap (λ (b : Bytes). over b out) (leaf_part k)); short = omega (arith, p.0, length-take (e + 7 - at) (drop at s)) }
