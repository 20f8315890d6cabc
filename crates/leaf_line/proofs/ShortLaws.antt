-- A short line: what its rule tells of the bytes, and that such bytes are a line that reads (`short_there`). Its columns are shown one after the other (`Ends`).
-- For callers: what the line says, `short_says`. Assumes nothing.
use mathlib.Core.Path.{◌≡◌, refl, sym, ap, subst, ◌∙◌}
use mathlib.Core.Bool.{Bool, true, false, cond}
use mathlib.Core.List.{List, [], ◌∷◌, ◌++◌}
use Rattle.std.specs.Prelude.{Option, None, Some}
use Prim.Native.Nat.{ℕ, suc, ◌+◌, ◌*◌, ◌-◌, ◌^◌, ◌≤◌, ◌<◌}
use native.Mathlib.Numerals.{add-one}
use native.Mathlib.Omega.{arith}
use lib.IntN.{pos}
use lib.ListN.{length, get_or, take, drop, take-append-drop, length-take, length-drop}
use lib.Seq.{drop-cons, drop-drop, get_or-take, get_or-drop}
use borrow.Author.Tests.{eqb-true, ltb-true, le-leb, lt-ltb, eq-eqb}
use Rattle.sheets.specs.Rule.{Rule, passes, Meets}
use Rattle.sheets.specs.Bytes.{Bytes, all, lacks, is_byte, same}
use Rattle.sheets.specs.Answer.{given}
use Rattle.sheets.specs.Number.{is_digit}
use Rattle.sheets.specs.Text.{hex, read_text}
use Rattle.sheets.specs.Format.{FormatRow}
use Rattle.sheets.specs.Schema.{Line}
use Rattle.sheets.proofs.TextLaws.{hex_lacks, read_text_lem}
use Rattle.sheets.specs.Utf8.{is_utf8}
use Rattle.sheets.proofs.Utf8Laws.{ascii_utf8, utf8_bytes}
use Rattle.sheets.proofs.Tests.{not_some, same_some, passing, meets, same_given}
use Rattle.sheets.proofs.BytesLaws.{same_refl, same_eq}
use Rattle.hexadecimal.proofs.PartLaws.{length_hex}
use Rattle.sheets.specs.Metadata.{little_value}
use Rattle.words.specs.Words.{WordAt, low_bytes}
use Rattle.words.proofs.WordLaws.{word_is, low_word}
use Rattle.columns.specs.Columns.{part, ColumnAt}
use Rattle.columns.specs.TextColumns.{is_mark}
use Rattle.columns.specs.Pairs.{pairs_from}
use Rattle.columns.proofs.OneByteLaws.{One, one_past, one_part, one_column}
use Rattle.columns.proofs.OneDigitLaws.{digit_low, digit_high, digit_column, digit_reads, signed_reads}
use Rattle.columns.proofs.TextLaws.{mark_past}
use Rattle.columns.proofs.PairsLaws.{Plain, plain, pairs_are}
use Rattle.schema_line.specs.declared.SchemaLine.{SchemaLine}
use Rattle.schema_line.specs.Lines.{line_rule, LineAt}
use Rattle.schema_line.proofs.LineLaws.{Ends, ends_line}
use Rattle.format_names.specs.ShortNames.{kind_among}
use Rattle.leaf_line.specs.Short.{short_tail, tail_rule, short_rule, flags_at, flags_in, Told, short_from, ShortFormat, Names, short_line, ShortAt}

-- ── the end of the line

-- `d ~ c 0` and byte 10
abbrev tail : ℕ → ℕ → Bytes
tail d c = d ∷ short_tail c

-- `0 ~ 0 0` and byte 10 as one number, and what a child adds
abbrev pub no_flags : ℕ → ℕ
no_flags c = 0x0a302030207e2030 + c * 0x100000000

-- what the rule of these bytes tells
pub record Tail (s : Bytes) (e c : ℕ) : Type 0 where
  pub digit : is_digit (get_or s (e + 1) 0) ≡ true
  pub rest : part s (e + 2) (e + 9) ≡ short_tail c

module _ (s : Bytes) (e c : ℕ) where
  tail_kept : Meets (tail_rule s e c) → Tail s e c
  tail_kept m = record { digit = m.0; rest = same_eq (part s (e + 2) (e + 9)) (short_tail c) m.1 }

  tail_keeps : Tail s e c → Meets (tail_rule s e c)
  tail_keeps k = (k.digit, ap (λ (b : Bytes). same b (short_tail c)) k.rest ∙ same_refl (short_tail c))

module _ {s : Bytes} {e c : ℕ} (m : Tail s e c) where
  pub tail_high : e + 9 ≤ length s
  tail_high = omega (arith, ap length m.rest, length-take (e + 9 - (e + 2)) (drop (e + 2) s), length-drop (e + 2) s)

  -- the eight bytes after the name's space
  eight : take 8 (drop (e + 1) s) ≡ tail (get_or s (e + 1) 0) c
  eight =
      let n : suc (e + 1) ≡ e + 2 = omega arith in
      let j : e + 9 - (e + 2) ≡ 7 = omega arith in
      ap (take 8) (drop-cons s (e + 1) 0 (omega (arith, tail_high)) ∙ ap (λ (i : ℕ). get_or s (e + 1) 0 ∷ drop i s) n)
      ∙ ap (λ (b : Bytes). get_or s (e + 1) 0 ∷ b) (ap (λ (i : ℕ). take i (drop (e + 2) s)) (sym j) ∙ m.rest)

  -- as one number
  pub tail_word : {w : ℕ} → WordAt 8 s (e + 1) w → w ≡ no_flags c + flags_at s e
  tail_word {w} a = omega (arith, a.is, ap little_value eight, digit_low (get_or s (e + 1) 0) m.digit)

  pub tail_digit : flags_at s e ≤ 9
  tail_digit = omega (arith, digit_high (get_or s (e + 1) 0) m.digit)

  -- one of them
  pub tail_byte : (i n : ℕ) → i < 8 → n ≡ e + 1 + i → get_or s n 0 ≡ get_or (tail (get_or s (e + 1) 0) c) i 0
  tail_byte i n l q = ap (λ (j : ℕ). get_or s j 0) q ∙ sym (get_or-drop (e + 1) s i 0) ∙ sym (get_or-take 8 (drop (e + 1) s) i 0 l) ∙ ap (λ (b : Bytes). get_or b i 0) eight

  -- one of them, and the byte that ends its column
  tail_one : (f : ℕ → Bool) (i n stop : ℕ) → i < 7 → n ≡ e + 1 + i → f (get_or (tail (get_or s (e + 1) 0) c) i 0) ≡ true → get_or (tail (get_or s (e + 1) 0) c) (i + 1) 0 ≡ stop → One f s n stop
  tail_one f i n stop l q h g =
      record { room = omega (arith, tail_high); holds = ap f (tail_byte i n (omega arith) q) ∙ h; stops = tail_byte (i + 1) (n + 1) (omega arith) (omega arith) ∙ g }

is_digit_lem : (d : ℕ) → d ≤ 9 → is_digit (48 + d) ≡ true
is_digit_lem d h = rw (le-leb 48 (48 + d) (omega arith), le-leb (48 + d) 57 (omega arith))

-- the eight bytes are a number that is at most 9 more than that of `0 ~ c 0` and byte 10
module _ (s : Bytes) (e c w flags : ℕ) (high : e + 9 ≤ length s) (few : c ≤ 9) (end : WordAt 8 s (e + 1) w) (plus : w ≡ no_flags c + flags) (digit : flags ≤ 9) where
  there : take 8 (drop (e + 1) s) ≡ tail (48 + flags) c
  there =
      word_is end (omega arith) (tail (48 + flags) c) refl
      (lt-ltb (48 + flags) 256 (omega arith), (refl, (refl, (refl, (lt-ltb (48 + c) 256 (omega arith), (refl, (refl, (refl, refl)))))))) (omega arith)

  here : take 8 (drop (e + 1) s) ≡ get_or s (e + 1) 0 ∷ part s (e + 2) (e + 9)
  here =
      let n : suc (e + 1) ≡ e + 2 = omega arith in
      let j : e + 9 - (e + 2) ≡ 7 = omega arith in
      ap (take 8) (drop-cons s (e + 1) 0 (omega arith) ∙ ap (λ (i : ℕ). get_or s (e + 1) 0 ∷ drop i s) n) ∙ ap (λ (i : ℕ). get_or s (e + 1) 0 ∷ take i (drop (e + 2) s)) (sym j)

  flags_here : get_or s (e + 1) 0 ≡ 48 + flags
  flags_here = ap (λ (b : Bytes). get_or b 0 0) (sym here ∙ there)

  tail_there : Tail s e c
  tail_there = record { digit = ap is_digit flags_here ∙ is_digit_lem flags digit; rest = ap (drop 1) (sym here ∙ there) }

  pub flags_some : Some flags ≡ flags_in s e c
  unfolding flags_in
  flags_some =
      let n : flags ≡ flags_at s e = omega (arith, flags_here) in
      ap Some n ∙ ap (λ (t : Bool). cond t (Some (flags_at s e)) None) (sym (passing (tail_rule s e c) (tail_keeps s e c tail_there)))

pub flags_none : (s : Bytes) (e c : ℕ) → (Tail s e c → ⊥) → None ≡ flags_in s e c
unfolding flags_in
flags_none s e c h = pick (passes (tail_rule s e c)) refl
  where
    pick : (t : Bool) → passes (tail_rule s e c) ≡ t → None ≡ cond t (Some (flags_at s e)) None
    pick true q = absurd (h (tail_kept s e c (meets (tail_rule s e c) q)))
    pick false q = refl

-- what `flags_in` tells
pub no_flags_lem : (s : Bytes) (e c : ℕ) → flags_in s e c ≡ None → Tail s e c → ⊥
unfolding flags_in
no_flags_lem s e c q m = not_some (sym q ∙ ap (λ (t : Bool). cond t (Some (flags_at s e)) None) (passing (tail_rule s e c) (tail_keeps s e c m)))

pub flags_told : (s : Bytes) (e c flags : ℕ) → flags_in s e c ≡ Some flags → Tail s e c × (flags_at s e ≡ flags)
unfolding flags_in
flags_told s e c flags q = pick (passes (tail_rule s e c)) refl q
  where
    pick : (t : Bool) → passes (tail_rule s e c) ≡ t → cond t (Some (flags_at s e)) None ≡ Some flags → Tail s e c × (flags_at s e ≡ flags)
    pick true p f = (tail_kept s e c (meets (tail_rule s e c) p), same_some f)
    pick false p f = not_some f

-- ── where a line stands that keeps its rule, and where none does

pub record Kept (n : ℕ) (s : Bytes) (at e c : ℕ) : Type 0 where
  pub space : get_or s (at + n) 0 ≡ 32
  pub long : at + (n + 1) < e
  pub after : get_or s e 0 ≡ 32
  pub end : Tail s e c

module _ (n : ℕ) (s : Bytes) (at e c : ℕ) where
  pub kept : Meets (short_rule n s at e c) → Kept n s at e c
  kept m = record { space = eqb-true (get_or s (at + n) 0) 32 m.0; long = ltb-true (at + (n + 1)) e m.1.0; after = eqb-true (get_or s e 0) 32 m.1.1.0; end = tail_kept s e c m.1.1.1 }

  pub keeps : Kept n s at e c → Meets (short_rule n s at e c)
  keeps k = (eq-eqb (get_or s (at + n) 0) 32 k.space, (lt-ltb (at + (n + 1)) e k.long, (eq-eqb (get_or s e 0) 32 k.after, tail_keeps s e c k.end)))

-- the format's digits as one number
pub format_word : (n : ℕ) (s : Bytes) (at : ℕ) (rows : List FormatRow) {w : ℕ} → WordAt n s at w → at + n ≤ length s → kind_among (part s at (at + n)) rows ≡ kind_among (low_bytes n w) rows
format_word n s at rows a h =
    let j : at + n - at ≡ n = omega arith in
    ap (λ (b : Bytes). kind_among b rows) (ap (λ (i : ℕ). take i (drop at s)) j ∙ sym (low_word a h))

abbrev told_at : Bytes → ℕ → ℕ → ℕ → Told
told_at s e c kind = (kind, (e, (flags_at s e, c)))

module _ (r : Rule) (s : Bytes) (e c : ℕ) where
  pub from_none : (Meets r → ⊥) → (o : Option ℕ) → short_from r s e c o ≡ None
  from_none h None = refl
  from_none h (Some kind) = pick (passes r) refl
    where
      pick : (t : Bool) → passes r ≡ t → cond t (Some (told_at s e c kind)) None ≡ None
      pick true q = absurd (h (meets r q))
      pick false q = refl

  pub from_some : {o : Option ℕ} {kind flags : ℕ} → o ≡ Some kind → Meets r → flags_at s e ≡ flags → short_from r s e c o ≡ Some (kind, (e, (flags, c)))
  from_some {o} {kind} {flags} q m f =
      ap (short_from r s e c) q ∙ ap (λ (t : Bool). cond t (Some (told_at s e c kind)) None) (passing r m) ∙ (λ i. Some (kind, (e, (f i, c))))

  pub from_told : {o : Option ℕ} {t : Told} → short_from r s e c o ≡ Some t → (kind : ℕ) × (o ≡ Some kind) × Meets r × (told_at s e c kind ≡ t)
  from_told {o} {t} q = go o refl q
    where
      go : (p : Option ℕ) → o ≡ p → short_from r s e c p ≡ Some t → (kind : ℕ) × (o ≡ Some kind) × Meets r × (told_at s e c kind ≡ t)
      go None i f = not_some f
      go (Some kind) i f = pick (passes r) refl f
        where
          pick : (u : Bool) → passes r ≡ u → cond u (Some (told_at s e c kind)) None ≡ Some t → (kind : ℕ) × (o ≡ Some kind) × Meets r × (told_at s e c kind ≡ t)
          pick true p g = (kind, i, meets r p, same_some g)
          pick false p g = not_some g

-- ── a column

column_at_lem : (s : Bytes) (a e stop : ℕ) → a ≤ e → e < length s → get_or s e 0 ≡ stop → Meets (lacks 32 (part s a e)) → Meets (lacks 10 (part s a e)) → ColumnAt s a e stop
column_at_lem s a e stop low high at spaces ends =
    let n : a + (e - a) ≡ e = omega arith in
    let rest : drop (e - a) (drop a s) ≡ stop ∷ drop (e + 1) s =
    drop-drop (e - a) a s ∙ ap (λ (i : ℕ). drop i s) n ∙ drop-cons s e 0 high ∙ ap (λ (x : ℕ). x ∷ drop (suc e) s) at ∙ ap (λ (i : ℕ). stop ∷ drop i s) (sym (add-one e)) in
    record {
      low = low;
      high = high;
      is = sym (take-append-drop (e - a) (drop a s)) ∙ ap (λ (l : Bytes). part s a e ++ l) rest;
      spaces = spaces;
      ends = ends;
    }

-- a text's column of bytes
text_column : (s : Bytes) (a e : ℕ) (b : Bytes) → part s a e ≡ hex b → Meets (all is_byte b) → a ≤ e → e < length s → get_or s e 0 ≡ 32 → ColumnAt s a e 32
text_column s a e b q bytes low high at =
    column_at_lem s a e 32 low high at (subst (λ (l : Bytes). Meets (lacks 32 l)) (sym q) (hex_lacks 32 refl b bytes)) (subst (λ (l : Bytes). Meets (lacks 10 l)) (sym q) (hex_lacks 10 refl b bytes))

-- a text of one byte or more
reads : (b : Bytes) → 0 < length b → is_utf8 b ≡ true → read_text (hex b) ≡ given (Some b)
reads [] h k = absurd (omega arith)
reads (x ∷ b) h k = read_text_lem (Some (x ∷ b)) (utf8_bytes (x ∷ b) k)

-- ── the line

-- the line, its places by four numbers
abbrev placed : ℕ → ℕ → ℕ → ℕ → ℕ → ℕ → ℕ → ℕ → ℕ → SchemaLine
placed n at e flags c from m k end =
    record {
      format = record { start = at; end = at + n };
      name = record { start = from; end = e };
      flags = pos flags;
      metadata = record { start = m; end = k };
      children = c;
      dictionary = 0;
      end = end;
    }

places : (n : ℕ) (s : Bytes) (at e flags c : ℕ) → LineAt s at (placed n at e flags c (at + n + 1) (e + 1 + 1 + 1) (e + 1 + 1 + 1 + 1) (e + 1 + 1 + 1 + 1 + 1 + 1 + 1 + 1 + 1))
    → LineAt s at (short_line n at e flags c)
places n s at e flags c h =
    let a : at + n + 1 ≡ at + (n + 1) = omega arith in
    let b : e + 1 + 1 + 1 ≡ e + 3 = omega arith in
    let k : e + 1 + 1 + 1 + 1 ≡ e + 4 = omega arith in
    let d : e + 1 + 1 + 1 + 1 + 1 + 1 + 1 + 1 + 1 ≡ e + 9 = omega arith in
    subst (LineAt s at) (λ i. placed n at e flags c (a i) (b i) (k i) (d i)) h

-- what is told of the bytes of a line with this format
pub record Found (f : ShortFormat) (s : Bytes) (at e flags c : ℕ) : Type 0 where
  pub format : Bytes
  pub names : Names f format
  pub is_format : part s at (at + f.digits) ≡ hex format
  pub name : e ≡ pairs_from s (at + (f.digits + 1))
  pub bytes : Kept f.digits s at e c
  pub digit : flags_at s e ≡ flags
  pub few : c ≤ 9

module _ {f : ShortFormat} {s : Bytes} {at e flags c : ℕ} (t : Found f s at e flags c) where
  abbrev n : ℕ
  n = f.digits

  abbrev m : Tail s e c
  m = t.bytes.end

  nine : flags ≤ 9
  nine = omega (arith, t.digit, tail_digit m)

  flags_one : One is_digit s (e + 1) 32
  flags_one = tail_one m is_digit 0 (e + 1) 32 (omega arith) (omega arith) m.digit refl

  metadata_one : One is_mark s (e + 1 + 1 + 1) 32
  metadata_one = tail_one m is_mark 2 (e + 1 + 1 + 1) 32 (omega arith) (omega arith) refl refl

  children_one : One is_digit s (e + 1 + 1 + 1 + 1 + 1) 32
  children_one = tail_one m is_digit 4 (e + 1 + 1 + 1 + 1 + 1) 32 (omega arith) (omega arith) (is_digit_lem c t.few) refl

  dictionary_one : One is_digit s (e + 1 + 1 + 1 + 1 + 1 + 1 + 1) 10
  dictionary_one = tail_one m is_digit 6 (e + 1 + 1 + 1 + 1 + 1 + 1 + 1) 10 (omega arith) (omega arith) refl refl

  mark_part : (i : ℕ) → i ≡ e + 1 + 2 → One is_mark s i 32 → part s i (i + 1) ≡ 126 ∷ []
  mark_part i q o = one_part (one_past is_mark mark_past 32 s i o) ∙ ap (λ (b : ℕ). b ∷ []) (tail_byte m 2 i (omega arith) q)

  module _ (p : Plain (part s (at + (n + 1)) e)) where
    some_byte : 0 < length p.bytes
    some_byte = omega (arith, t.bytes.long, tail_high m, ap length p.is, length_hex p.bytes, length-take (e - (at + (n + 1))) (drop (at + (n + 1)) s), length-drop (at + (n + 1)) s)

    abbrev line : Line
    line = (Some t.format, (Some p.bytes, (pos flags, (None, (c, (0, tt))))))

    name_utf8 : is_utf8 p.bytes ≡ true
    name_utf8 = ascii_utf8 p.bytes p.ascii

    ends : Ends s at line (at + n) e (e + 1 + 1) (e + 1 + 1 + 1 + 1) (e + 1 + 1 + 1 + 1 + 1 + 1) (e + 1 + 1 + 1 + 1 + 1 + 1 + 1 + 1)
    ends =
        let b = t.bytes in
        let from : at + n + 1 ≡ at + (n + 1) = omega arith in
        let named : part s (at + n + 1) e ≡ hex p.bytes = ap (λ (i : ℕ). part s i e) from ∙ p.is in
        let count : 48 + c - 48 ≡ c = omega arith in
        record {
          format = text_column s at (at + n) t.format t.is_format (utf8_bytes t.format t.names.utf8) (omega arith) (omega (arith, b.long, tail_high m)) b.space;
          name = text_column s (at + n + 1) e p.bytes named (utf8_bytes p.bytes name_utf8) (omega (arith, b.long)) (omega (arith, tail_high m)) b.after;
          flags = digit_column flags_one;
          metadata = one_column (one_past is_mark mark_past 32 s (e + 1 + 1 + 1) metadata_one);
          children = digit_column children_one;
          dictionary = digit_column dictionary_one;
          is_format = ap read_text t.is_format ∙ reads t.format t.names.some t.names.utf8;
          is_name = ap read_text named ∙ reads p.bytes some_byte name_utf8;
          is_flags = signed_reads flags_one ∙ ap (λ (i : ℕ). given (pos i)) t.digit;
          is_metadata = ap read_text (mark_part (e + 1 + 1 + 1) (omega arith) metadata_one);
          is_children = digit_reads children_one ∙ ap (λ (i : ℕ). given (i - 48)) (tail_byte m 4 (e + 1 + 1 + 1 + 1 + 1) (omega arith) (omega arith)) ∙ ap given count;
          is_dictionary = digit_reads dictionary_one ∙ ap (λ (i : ℕ). given (i - 48)) (tail_byte m 6 (e + 1 + 1 + 1 + 1 + 1 + 1 + 1) (omega arith) (omega arith));
        }

    rule : Meets (line_rule line)
    rule = ((t.names.nonzero, (p.some, lt-ltb flags (2 ^ 63) (omega (arith, nine)))), (lt-ltb c (2 ^ 64) (omega (arith, t.few)), refl))

    short_plain : ShortAt f s at e flags c
    short_plain =
        record {
          line = places n s at e flags c (ends_line ends rule);
          format = t.format;
          names = t.names;
          is_format = t.is_format;
          bytes = p.bytes;
          name = p.is;
          some = t.bytes.long;
          metadata =
              let three : e + 1 + 1 + 1 ≡ e + 3 = omega arith in
              let four : e + 3 + 1 ≡ e + 4 = omega arith in
              ap (part s (e + 3)) (sym four) ∙ mark_part (e + 3) (omega arith) (subst (λ (i : ℕ). One is_mark s i 32) three metadata_one);
          utf8 = name_utf8;
          digit = nine;
          high = tail_high m;
        }

  pub short_there : ShortAt f s at e flags c
  short_there = short_plain (plain (part s (at + (n + 1)) e) (pairs_are s (at + (n + 1)) e t.name))

-- ── what the line says

module _ {f : ShortFormat} {s : Bytes} {at e flags c : ℕ} (k : ShortAt f s at e flags c) where
  abbrev from : ℕ
  from = at + (f.digits + 1)

  pub name_size : length (part s from e) ≡ e - from
  name_size = length-take (e - from) (drop from s) ∙ omega (arith, length-drop from s, k.high, k.some)

  pub name_some : 0 < length k.bytes
  name_some = omega (arith, ap length k.name, length_hex k.bytes, name_size, k.some)

  -- its bytes are there, and it says the format, the name, the flags and the children, and nothing else
  pub short_says : k.line.line ≡ (Some k.format, (Some k.bytes, (pos flags, (None, (c, (0, tt))))))
  short_says =
      let x = k.line.line in
      let h = k.line.shows in
      let format : x.0 ≡ Some k.format = same_given (sym h.format.reads ∙ ap read_text k.is_format ∙ reads k.format k.names.some k.names.utf8) in
      let name : x.1.0 ≡ Some k.bytes = same_given (sym h.name.reads ∙ ap read_text k.name ∙ reads k.bytes name_some k.utf8) in
      let flag : x.1.1.0 ≡ pos flags = sym h.flags in
      let metadata : x.1.1.1.0 ≡ None = same_given (sym h.metadata.reads ∙ ap read_text k.metadata) in
      let children : x.1.1.1.1.0 ≡ c = sym h.children in
      let dictionary : x.1.1.1.1.1.0 ≡ 0 = sym h.dictionary in
      λ i. (format i, (name i, (flag i, (metadata i, (children i, (dictionary i, tt))))))
