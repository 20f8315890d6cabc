-- The short field line of a leaf: what its rule tells of the bytes, and that such bytes are the line that the field is written as, so that any reader of
-- field lines reads it (`FieldLeafAt`). For callers: `leaf_told`. Assumes nothing.
use mathlib.Core.Path.{◌≡◌, refl, sym, ap, ap₂, subst, ◌∙◌}
use mathlib.Core.Bool.{Bool, true, false, ◌&&◌, not, cond}
use mathlib.Core.List.{List, [], ◌∷◌, ◌++◌, append_assoc}
use Rattle.std.specs.Prelude.{Option, None, Some}
use Prim.Native.Nat.{ℕ, zero, suc, ◌+◌, ◌*◌, ◌-◌, ◌≤◌, ◌<◌}
use native.Mathlib.Nat.{zero-add, suc-add}
use native.Mathlib.Omega.{arith}
use lib.Dec.{eqb, ltb}
use lib.ListN.{length, get_or, take, drop, take-append-drop, length-append, length-take, length-drop}
use lib.Seq.{take-nil, take-take, take-suc, take_at, drop-drop, take-add, get_or-take, get_or-drop}
use borrow.Author.Tests.{ltb-true, lt-ltb}
use Rattle.sheets.specs.Rule.{passes, Meets}
use Rattle.sheets.specs.Bytes.{Bytes, same}
use Rattle.sheets.specs.Answer.{Answer, refused, given, ◌>>=◌}
use Rattle.sheets.specs.Number.{decimal, read_number}
use Rattle.sheets.specs.Text.{hex}
use Rattle.sheets.specs.Sheet.{ended}
use Rattle.sheets.specs.Field.{Info, Scalar, leaf, scalar, has_unit, is_leaf, scalar_rule}
use Rattle.sheets.specs.FieldSheet.{Columns, Shape, of_scalar, columns, info_columns, field_line, line_of, Entry}
use Rattle.sheets.specs.FieldTrees.{own_rule, read_head, place_head, entry_head, fields}
use Rattle.sheets.specs.TreeWalks.{LineAt}
use Rattle.sheets.proofs.Tests.{not_some, same_some, passing, meets, and_left, and_right, first_gave}
use Rattle.sheets.proofs.BytesLaws.{same_refl, same_eq}
use Rattle.sheets.proofs.InverseLaws.{number_read}
use Rattle.sheets.proofs.FieldSheetLaws.{type_entries, type_ends}
use Rattle.sheets.proofs.FieldTrees.{fields_lawful}
use Rattle.sheets.proofs.Utf8Laws.{ascii_utf8}
use Rattle.sheets.specs.Metadata.{little_value}
use Rattle.hexadecimal.proofs.PartLaws.{length_hex}
use Rattle.words.specs.Words.{WordAt}
use Rattle.words.proofs.WordLaws.{word_is}
use Rattle.columns.specs.Columns.{part}
use Rattle.columns.specs.Pairs.{pairs_from}
use Rattle.columns.proofs.PairsLaws.{Plain, plain, pairs_are, pairs_two, part_append}
use Rattle.field_leaf.specs.LeafText.{unused_text, head_text, tail_text, short_text}
use Rattle.field_leaf.specs.FieldLeaves.{is_short, short_kind, kind_of, kind_end, nullable_at, leaf_rule, Told, leaf_from, field_leaf_in, leaf_info, leaf_line, FieldLeafAt}
use Rattle.field_leaf.proofs.KindLaws.{end_near}

-- ── a part of a part

drop_take : (i n : ℕ) (l : Bytes) → drop i (take (i + n) l) ≡ take n (drop i l)
drop_take zero n l = ap (λ (k : ℕ). take k l) (zero-add n)
drop_take (suc i) n [] = ap (drop (suc i)) (take-nil (suc i + n)) ∙ sym (take-nil n)
drop_take (suc i) n (x ∷ l) = ap (λ (k : ℕ). drop (suc i) (take k (x ∷ l))) (suc-add i n) ∙ drop_take i n l

-- m bytes from the i-th on of the n bytes t that stand at a
within : (s : Bytes) (a n : ℕ) (t : Bytes) → take n (drop a s) ≡ t → (i m : ℕ) → i + m ≤ n → take m (drop (a + i) s) ≡ take m (drop i t)
within s a n t e i m h =
    let j : i + (n - i) ≡ n = omega arith in
    ap (take m) (sym (drop-drop i a s)) ∙ sym (take-take m (n - i) (drop i (drop a s)) (omega arith))
    ∙ ap (take m) (sym (drop_take i (n - i) (drop a s)) ∙ ap (λ (k : ℕ). drop i (take k (drop a s))) j ∙ ap (drop i) e)

-- ── what the rule tells of the bytes

-- ` 0 0 ~ ~`, ` 0 ~`, and `~ 0` with byte 10, each as one number
abbrev pub after_kind : ℕ
after_kind = 0x7e207e2030203020

abbrev pub not_nullable : ℕ
not_nullable = 0x7e203020

abbrev pub line_ends : ℕ
line_ends = 0x0a30207e

pub record Kept (s : Bytes) (k e : ℕ) : Type 0 where
  pub unused : part s k (k + 9) ≡ unused_text
  pub long : k + 9 < e
  pub flag : nullable_at s e < 2
  pub tail : part s e (e + 7) ≡ tail_text (nullable_at s e) 0

module _ (s : Bytes) (k e : ℕ) where
  kept : Meets (leaf_rule s k e) → Kept s k e
  kept m =
      record {
        unused = same_eq (part s k (k + 9)) unused_text m.0;
        long = ltb-true (k + 9) e m.1.0;
        flag = ltb-true (nullable_at s e) 2 m.1.1.0;
        tail = same_eq (part s e (e + 7)) (tail_text (nullable_at s e) 0) m.1.1.1;
      }

  keeps : Kept s k e → Meets (leaf_rule s k e)
  keeps h = (
    ap (λ (b : Bytes). same b unused_text) h.unused ∙ same_refl unused_text,
    (
      lt-ltb (k + 9) e h.long,
      (
        lt-ltb (nullable_at s e) 2 h.flag,
        ap (λ (b : Bytes). same b (tail_text (nullable_at s e) 0)) h.tail ∙ same_refl (tail_text (nullable_at s e) 0),
      ),
    ),
  )

module _ {s : Bytes} {k e : ℕ} (h : Kept s k e) where
  pub kept_high : e + 7 ≤ length s
  unfolding tail_text
  kept_high = omega (arith, ap length h.tail, length-take (e + 7 - e) (drop e s), length-drop e s)

  nine : take 9 (drop k s) ≡ unused_text
  nine = let n : 9 ≡ k + 9 - k = omega arith in ap (λ (i : ℕ). take i (drop k s)) n ∙ h.unused

  seven : take 7 (drop e s) ≡ tail_text (nullable_at s e) 0
  seven = let n : 7 ≡ e + 7 - e = omega arith in ap (λ (i : ℕ). take i (drop e s)) n ∙ h.tail

  pub kept_kind : {w : ℕ} → WordAt 8 s k w → w ≡ after_kind
  unfolding unused_text
  kept_kind {w} a =
      let z : k + 0 ≡ k = omega arith in
      a.is ∙ ap (λ (i : ℕ). little_value (take 8 (drop i s))) (sym z) ∙ ap little_value (within s k 9 unused_text nine 0 8 (omega arith))

  pub kept_space : get_or s (k + 8) 0 ≡ 32
  unfolding unused_text
  kept_space = sym (get_or-drop k s 8 0) ∙ sym (get_or-take 9 (drop k s) 8 0 (omega arith)) ∙ ap (λ (b : Bytes). get_or b 8 0) nine

  pub kept_end : {w : ℕ} → WordAt 4 s (e + 3) w → w ≡ line_ends
  unfolding tail_text
  kept_end {w} a = a.is ∙ ap little_value (within s e 7 (tail_text (nullable_at s e) 0) seven 3 4 (omega arith))

  pub kept_flag : {w : ℕ} → WordAt 4 s e w → w ≡ not_nullable + 256 * nullable_at s e
  unfolding tail_text
  kept_flag {w} a =
      let z : e + 0 ≡ e = omega arith in
      let t = tail_text (nullable_at s e) 0 in
      omega (arith, a.is ∙ ap (λ (i : ℕ). little_value (take 4 (drop i s))) (sym z) ∙ ap little_value (within s e 7 t seven 0 4 (omega arith)))

-- the words are these
module _ (s : Bytes) (k e n w v u : ℕ) where
  unused_there : k + 9 ≤ length s → WordAt 8 s k w → w ≡ after_kind → get_or s (k + 8) 0 ≡ 32 → part s k (k + 9) ≡ unused_text
  unfolding unused_text
  unused_there high a is space =
      let t : Bytes = 32 ∷ 48 ∷ 32 ∷ 48 ∷ 32 ∷ 126 ∷ 32 ∷ 126 ∷ [] in
      let m : k + 9 - k ≡ suc 8 = omega arith in
      ap (λ (i : ℕ). take i (drop k s)) m
      ∙ take-suc (drop k s) 8 0 (omega (arith, length-drop k s))
      ∙ ap₂ (λ (b : Bytes) (x : ℕ). b ++ (x ∷ [])) (word_is a (omega arith) t refl (refl, (refl, (refl, (refl, (refl, (refl, (refl, (refl, refl)))))))) (sym is)) (get_or-drop k s 8 0 ∙ space)

  module _ (high : e + 7 ≤ length s) (a : WordAt 4 s e v) (is-flag : v ≡ not_nullable + 256 * n) (small : n < 2) where
    four : take 4 (drop e s) ≡ 32 ∷ (48 + n) ∷ 32 ∷ 126 ∷ []
    four = word_is a (omega arith) (32 ∷ (48 + n) ∷ 32 ∷ 126 ∷ []) refl (refl, (lt-ltb (48 + n) 256 (omega arith), (refl, (refl, refl)))) (omega arith)

    pub flag_there : nullable_at s e ≡ n
    flag_there =
        let b : get_or s (e + 1) 0 ≡ 48 + n = sym (get_or-drop e s 1 0) ∙ sym (get_or-take 4 (drop e s) 1 0 (omega arith)) ∙ ap (λ (l : Bytes). get_or l 1 0) four in
        omega arith

    tail_there : WordAt 4 s (e + 3) u → u ≡ line_ends → part s e (e + 7) ≡ tail_text n 0
    unfolding tail_text
    tail_there b is =
        let m : e + 7 - e ≡ 3 + 4 = omega arith in
        let z : e + 0 ≡ e = omega arith in
        let last : take 4 (drop (e + 3) s) ≡ 126 ∷ 32 ∷ 48 ∷ 10 ∷ [] = word_is b (omega arith) (126 ∷ 32 ∷ 48 ∷ 10 ∷ []) refl (refl, (refl, (refl, (refl, refl)))) (sym is) in
        let first : take 3 (drop e s) ≡ 32 ∷ (48 + n) ∷ 32 ∷ [] = ap (λ (i : ℕ). take 3 (drop i s)) (sym z) ∙ within s e 4 (32 ∷ (48 + n) ∷ 32 ∷ 126 ∷ []) four 0 3 (omega arith) in
        ap (λ (i : ℕ). take i (drop e s)) m ∙ take-add 3 4 (drop e s) ∙ ap₂ (λ (x y : Bytes). x ++ take 4 y) first (drop-drop 3 e s)
        ∙ ap (λ (y : Bytes). 32 ∷ (48 + n) ∷ 32 ∷ y) last

    pub kept_there : k + 9 ≤ length s → WordAt 8 s k w → w ≡ after_kind → get_or s (k + 8) 0 ≡ 32 → k + 9 < e → WordAt 4 s (e + 3) u → u ≡ line_ends → Kept s k e
    kept_there there c is-kind space long b is_end =
        record {
          unused = unused_there there c is-kind space;
          long = long;
          flag = omega (arith, flag_there);
          tail = tail_there b is_end ∙ ap (λ (i : ℕ). tail_text i 0) (sym flag_there);
        }

-- ── where no such line stands, and where one does

abbrev told : Bytes → ℕ → ℕ → ℕ → Told
told s kind k e = (kind, (k + 9, (e, nullable_at s e)))

module _ (s : Bytes) (at k e : ℕ) (is-k : k ≡ kind_end s at) (is_end : e ≡ pairs_from s (k + 9)) where
  leaf_is : leaf_from s k e (kind_of (part s at k)) ≡ field_leaf_in s at
  unfolding field_leaf_in
  leaf_is = ap (λ (i : ℕ). leaf_from s k i (kind_of (part s at k))) is_end ∙ ap (λ (i : ℕ). leaf_from s i (pairs_from s (i + 9)) (kind_of (part s at i))) is-k

  from_none : (Kept s k e → ⊥) → (o : Option ℕ) → leaf_from s k e o ≡ None
  from_none h None = refl
  from_none h (Some kind) = pick (passes (leaf_rule s k e)) refl
    where
      pick : (t : Bool) → passes (leaf_rule s k e) ≡ t → cond t (Some (told s kind k e)) None ≡ None
      pick true q = absurd (h (kept s k e (meets (leaf_rule s k e) q)))
      pick false q = refl

  pub leaf_none : (Kept s k e → ⊥) → None ≡ field_leaf_in s at
  leaf_none h = sym (from_none h (kind_of (part s at k))) ∙ leaf_is

  pub leaf_some : (kind n : ℕ) → kind_of (part s at k) ≡ Some kind → Kept s k e → nullable_at s e ≡ n → Some (kind, (k + 9, (e, n))) ≡ field_leaf_in s at
  leaf_some kind n o h f =
      (λ i. Some (kind, (k + 9, (e, sym f i))))
      ∙ ap (λ (t : Bool). cond t (Some (told s kind k e)) None) (sym (passing (leaf_rule s k e) (keeps s k e h)))
      ∙ ap (leaf_from s k e) (sym o)
      ∙ leaf_is

module _ (s : Bytes) (at : ℕ) where
  pub leaf_other : kind_of (part s at (kind_end s at)) ≡ None → None ≡ field_leaf_in s at
  unfolding field_leaf_in
  leaf_other h = sym (ap (leaf_from s (kind_end s at) (pairs_from s (kind_end s at + 9))) h)

  -- a name has a pair of digits or more
  pub leaf_short : length s < at + 19 → None ≡ field_leaf_in s at
  leaf_short h =
      leaf_none s at (kind_end s at) (pairs_from s (kind_end s at + 9)) refl refl
      (λ k. omega (arith, kept_high k, pairs_two s (kind_end s at + 9) k.long, (end_near s at).0))

-- ── the line as it is written

-- the line of a leaf, if it had children
count_text : (kind : ℕ) (b : Bytes) (n c : ℕ) → 0 < length b → n < 2
    → (head_text kind ++ hex b) ++ (32 ∷ (48 + n) ∷ 32 ∷ 126 ∷ 32 ∷ (decimal c ++ (10 ∷ []))) ≡ ended (field_line.write (line_of (of_scalar (leaf kind 0)) (Some (leaf_info b n)) c) ∷ [])
unfolding unused_text head_text decimal
count_text kind [] n c h l = absurd (omega arith)
count_text kind (x ∷ b) zero c h l = simp append_assoc
count_text kind (x ∷ b) (suc zero) c h l = simp append_assoc
count_text kind (x ∷ b) (suc (suc n)) c h l = absurd (omega arith)

-- of any type that its kind alone tells, with one digit of children
pub short_text_lem : (x : Shape) (kind : ℕ) → columns x ≡ columns (of_scalar (leaf kind 0)) → (b : Bytes) (n c : ℕ) → decimal c ≡ (48 + c) ∷ [] → 0 < length b → n < 2
    → short_text kind (hex b) n c ≡ ended (field_line.write (line_of x (Some (leaf_info b n)) c) ∷ [])
unfolding tail_text
short_text_lem x kind e b n c d h l =
    let own = info_columns (Some (leaf_info b n)) in
    ap (λ (t : Bytes). (head_text kind ++ hex b) ++ (32 ∷ (48 + n) ∷ 32 ∷ 126 ∷ 32 ∷ (t ++ (10 ∷ [])))) (sym d)
    ∙ count_text kind b n c h l
    ∙ ap (λ (k : Columns). ended (field_line.write (k.kind, (k.p, (k.q, (k.text, (k.more, (own.0, (own.1.0, (own.1.1, (c, tt))))))))) ∷ [])) (sym e)

-- of a leaf
pub line_text_lem : (kind : ℕ) (b : Bytes) (n : ℕ) → 0 < length b → n < 2 → short_text kind (hex b) n 0 ≡ ended (leaf_line kind b n ∷ [])
unfolding decimal
line_text_lem kind b n h l = short_text_lem (of_scalar (leaf kind 0)) kind refl b n 0 refl h l

-- a line that a scalar is written as reads as that
head_read : (t : Scalar) (i : Option Info) → Meets (own_rule i) → Meets (scalar_rule t) → read_head (field_line.write (line_of (of_scalar t) i 0)) ≡ given (entry_head (i, scalar t))
head_read t i own rule =
    let b = field_line.write (line_of (of_scalar t) i 0) in
    let q = first_gave (read_head b) (λ x. place_head x []) ((i, scalar t) ∷ []) (sym (fields_lawful.next b []) ∙ type_entries (scalar t) i [] [] own rule refl) in
    let p = fields_lawful.placed q.0 [] ((i, scalar t) ∷ []) q.2 in
    q.1 ∙ ap given (sym p.4 ∙ ap entry_head (sym (first (i, scalar t) p.0 p.1 p.2)))
  where
    first : (a c : Entry) (l : List Entry) → a ∷ [] ≡ c ∷ l → a ≡ c
    first a c l e = cc

-- ── what `field_leaf_in` tells

kind_told : (t : Bytes) (kind : ℕ) → kind_of t ≡ Some kind → (t ≡ decimal kind) × (is_short kind ≡ true)
kind_told t kind h = go (read_number t) refl h
  where
    go : (a : Answer ℕ) → read_number t ≡ a → short_kind a ≡ Some kind → (t ≡ decimal kind) × (is_short kind ≡ true)
    go (refused r) q f = not_some f
    go (given n) q f = pick (is_short n) refl f
      where
        pick : (u : Bool) → is_short n ≡ u → cond u (Some n) None ≡ Some kind → (t ≡ decimal kind) × (is_short kind ≡ true)
        pick true p g = let e = same_some g in (sym (number_read t n q) ∙ ap decimal e, ap is_short (sym e) ∙ p)
        pick false p g = not_some g

-- a kind that has no unit is a type with `p` 0
short_rule_lem : (kind : ℕ) → is_short kind ≡ true → Meets (scalar_rule (leaf kind 0))
short_rule_lem kind h = (and_left (is_leaf kind) (not (has_unit kind)) h, unit (has_unit kind))
  where
    unit : (t : Bool) → cond t (ltb 0 4) (eqb 0 0) ≡ true
    unit true = refl
    unit false = refl

module _ (s : Bytes) (at kind k e : ℕ) (digits : part s at k ≡ decimal kind) (short : is_short kind ≡ true) (h : Kept s k e) (low : at + 1 ≤ k) (near : k ≤ at + 2) where
  module _ (p : Plain (part s (k + 9) e)) where
    some_byte : 0 < length p.bytes
    some_byte = omega (arith, h.long, kept_high h, ap length p.is, length_hex p.bytes, length-take (e - (k + 9)) (drop (k + 9) s), length-drop (k + 9) s)

    whole : part s at (e + 7) ≡ short_text kind (hex p.bytes) (nullable_at s e) 0
    unfolding head_text
    whole =
        part_append s at e (e + 7) (omega (arith, h.long)) (omega arith)
        ∙ ap₂ ◌++◌ (part_append s at (k + 9) e (omega arith) (omega (arith, h.long)) ∙ ap₂ ◌++◌ (part_append s at k (k + 9) (omega arith) (omega arith) ∙ ap₂ ◌++◌ digits h.unused) p.is) h.tail

    abbrev text : Bytes
    text = leaf_line kind p.bytes (nullable_at s e)

    stands : drop at s ≡ text ++ (10 ∷ drop (e + 7) s)
    stands =
        let n : at + (e + 7 - at) ≡ e + 7 = omega (arith, h.long) in
        sym (take-append-drop (e + 7 - at) (drop at s))
        ∙ ap₂ ◌++◌ (whole ∙ line_text_lem kind p.bytes (nullable_at s e) some_byte h.flag) (drop-drop (e + 7 - at) at s ∙ ap (λ (i : ℕ). drop i s) n)
        ∙ append_assoc text (10 ∷ []) (drop (e + 7) s)

    leaf_plain : FieldLeafAt s at kind (k + 9) e (nullable_at s e)
    leaf_plain =
        let utf8 = ascii_utf8 p.bytes p.ascii in
        let info = leaf_info p.bytes (nullable_at s e) in
        let rule = short_rule_lem kind short in
        record {
          bytes = p.bytes;
          line =
              record {
                bytes = text;
                is = stands;
                free = (type_ends (scalar (leaf kind 0)) (Some info) (utf8, refl) rule).0;
                reads = head_read (leaf kind 0) (Some info) (utf8, refl) rule;
                counts = refl;
                own = ((utf8, refl), rule);
                low = omega (arith, h.long);
                high = kept_high h;
              };
          text = refl;
          short = short;
          name = p.is;
          some = some_byte;
          ascii = p.ascii;
          utf8 = utf8;
          nonzero = p.some;
          flag = h.flag;
          begins = omega arith;
          near = omega arith;
          long = h.long;
          high = kept_high h;
        }

pub leaf_told : (s : Bytes) (at : ℕ) {kind from e nullable : ℕ} → field_leaf_in s at ≡ Some (kind, (from, (e, nullable))) → FieldLeafAt s at kind from e nullable
unfolding field_leaf_in
leaf_told s at {kind} {from} {e} {nullable} h = go (kind_of (part s at k)) refl h
  where
    k : ℕ
    k = kind_end s at

    end : ℕ
    end = pairs_from s (k + 9)

    go : (o : Option ℕ) → kind_of (part s at k) ≡ o → leaf_from s k end o ≡ Some (kind, (from, (e, nullable))) → FieldLeafAt s at kind from e nullable
    go None q f = not_some f
    go (Some n) q f = pick (passes (leaf_rule s k end)) refl f
      where
        pick : (t : Bool) → passes (leaf_rule s k end) ≡ t → cond t (Some (told s n k end)) None ≡ Some (kind, (from, (e, nullable))) → FieldLeafAt s at kind from e nullable
        pick true p g =
            let d = kind_told (part s at k) n q in
            subst (λ (t : Told). FieldLeafAt s at t.0 t.1.0 t.1.1.0 t.1.1.1) (same_some g)
            (leaf_plain s at n k end d.0 d.1 (kept s k end (meets (leaf_rule s k end) p)) (end_near s at).0 (end_near s at).1 (plain (part s (k + 9) end) (pairs_are s (k + 9) end refl)))
        pick false p g = not_some g

-- ── what the line is

module _ {s : Bytes} {at kind from e nullable : ℕ} (k : FieldLeafAt s at kind from e nullable) where
  pub name_size : length (part s from e) ≡ e - from
  name_size = length-take (e - from) (drop from s) ∙ omega (arith, length-drop from s, k.high, k.long)

  -- its bytes, with the byte that ends it
  pub leaf_part : part s at (e + 7) ≡ ended (leaf_line kind k.bytes nullable ∷ [])
  leaf_part =
      let n : length (ended (leaf_line kind k.bytes nullable ∷ [])) ≡ e + 7 - at = size in
      ap (take (e + 7 - at)) (here ∙ sym (append_assoc (leaf_line kind k.bytes nullable) (10 ∷ []) (drop (e + 7) s)))
      ∙ take_at (ended (leaf_line kind k.bytes nullable ∷ [])) (drop (e + 7) s) (e + 7 - at) n
    where
      here : drop at s ≡ leaf_line kind k.bytes nullable ++ (10 ∷ drop (e + 7) s)
      here = k.line.is ∙ ap (λ (b : Bytes). b ++ (10 ∷ drop (e + 7) s)) k.text

      size : length (ended (leaf_line kind k.bytes nullable ∷ [])) ≡ e + 7 - at
      size =
          let line = leaf_line kind k.bytes nullable in
          omega (arith, ap length here, length-append line (10 ∷ drop (e + 7) s), length-append line (10 ∷ []), length-drop at s, length-drop (e + 7) s, k.high, k.long, k.begins)
