-- The metadata block read back as the pairs and the extension it was written from, in the order that it was written in: one proof for both orders, which
-- differ in the laws of a word alone. Assumes nothing.
use mathlib.Core.Path.{◌≡◌, refl, sym, ◌∙◌, ap}
use mathlib.Core.Bool.{Bool, true, false, cond}
use mathlib.Core.List.{List, [], ◌∷◌, ◌++◌, append_assoc, append-nil}
use Rattle.std.specs.Prelude.{Option, None, Some}
use Prim.Native.Nat.{ℕ, zero, suc, ◌+◌, ◌/◌, ◌%◌, ◌^◌, ◌<◌, ◌≤◌}
use native.Mathlib.Omega.{arith}
use native.Mathlib.Nat.{div-add-mod, div-lt_iff_lt-mul, pow-suc}
use lib.Dec.{ltb}
use lib.ListN.{length, length-append}
use borrow.Author.Tests.{ltb-true, lt-ltb, not-true}
use Rattle.sheets.specs.Rule.{Rule, is, ◌and◌, each, Meets}
use Rattle.sheets.specs.Bytes.{Bytes, same, all, is_byte}
use Rattle.sheets.specs.Answer.{Answer, given, ◌>>=◌}
use Rattle.sheets.specs.Text.{hex, write_text}
use Rattle.sheets.specs.Utf8.{is_utf8}
use Rattle.sheets.specs.Field.{Pair, before, first_after, pairs_rule, metadata_rule, text_rule}
use Rattle.sheets.specs.Plain.{plain_pairs}
use Rattle.sheets.specs.Strict.{no_reserved}
use Rattle.sheets.specs.Metadata.{little, little_value, word32, value32, cut_at, take_text, take_pairs, read_block, write_text32, write_pairs, metadata_to_bytes, name_key, metadata_key, reserved, Extension, insert_new, insert_over, ordinary, or_else, value_of, some_pairs, meaning, metadata_from_bytes, or_none, with_metadata, block_of, schema_metadata}
use Rattle.sheets.proofs.BytesLaws.{same_eq, same_refl}

-- ── numbers in bytes, at every width

pub little_value_lem : (k n : ℕ) → n < 256 ^ k → little_value (little k n) ≡ n
little_value_lem zero n h = omega arith
little_value_lem (suc k) n h =
    let next : n / 256 < 256 ^ k = (div-lt_iff_lt-mul {k = 256} {x = n} {y = 256 ^ k} (omega arith)).1 (rw pow-suc at h) in
    rw (little_value_lem k (n / 256) next) (omega (arith, div-add-mod n 256))

low_byte : (n : ℕ) → is_byte (n % 256) ≡ true
low_byte n = lt-ltb (n % 256) 256 (omega arith)

cut_length : (a b : Bytes) → cut_at (length a) (a ++ b) ≡ given (a, b)
cut_length [] b = refl
cut_length (x ∷ a) b = rw (cut_length a b)

-- ── a word, in either order

pub word_length : (big : Bool) (n : ℕ) → length (word32 big n) ≡ 4
word_length true n = refl
word_length false n = refl

pub word_bytes : (big : Bool) (n : ℕ) → Meets (all is_byte (word32 big n))
word_bytes true n = search low_byte
word_bytes false n = search low_byte

-- a number of 32 bits is read back
pub word_value : (big : Bool) (n : ℕ) → n < 2 ^ 32 → value32 big (word32 big n) ≡ n
word_value true n h = little_value_lem 4 n h
word_value false n h = little_value_lem 4 n h

-- the column of a block that begins with a word is its hexadecimal text: it is not empty
pub word_text : (big : Bool) (n : ℕ) (r : Bytes) → write_text (Some (word32 big n ++ r)) ≡ hex (word32 big n ++ r)
word_text true n r = refl
word_text false n r = refl

cut_word : (big : Bool) (n : ℕ) (r : Bytes) → cut_at 4 (word32 big n ++ r) ≡ given (word32 big n, r)
cut_word true n r = refl
cut_word false n r = refl

-- ── the block

-- a text that a length of 32 bits counts
abbrev short_text : Bytes → Rule
short_text t = is (ltb (length t) (2 ^ 31))

abbrev short_pair : Pair → Rule
short_pair p = short_text p.0 and short_text p.1

abbrev pub text_pair : Pair → Rule
text_pair p = is (is_utf8 p.0) and is (is_utf8 p.1)

module _ (big : Bool) where
  take_text_lem : (t r : Bytes) → is_utf8 t ≡ true → Meets (short_text t) → take_text big (write_text32 big t ++ r) ≡ given (t, r)
  take_text_lem t r u h =
      rw (append_assoc (word32 big (length t)) t r, cut_word big (length t) (t ++ r), word_value big (length t) (omega (arith, ltb-true (length t) (2 ^ 31) h)), h, cut_length t r, u)

  -- a key and a value are taken off what stands before other bytes
  take_pair : (n : ℕ) (p : Pair) (r : Bytes) → Meets (text_pair p) → Meets (short_pair p) → take_pairs big (suc n) (write_text32 big p.0 ++ (write_text32 big p.1 ++ r)) ≡ (take_pairs big n r >>= λ ps. given (p ∷ ps))
  take_pair n p r u h = rw (take_text_lem p.0 (write_text32 big p.1 ++ r) u.0 h.0, take_text_lem p.1 r u.1 h.1)

  -- "Bytes past the last pair are ignored"
  take_pairs_lem : (ps : List Pair) (past : Bytes) → Meets (each text_pair ps) → Meets (each short_pair ps) → take_pairs big (length ps) (write_pairs big ps ++ past) ≡ given ps
  take_pairs_lem [] past u h = refl
  take_pairs_lem (p ∷ ps) past u h =
      let bytes : write_pairs big (p ∷ ps) ++ past ≡ write_text32 big p.0 ++ (write_text32 big p.1 ++ (write_pairs big ps ++ past)) =
      append_assoc (write_text32 big p.0) (write_text32 big p.1 ++ write_pairs big ps) past ∙ ap (λ (r : Bytes). write_text32 big p.0 ++ r) (append_assoc (write_text32 big p.1) (write_pairs big ps) past) in
      ap (take_pairs big (suc (length ps))) bytes ∙ take_pair (length ps) p (write_pairs big ps ++ past) u.0 h.0 ∙ ap (λ (a : Answer (List Pair)). a >>= λ qs. given (p ∷ qs)) (take_pairs_lem ps past u.1 h.1)

  -- a block that is short has short texts and few of them
  pub pairs_length_lem : (p : Pair) (ps : List Pair) → length (write_pairs big (p ∷ ps)) ≡ 4 + length p.0 + (4 + length p.1 + length (write_pairs big ps))
  pairs_length_lem p ps = simp (length-append, word_length big)

  short_pairs : (ps : List Pair) → length (write_pairs big ps) < 2 ^ 31 → Meets (each short_pair ps) × (length ps ≤ length (write_pairs big ps))
  short_pairs [] h = (refl, omega arith)
  short_pairs (p ∷ ps) h =
      let n : length (write_pairs big (p ∷ ps)) ≡ 4 + length p.0 + (4 + length p.1 + length (write_pairs big ps)) = pairs_length_lem p ps in
      let rest = short_pairs ps (omega arith) in
      (((lt-ltb (length p.0) (2 ^ 31) (omega arith), lt-ltb (length p.1) (2 ^ 31) (omega arith)), rest.0), omega (arith, rest.1))

  pub block_length : (ps : List Pair) → length (metadata_to_bytes big ps) ≡ 4 + length (write_pairs big ps)
  block_length ps = simp (length-append, word_length big)

  pub read_past : (ps : List Pair) (past : Bytes) → Meets (each text_pair ps) → length (metadata_to_bytes big ps) < 2 ^ 31 → read_block big (metadata_to_bytes big ps ++ past) ≡ given ps
  read_past ps past u h =
      let n : length (metadata_to_bytes big ps) ≡ 4 + length (write_pairs big ps) = block_length ps in
      let l = short_pairs ps (omega arith) in
      let few : length ps < 2 ^ 31 = omega (arith, l.1) in
      rw (
        append_assoc (word32 big (length ps)) (write_pairs big ps) past,
        cut_word big (length ps) (write_pairs big ps ++ past),
        word_value big (length ps) (omega arith),
        lt-ltb (length ps) (2 ^ 31) few,
        take_pairs_lem ps past u l.0,
      )

  pub read_block_lem : (ps : List Pair) → Meets (each text_pair ps) → length (metadata_to_bytes big ps) < 2 ^ 31 → read_block big (metadata_to_bytes big ps) ≡ given ps
  read_block_lem ps u h = ap (read_block big) (sym (append-nil (metadata_to_bytes big ps))) ∙ read_past ps [] u h

-- ── pairs and reserved keys

insert_first : (p : Pair) (ps : List Pair) → first_after p.0 ps ≡ true → insert_new p ps ≡ p ∷ ps
insert_first p [] h = refl
insert_first p (q ∷ ps) h = rw h

ordinary_same : (ps : List Pair) → Meets (pairs_rule ps) → Meets (no_reserved ps) → ordinary ps ≡ ps
ordinary_same [] h k = refl
ordinary_same (p ∷ ps) h k = rw (not-true (reserved p.0) k.0, ordinary_same ps h.1.1.1 k.1) (insert_first p ps h.1.1.0)

-- a reserved pair that is put in is left out again
ordinary_insert : (p : Pair) → reserved p.0 ≡ true → (ps : List Pair) → ordinary (insert_over p ps) ≡ ordinary ps
ordinary_insert p r [] = rw r
ordinary_insert p r (q ∷ qs) = pick (before p.0 q.0) (same p.0 q.0) refl (ordinary_insert p r qs)
  where
    pick : (b s : Bool) → same p.0 q.0 ≡ s → ordinary (insert_over p qs) ≡ ordinary qs
        → ordinary (cond b (p ∷ q ∷ qs) (cond s (p ∷ qs) (q ∷ insert_over p qs))) ≡ ordinary (q ∷ qs)
    pick true s e next = rw r
    pick false true e next = rw (r, ← (same_eq p.0 q.0 e), r)
    pick false false e next = rw next

value_none : (k : Bytes) → reserved k ≡ true → (ps : List Pair) → Meets (no_reserved ps) → value_of k ps ≡ None
value_none k r [] h = refl
value_none k r (p ∷ ps) h = rw (value_none k r ps h.1, other (same p.0 k) refl)
  where
    other : (t : Bool) → same p.0 k ≡ t → t ≡ false
    other true e = sym r ∙ ap reserved (sym (same_eq p.0 k e)) ∙ not-true (reserved p.0) h.0
    other false e = refl

pub or_none_lem : (x : Option Bytes) → or_else x None ≡ x
or_none_lem None = refl
or_none_lem (Some x) = refl

none_left : (x y : Option Bytes) → or_else x y ≡ None → x ≡ None
none_left None y h = refl
none_left (Some x) y h = h

value_same : (p : Pair) (ps : List Pair) → value_of p.0 ps ≡ None → value_of p.0 (insert_over p ps) ≡ Some p.1
value_same p [] h = rw (same_refl p.0)
value_same p (q ∷ qs) h = pick (before p.0 q.0) (same p.0 q.0) (value_same p qs rest)
  where
    rest : value_of p.0 qs ≡ None
    rest = none_left (value_of p.0 qs) (cond (same q.0 p.0) (Some q.1) None) h

    pick : (b s : Bool) → value_of p.0 (insert_over p qs) ≡ Some p.1
        → value_of p.0 (cond b (p ∷ q ∷ qs) (cond s (p ∷ qs) (q ∷ insert_over p qs))) ≡ Some p.1
    pick true s next = rw (h, same_refl p.0)
    pick false true next = rw (rest, same_refl p.0)
    pick false false next = rw next

value_other : (k : Bytes) (p : Pair) → same p.0 k ≡ false → (ps : List Pair) → value_of k (insert_over p ps) ≡ value_of k ps
value_other k p d [] = rw d
value_other k p d (q ∷ qs) = pick (before p.0 q.0) (same p.0 q.0) refl (value_other k p d qs)
  where
    pick : (b s : Bool) → same p.0 q.0 ≡ s → value_of k (insert_over p qs) ≡ value_of k qs
        → value_of k (cond b (p ∷ q ∷ qs) (cond s (p ∷ qs) (q ∷ insert_over p qs))) ≡ value_of k (q ∷ qs)
    pick true s e next = rw d (or_none_lem (value_of k (q ∷ qs)))
    pick false true e next = rw (d, ← (same_eq p.0 q.0 e), d)
    pick false false e next = rw next

-- ── the whole

some_plain : (ps : Option (List Pair)) → some_pairs (or_none ps) ≡ plain_pairs ps
some_plain None = refl
some_plain (Some []) = refl
some_plain (Some (p ∷ ps)) = refl

abbrev pub extension_rule : Option Extension → Rule
extension_rule None = is true
extension_rule (Some e) = is (is_utf8 e.0) and text_rule e.1

insert_text : (p : Pair) → Meets (text_pair p) → (ps : List Pair) → Meets (each text_pair ps) → Meets (each text_pair (insert_over p ps))
insert_text p h [] k = (h, refl)
insert_text p h (q ∷ qs) k = pick (before p.0 q.0) (same p.0 q.0) (insert_text p h qs k.1)
  where
    pick : (b s : Bool) → Meets (each text_pair (insert_over p qs)) → Meets (each text_pair (cond b (p ∷ q ∷ qs) (cond s (p ∷ qs) (q ∷ insert_over p qs))))
    pick true s next = (h, k)
    pick false true next = (h, k.1)
    pick false false next = (k.0, next)

with_text : (m : Option Bytes) (ps : List Pair) → Meets (text_rule m) → Meets (each text_pair ps) → Meets (each text_pair (with_metadata m ps))
with_text None ps h k = k
with_text (Some m) ps h k = insert_text (metadata_key, m) (refl, h) ps k

pub all_text : (e : Extension) (ps : List Pair) → Meets (extension_rule (Some e)) → Meets (each text_pair ps) → Meets (each text_pair (insert_over (name_key, e.0) (with_metadata e.1 ps)))
all_text e ps h k = insert_text (name_key, e.0) (refl, h.0) (with_metadata e.1 ps) (with_text e.1 ps h.1 k)

pub pairs_text_lem : (ps : List Pair) → Meets (pairs_rule ps) → Meets (each text_pair ps)
pairs_text_lem [] h = refl
pairs_text_lem (p ∷ ps) h = ((h.0, h.1.0), pairs_text_lem ps h.1.1.1)

with_values : (m : Option Bytes) (n : Bytes) (ps : List Pair) → Meets (no_reserved ps) → meaning (insert_over (name_key, n) (with_metadata m ps)) ≡ (some_pairs (ordinary ps), Some (n, m))
with_values None n ps h =
    rw (ordinary_insert (name_key, n) refl ps, value_same (name_key, n) ps (value_none name_key refl ps h), value_other metadata_key (name_key, n) refl ps, value_none metadata_key refl ps h)
with_values (Some m) n ps h =
    rw (
      ordinary_insert (name_key, n) refl (insert_over (metadata_key, m) ps),
      ordinary_insert (metadata_key, m) refl ps,
      value_same (name_key, n) (insert_over (metadata_key, m) ps) (value_other name_key (metadata_key, m) refl ps ∙ value_none name_key refl ps h),
      value_other metadata_key (name_key, n) refl (insert_over (metadata_key, m) ps),
      value_same (metadata_key, m) ps (value_none metadata_key refl ps h),
    )

none_values : (ps : List Pair) → Meets (no_reserved ps) → meaning ps ≡ (some_pairs (ordinary ps), None)
none_values ps h = rw (value_none name_key refl ps h)

pub pairs_ordered : (ps : Option (List Pair)) → Meets (metadata_rule ps) → Meets (pairs_rule (or_none ps))
pairs_ordered None h = h
pairs_ordered (Some ps) h = h

-- the block, where there is one, has a length that 32 bits count
abbrev pub short_block : Option Bytes → Rule
short_block None = is true
short_block (Some b) = is (ltb (length b) (2 ^ 31))

module _ (big : Bool) where
  read_plain : (ps : List Pair) → Meets (pairs_rule ps) → Meets (no_reserved ps) → Meets (short_block (block_of big ps)) → metadata_from_bytes big (block_of big ps) ≡ given (some_pairs ps, None)
  read_plain [] h k l = refl
  read_plain (p ∷ ps) h k l =
      rw (read_block_lem big (p ∷ ps) (pairs_text_lem (p ∷ ps) h) (ltb-true (length (metadata_to_bytes big (p ∷ ps))) (2 ^ 31) l)) (rw (none_values (p ∷ ps) k, ordinary_same (p ∷ ps) h k))

  pub read_metadata : (ps : Option (List Pair)) (e : Option Extension) → Meets (metadata_rule ps) → Meets (no_reserved (or_none ps)) → Meets (extension_rule e) → Meets (short_block (schema_metadata big ps e))
      → metadata_from_bytes big (schema_metadata big ps e) ≡ given (plain_pairs ps, e)
  read_metadata ps None h k x l = rw (← (some_plain ps)) (read_plain (or_none ps) (pairs_ordered ps h) k l)
  read_metadata ps (Some e) h k x l =
      rw (← (some_plain ps), read_block_lem big (insert_over (name_key, e.0) (with_metadata e.1 (or_none ps))) (all_text e (or_none ps) x (pairs_text_lem (or_none ps) (pairs_ordered ps h))) (ltb-true _ (2 ^ 31) l))
      (rw (with_values e.1 e.0 (or_none ps) k, ordinary_same (or_none ps) (pairs_ordered ps h) k))
