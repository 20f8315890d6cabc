-- The reserved keys merged into the pairs on one walk are the pairs of the schema: insertion goes past the pairs whose keys stand before the key.
-- Assumes nothing.
use mathlib.Core.Path.{◌≡◌, refl, sym, ap, ◌∙◌}
use mathlib.Core.Bool.{Bool, true, false, true≢false}
use mathlib.Core.List.{List, [], ◌∷◌, ◌++◌, append_assoc}
use Rattle.std.specs.Prelude.{Option, None, Some}
use Prim.Native.Nat.{◌+◌}
use Rattle.sheets.specs.Rule.{Meets, each}
use Rattle.sheets.specs.Bytes.{Bytes, is_byte, all, same}
use Rattle.sheets.specs.Text.{hex}
use Rattle.sheets.specs.Field.{Pair, before}
use Rattle.sheets.specs.Metadata.{name_key, metadata_key, insert_over, with_metadata}
use Rattle.sheets.proofs.BytesLaws.{same_eq, same_refl}
use Rattle.sheets.proofs.Utf8Laws.{utf8_bytes}
use Rattle.sheets.proofs.MetadataLaws.{text_pair}
use Rattle.byte_order.proofs.HexOrderLaws.{before_hex, same_hex}
use Rattle.sheets.proofs.OrderLaws.{before_trans, not_back, not_same, same_back, connected}
use Rattle.field_pairs.proofs.ReservedLaws.{name_bytes, metadata_bytes}
use Rattle.put_metadata.specs.Block.{before_text, from_text, after_text, more_done, more_rest}

-- the pairs before a key, and the key with its value
abbrev pub placed : Bytes → Bytes → List Pair → List Pair
placed k v ps = before_text (hex k) ps ++ ((k, v) ∷ [])

-- the pairs after it
abbrev pub after : Bytes → List Pair → List Pair
after k ps = after_text (hex k) (from_text (hex k) ps)

insert_at : (k v : Bytes) (ps : List Pair) → Meets (all is_byte k) → Meets (each text_pair ps)
    → insert_over (k, v) ps ≡ before_text (hex k) ps ++ ((k, v) ∷ after k ps)
unfolding before_text from_text after_text
insert_at k v [] h r = refl
insert_at k v (q ∷ ps) h r = pick (before q.0 k) refl (insert_at k v ps h r.1)
  where
    key : Meets (all is_byte q.0)
    key = utf8_bytes q.0 r.0.0

    third : (t : Bool) → same k q.0 ≡ t → before q.0 k ≡ false → before k q.0 ≡ false → insert_over (k, v) (q ∷ ps) ≡ before_text (hex k) (q ∷ ps) ++ ((k, v) ∷ after k (q ∷ ps))
    third true g e f =
        let s : same (hex q.0) (hex k) ≡ true = same_hex q.0 k key h ∙ ap (λ (x : Bytes). same x k) (sym (same_eq k q.0 g)) ∙ same_refl k in
        rw (f, g, before_hex q.0 k key h, e, s)
    third false g e f = absurd (true≢false (sym (connected k q.0 f g) ∙ e))

    other : (t : Bool) → before k q.0 ≡ t → before q.0 k ≡ false → insert_over (k, v) (q ∷ ps) ≡ before_text (hex k) (q ∷ ps) ++ ((k, v) ∷ after k (q ∷ ps))
    other true f e =
        let s : same (hex q.0) (hex k) ≡ false = same_hex q.0 k key h ∙ same_back k q.0 (not_same k q.0 f) in
        rw (f, before_hex q.0 k key h, e, s)
    other false f e = third (same k q.0) refl e f

    pick : (t : Bool) → before q.0 k ≡ t → insert_over (k, v) ps ≡ before_text (hex k) ps ++ ((k, v) ∷ after k ps) → insert_over (k, v) (q ∷ ps) ≡ before_text (hex k) (q ∷ ps) ++ ((k, v) ∷ after k (q ∷ ps))
    pick true e next = rw (not_back q.0 k e, same_back q.0 k (not_same q.0 k e), before_hex q.0 k key h, e) (ap (λ (l : List Pair). q ∷ l) next)
    pick false e next = other (before k q.0) refl e

-- insertion, as the walk goes
pub insert_placed : (k v : Bytes) (ps : List Pair) → Meets (all is_byte k) → Meets (each text_pair ps) → insert_over (k, v) ps ≡ placed k v ps ++ after k ps
insert_placed k v ps h r = insert_at k v ps h r ∙ sym (append_assoc (before_text (hex k) ps) ((k, v) ∷ []) (after k ps))

-- each key stands before n
abbrev EachBefore : Bytes → List Pair → Type 0
EachBefore n [] = Unit {0}
EachBefore n (p ∷ ps) = (before p.0 n ≡ true) × EachBefore n ps

insert_past : (n v : Bytes) (xs ys : List Pair) → EachBefore n xs → insert_over (n, v) (xs ++ ys) ≡ xs ++ insert_over (n, v) ys
insert_past n v [] ys h = refl
insert_past n v (x ∷ xs) ys h =
    rw (not_back x.0 n h.0, same_back x.0 n (not_same x.0 n h.0)) (ap (λ (l : List Pair). x ∷ l) (insert_past n v xs ys h.1))

placed_before : (n k v : Bytes) (ps : List Pair) → Meets (all is_byte k) → Meets (each text_pair ps) → before k n ≡ true → EachBefore n (placed k v ps)
unfolding before_text
placed_before n k v [] h r b = (b, tt)
placed_before n k v (q ∷ ps) h r b = pick (before q.0 k) refl (placed_before n k v ps h r.1 b)
  where
    pick : (t : Bool) → before q.0 k ≡ t → EachBefore n (placed k v ps) → EachBefore n (placed k v (q ∷ ps))
    pick true e next = rw (before_hex q.0 k (utf8_bytes q.0 r.0.0) h, e) (before_trans q.0 k n e b, next)
    pick false e next = rw (before_hex q.0 k (utf8_bytes q.0 r.0.0) h, e) (b, tt)

-- the extension's metadata first, its name then: `m` of `metadata` stands before `n` of `name`
pub merged : (n : Bytes) (m : Option Bytes) (ps : List Pair) → Meets (each text_pair ps) → Meets (each text_pair (more_rest m ps))
    → insert_over (name_key, n) (with_metadata m ps) ≡ more_done m ps ++ (placed name_key n (more_rest m ps) ++ after name_key (more_rest m ps))
unfolding more_done more_rest
merged n None ps r s = insert_placed name_key n ps name_bytes r
merged n (Some m) ps r s =
    ap (insert_over (name_key, n)) (insert_placed metadata_key m ps metadata_bytes r)
    ∙ insert_past name_key n (placed metadata_key m ps) (after metadata_key ps) (placed_before name_key metadata_key m ps metadata_bytes r refl)
    ∙ ap (λ (l : List Pair). placed metadata_key m ps ++ l) (insert_placed name_key n (after metadata_key ps) name_bytes s)
