-- Reserved keys in the column `pairs`: a pair has one if its key's digits are those of one, which only keys of 40 and of 48 digits can be; and the keys stand in order, so that none
-- comes after a key that begins with a greater byte than they do. What a field's own column is asked is what `keys_rule` asks of the field. Assumes nothing.
use mathlib.Core.Path.{◌≡◌, refl, sym, ap, ap₂, subst, ◌∙◌}
use mathlib.Core.Bool.{Bool, true, false, ◌&&◌, ◌||◌, not, or-false}
use mathlib.Core.List.{List, [], ◌∷◌}
use Rattle.std.specs.Prelude.{Option, None, Some}
use Prim.Native.Nat.{ℕ, ◌≤◌, ◌<◌}
use native.Mathlib.Omega.{arith}
use lib.ListN.{length, get_or, take, drop}
use lib.Seq.{take_all}
use borrow.Author.Tests.{ltb-true}
use Rattle.sheets.specs.Rule.{Meets, each, passes}
use Rattle.sheets.specs.Bytes.{Bytes, is_byte, all, same}
use Rattle.sheets.specs.Text.{hex}
use Rattle.sheets.specs.Field.{Pair, Info, before, first_after, pairs_rule}
use Rattle.sheets.specs.FieldSheet.{info_columns}
use Rattle.sheets.specs.FieldTrees.{own_rule}
use Rattle.sheets.specs.Metadata.{name_key, metadata_key, reserved, or_none}
use Rattle.sheets.specs.Strict.{no_reserved, keys_rule}
use Rattle.sheets.proofs.Tests.{meets}
use Rattle.sheets.proofs.SameLaws.{lengths_differ}
use Rattle.sheets.proofs.OrderLaws.{before_trans, not_same, same_back}
use Rattle.sheets.proofs.Utf8Laws.{utf8_bytes}
use Rattle.sheets.proofs.MetadataLaws.{text_pair}
use Rattle.byte_order.proofs.HexOrderLaws.{same_hex}
use Rattle.columns.specs.Columns.{part}
use Rattle.field_pairs.specs.Pairs.{pairs_of, PairsColumn, first_place, Pairs, PairAt}
use Rattle.field_pairs.specs.Reserved.{is_reserved, is_past, any_reserved, has_reserved}
use Rattle.field_pairs.specs.declared.PairPlace.{PairPlace}
use Rattle.field_pairs.proofs.PairsLaws.{pairs_in_lem, pairs_of_lem, pairs_rule_lem, pairs_end, first_pairs, first_later}

pub name_bytes : Meets (all is_byte name_key)
name_bytes = meets (all is_byte name_key) refl

pub metadata_bytes : Meets (all is_byte metadata_key)
metadata_bytes = meets (all is_byte metadata_key) refl

-- ── a key's digits

module _ (key : Bytes) where
  pub name_told : length key ≡ 40 → same (take 40 key) (hex name_key) ≡ is_reserved key
  unfolding is_reserved
  name_told n =
      ap (λ (t : Bytes). same t (hex name_key)) (take_all 40 key (omega (arith, n)))
      ∙ sym (or-false (same key (hex name_key)))
      ∙ ap (λ (t : Bool). same key (hex name_key) || t) (sym (lengths_differ key (hex metadata_key) (λ e. omega (arith, n, e))))

  pub metadata_told : length key ≡ 48 → same (take 48 key) (hex metadata_key) ≡ is_reserved key
  unfolding is_reserved
  metadata_told n =
      ap (λ (t : Bytes). same t (hex metadata_key)) (take_all 48 key (omega (arith, n)))
      ∙ ap (λ (t : Bool). t || same key (hex metadata_key)) (sym (lengths_differ key (hex name_key) (λ e. omega (arith, n, e))))

  pub other_length : (length key ≡ 40 → ⊥) → (length key ≡ 48 → ⊥) → false ≡ is_reserved key
  unfolding is_reserved
  other_length n m =
      ap₂ ◌||◌ (sym (lengths_differ key (hex name_key) (λ e. n (omega (arith, e))))) (sym (lengths_differ key (hex metadata_key) (λ e. m (omega (arith, e)))))

reserved_digits : (k : Bytes) → Meets (all is_byte k) → is_reserved (hex k) ≡ reserved k
unfolding is_reserved
reserved_digits k h = ap₂ ◌||◌ (same_hex k name_key h name_bytes) (same_hex k metadata_key h metadata_bytes)

-- ── pairs

pub any_next : (p : Pair) (ps : List Pair) → any_reserved (p ∷ ps) ≡ (reserved p.0 || any_reserved ps)
any_next p ps = either (reserved p.0) (passes (no_reserved ps))
  where
    either : (a b : Bool) → not (not a && b) ≡ (a || not b)
    either true b = refl
    either false b = refl

-- a key that stands before the first one is none of them
after_next : (k : Bytes) (p : Pair) (ps : List Pair) → before k p.0 ≡ true → first_after p.0 ps ≡ true → first_after k ps ≡ true
after_next k p [] h r = refl
after_next k p (q ∷ ps) h r = before_trans k p.0 q.0 h r

none_after : (ps : List Pair) → Meets (pairs_rule ps) → first_after name_key ps ≡ true → first_after metadata_key ps ≡ true → any_reserved ps ≡ false
none_after [] r n m = refl
none_after (p ∷ ps) r n m =
    let other : reserved p.0 ≡ false = ap₂ ◌||◌ (same_back name_key p.0 (not_same name_key p.0 n)) (same_back metadata_key p.0 (not_same metadata_key p.0 m)) in
    any_next p ps ∙ ap (λ (t : Bool). t || any_reserved ps) other ∙ none_after ps r.1.1.1 (after_next name_key p ps n r.1.1.0) (after_next metadata_key p ps m r.1.1.0)

past_first : (k : Bytes) → get_or k 0 0 ≡ 65 → (ps : List Pair) → is_past ps ≡ true → first_after k ps ≡ true
unfolding is_past
past_first k a [] e = refl
past_first k a (p ∷ ps) e = first_later p.0 k (omega (arith, a, ltb-true 65 (get_or p.0 0 0) e))

-- ── from a place of the column on

module _ (column : Bytes) where
  pub reserved_start : PairsColumn column → length column < 65536 → (place : ℕ) → place ≡ first_place column
      → Pairs column place × (has_reserved column ≡ any_reserved (pairs_of (drop place column)))
  unfolding has_reserved pairs_of
  reserved_start h s place e =
      let f = first_pairs column h s in
      subst (λ (n : ℕ). Pairs column n × (has_reserved column ≡ any_reserved (pairs_of (drop n column)))) (sym e) (f.0, ap any_reserved (sym f.1))

  module _ (place : ℕ) where
    pub reserved_end : length column ≤ place → any_reserved (pairs_of (drop place column)) ≡ false
    reserved_end l = ap any_reserved (pairs_end column place l)

    module _ (h : Pairs column place) where
      pub reserved_past : is_past (pairs_of (drop place column)) ≡ true → any_reserved (pairs_of (drop place column)) ≡ false
      reserved_past e =
          let ps = h.text.pairs in
          let is : pairs_of (drop place column) ≡ ps = ap pairs_of h.text.is ∙ pairs_of_lem ps h.text.rule in
          let l : is_past ps ≡ true = ap is_past (sym is) ∙ e in
          ap any_reserved is ∙ none_after ps h.text.rule (past_first name_key refl ps l) (past_first metadata_key refl ps l)

      module _ (p : PairPlace) (k : PairAt column place p) where
        any_here : any_reserved (pairs_of (drop place column)) ≡ (is_reserved (part column place p.equals) || any_reserved (pairs_of (drop p.next column)))
        any_here =
            let rest = pairs_of (drop p.next column) in
            let bytes : Meets (all is_byte k.pair.0) = utf8_bytes k.pair.0 (subst (λ (l : List Pair). Meets (each text_pair l)) k.first (pairs_rule_lem column place h)).0.0 in
            ap any_reserved k.first
            ∙ any_next k.pair rest
            ∙ ap (λ (t : Bool). t || any_reserved rest) (sym (ap is_reserved k.key ∙ reserved_digits k.pair.0 bytes))

        pub reserved_here : is_reserved (part column place p.equals) ≡ true → any_reserved (pairs_of (drop place column)) ≡ true
        reserved_here e = any_here ∙ ap (λ (t : Bool). t || any_reserved (pairs_of (drop p.next column))) e

        pub reserved_on : is_reserved (part column place p.equals) ≡ false → any_reserved (pairs_of (drop place column)) ≡ any_reserved (pairs_of (drop p.next column))
        reserved_on e = any_here ∙ ap (λ (t : Bool). t || any_reserved (pairs_of (drop p.next column))) e

-- ── a field's own column

pub pairs_column_lem : (info : Option Info) → Meets (own_rule info) → PairsColumn (info_columns info).1.1
pairs_column_lem None h = record { pairs = None; text = refl; rule = refl }
pairs_column_lem (Some i) h = record { pairs = i.pairs; text = refl; rule = h.1 }

pub reserved_told : (info : Option Info) → Meets (own_rule info) → has_reserved (info_columns info).1.1 ≡ not (passes (keys_rule info))
unfolding has_reserved pairs_of
reserved_told None h = ap (λ (o : Option (List Pair)). any_reserved (or_none o)) (pairs_in_lem None refl)
reserved_told (Some i) h = ap (λ (o : Option (List Pair)). any_reserved (or_none o)) (pairs_in_lem i.pairs h.1)
