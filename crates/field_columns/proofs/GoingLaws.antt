-- Pairs one after the other, each key compared with the one before it: a law for each step of the loop. Assumes nothing.
use mathlib.Core.Path.{◌≡◌, sym, ◌∙◌, ap, ap₂, subst}
use mathlib.Core.Bool.{Bool, true, false, ◌&&◌}
use mathlib.Core.List.{◌∷◌}
use Rattle.std.specs.Prelude.{None, Some}
use Prim.Native.Nat.{ℕ, ◌+◌, ◌-◌, ◌≤◌, ◌<◌}
use native.Mathlib.Omega.{arith}
use lib.ListN.{length, take, drop, length-take, length-drop}
use lib.Seq.{take-take}
use Rattle.sheets.specs.Rule.{Meets}
use Rattle.sheets.specs.Bytes.{Bytes, all, split, is_byte}
use Rattle.sheets.specs.Parts.{parts_from}
use Rattle.sheets.specs.Text.{hex}
use Rattle.sheets.specs.Field.{before}
use Rattle.sheets.proofs.PartLaws.{PartEnds, parts_here, parts_past}
use Rattle.sheets.proofs.Utf8Laws.{utf8_bytes}
use Rattle.byte_order.proofs.HexOrderLaws.{before_hex}
use Rattle.columns.specs.Columns.{part}
use Rattle.field_columns.specs.Lists.{key_end, pair_at, are_pairs, follow_pairs}
use Rattle.field_columns.proofs.PairLaws.{KeyTo, key_told, key_none, first_not, first_there, next_not, next_there, follow_none}
use Rattle.field_columns.proofs.PairAtLaws.{Told, pair_told_lem, pair_bad, ends_there}

-- the part of a part
inner : (c : Bytes) (from to k : ℕ) → k ≤ to - from → take k (part c from to) ≡ part c from (from + k)
inner c from to k h =
    let m : from + k - from ≡ k = omega arith in
    take-take k (to - from) (drop from c) h ∙ ap (λ (i : ℕ). take i (drop from c)) (sym m)

-- The pairs up to `end` are in order, and the last key stands from start to stop. All are pairs exactly if those after it are, and follow its key.
pub record Going (c : Bytes) (start stop end : ℕ) : Type 0 where
  pub key : Bytes
  pub is_bytes : Meets (all is_byte key)
  pub is_key : part c start stop ≡ hex key
  pub low : start ≤ stop
  pub mid : stop ≤ end
  pub high : end ≤ length c
  pub goes : are_pairs (split 44 c) ≡ follow_pairs key (parts_from c (end + 1))

module _ (c : Bytes) (from to : ℕ) (w : PartEnds c from to) (k : ℕ) (t : KeyTo (part c from to) k) where
  size : length (part c from to) ≡ to - from
  size = length-take (to - from) (drop from c) ∙ omega (arith, length-drop from c, w.low, w.high)

  pub key_within : from + k ≤ to
  key_within = omega (arith, t.high, size, w.low)

  key_bytes : Meets (all is_byte t.pair.0)
  key_bytes = utf8_bytes t.pair.0 t.rule.0

  key_text : part c from (from + k) ≡ hex t.pair.0
  key_text = sym (inner c from to k (omega (arith, t.high, size))) ∙ t.is_key

  begun : are_pairs (split 44 c) ≡ follow_pairs t.pair.0 (parts_from c (to + 1)) → Going c from (from + k) to
  begun g = record { key = t.pair.0; is_bytes = key_bytes; is_key = key_text; low = omega arith; mid = key_within; high = w.high; goes = g }

module _ (c : Bytes) (to : ℕ) (w : PartEnds c 0 to) where
  parts : split 44 c ≡ part c 0 to ∷ parts_from c (to + 1)
  parts = sym (parts_here c 0 (omega arith)) ∙ w.parts

  pub going_first : (k : ℕ) → key_end (part c 0 to) ≡ Some k → Going c 0 k to
  going_first k e =
      let t = key_told (part c 0 to) k e in
      let n : 0 + k ≡ k = omega arith in
      subst (λ (i : ℕ). Going c 0 i to) n
      (begun c 0 to w k t (ap are_pairs parts ∙ first_there (part c 0 to) (parts_from c (to + 1)) t.pair t.reads t.rule))

  pub going_none : key_end (part c 0 to) ≡ None → are_pairs (split 44 c) ≡ false
  going_none e = ap are_pairs parts ∙ first_not (part c 0 to) (parts_from c (to + 1)) (key_none (part c 0 to) e)

module _ {c : Bytes} {start stop end : ℕ} (g : Going c start stop end) where
  pub going_all : length c ≤ end → are_pairs (split 44 c) ≡ true
  going_all h = g.goes ∙ ap (follow_pairs g.key) (parts_past c (end + 1) (omega arith)) ∙ follow_none g.key

  module _ (to : ℕ) (w : PartEnds c (end + 1) to) where
    next : are_pairs (split 44 c) ≡ follow_pairs g.key (part c (end + 1) to ∷ parts_from c (to + 1))
    next = g.goes ∙ ap (follow_pairs g.key) w.parts

    pub going_bad : key_end (part c (end + 1) to) ≡ None → are_pairs (split 44 c) ≡ false
    going_bad e = next ∙ next_not (part c (end + 1) to) (parts_from c (to + 1)) g.key (key_none (part c (end + 1) to) e)

    module _ (k : ℕ) (e : key_end (part c (end + 1) to) ≡ Some k) where
      there : KeyTo (part c (end + 1) to) k
      there = key_told (part c (end + 1) to) k e

      pub next_within : end + 1 + k ≤ to
      next_within = key_within c (end + 1) to w k there

      module _ (b : Bool) (is : b ≡ before (part c start stop) (part c (end + 1) (end + 1 + k))) where
        order : b ≡ before g.key there.pair.0
        order = is ∙ ap₂ before g.is_key (key_text c (end + 1) to w k there) ∙ before_hex g.key there.pair.0 g.is_bytes (key_bytes c (end + 1) to w k there)

        by_order : are_pairs (split 44 c) ≡ (b && follow_pairs there.pair.0 (parts_from c (to + 1)))
        by_order = next ∙ next_there (part c (end + 1) to) (parts_from c (to + 1)) there.pair there.reads there.rule g.key ∙ ap (λ (t : Bool). t && follow_pairs there.pair.0 (parts_from c (to + 1))) (sym order)

        pub going_disorder : b ≡ false → are_pairs (split 44 c) ≡ false
        going_disorder f = by_order ∙ ap (λ (t : Bool). t && follow_pairs there.pair.0 (parts_from c (to + 1))) f

        pub going_more : b ≡ true → Going c (end + 1) (end + 1 + k) to
        going_more f = begun c (end + 1) to w k there (by_order ∙ ap (λ (t : Bool). t && follow_pairs there.pair.0 (parts_from c (to + 1))) f)

-- ── by the places that `pair_at` gives

module _ (c : Bytes) where
  pub first_bad : pair_at c 0 ≡ None → are_pairs (split 44 c) ≡ false
  first_bad h = going_none c _ (ends_there c 0 (omega arith)) (pair_bad c 0 h)

  pub first_at : (k e : ℕ) → pair_at c 0 ≡ Some (k, e) → Going c 0 k e
  first_at k e h =
      let t = pair_told_lem c 0 (omega arith) k e h in
      let n : t.key ≡ k = omega (arith, t.at) in
      subst (λ (i : ℕ). Going c 0 i e) n (going_first c e t.ends t.key t.is)

module _ {c : Bytes} {start stop end : ℕ} (g : Going c start stop end) (below : end < length c) where
  pub next_bad : pair_at c (end + 1) ≡ None → are_pairs (split 44 c) ≡ false
  next_bad h = going_bad g _ (ends_there c (end + 1) (omega arith)) (pair_bad c (end + 1) h)

  module _ (k e : ℕ) (h : pair_at c (end + 1) ≡ Some (k, e)) where
    told : Told c (end + 1) k e
    told = pair_told_lem c (end + 1) (omega arith) k e h

    pub next_low : end + 1 ≤ k
    next_low = omega (arith, told.at)

    pub next_mid : k ≤ e
    next_mid = omega (arith, told.at, next_within g e told.ends told.key told.is)

    pub next_high : e ≤ length c
    next_high = told.ends.high

    module _ (b : Bool) (is : b ≡ before (part c start stop) (part c (end + 1) k)) where
      here : b ≡ before (part c start stop) (part c (end + 1) (end + 1 + told.key))
      here = is ∙ ap (λ (i : ℕ). before (part c start stop) (part c (end + 1) i)) (sym told.at)

      pub next_disorder : b ≡ false → are_pairs (split 44 c) ≡ false
      next_disorder f = going_disorder g e told.ends told.key told.is b here f

      pub next_more : b ≡ true → Going c (end + 1) k e
      next_more f = subst (λ (i : ℕ). Going c (end + 1) i e) told.at (going_more g e told.ends told.key told.is b here f)
