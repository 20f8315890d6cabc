-- The two conditions of demand 3 on a field's lines, taken together: rules at every line are met together exactly if each is met; and the plain form of a field
-- that meets both meets both. By induction over the type. Assumes nothing.
use mathlib.Core.Path.{refl}
use mathlib.Core.Bool.{Bool, true, false}
use mathlib.Core.List.{List, [], ◌∷◌}
use Rattle.std.specs.Prelude.{Option, None, Some}
use Prim.Native.Nat.{ℕ}
use Rattle.sheets.specs.Rule.{Rule, Meets}
use Rattle.sheets.specs.Field.{Pair, Info, ArrowDataType, scalar, nested, grouped, dictionary, extension, Fields, nil, add, Field}
use Rattle.sheets.specs.Metadata.{or_none}
use Rattle.sheets.specs.Plain.{plain_pairs, plain_type, plain_fields, plain}
use Rattle.sheets.specs.Demand3.{type_every, fields_every, every_line, no_rule, NoReservedKey, NoWideIndex}
use Rattle.sheets.specs.Strict.{no_reserved, own_keys, narrow_index}

abbrev pub type_free : ArrowDataType → Rule
type_free t = type_every own_keys narrow_index t

abbrev pub fields_free : Fields → Rule
fields_free fs = fields_every own_keys narrow_index fs

abbrev pub field_free : Field → Rule
field_free f = every_line own_keys narrow_index f

module _ (own : Info → Rule) (index : ℕ → Rule) where
  mutual
    type_both : (t : ArrowDataType) → Meets (type_every own no_rule t) → Meets (type_every no_rule index t) → Meets (type_every own index t)
    type_both (scalar s) h k = h
    type_both (nested n i t) h k = (h.0, type_both t h.1 k.1)
    type_both (grouped g fs) h k = fields_both fs h k
    type_both (dictionary ix ordered t) h k = (k.0, type_both t h.1 k.1)
    type_both (extension n m t) h k = type_both t h k

    fields_both : (fs : Fields) → Meets (fields_every own no_rule fs) → Meets (fields_every no_rule index fs) → Meets (fields_every own index fs)
    fields_both nil h k = h
    fields_both (add i t fs) h k = (h.0, (type_both t h.1.0 k.1.0, fields_both fs h.1.1 k.1.1))

  mutual
    type_each : (t : ArrowDataType) → Meets (type_every own index t) → Meets (type_every own no_rule t) × Meets (type_every no_rule index t)
    type_each (scalar s) h = (h, h)
    type_each (nested n i t) h = let r = type_each t h.1 in ((h.0, r.0), (refl, r.1))
    type_each (grouped g fs) h = fields_each fs h
    type_each (dictionary ix ordered t) h = let r = type_each t h.1 in ((refl, r.0), (h.0, r.1))
    type_each (extension n m t) h = type_each t h

    fields_each : (fs : Fields) → Meets (fields_every own index fs) → Meets (fields_every own no_rule fs) × Meets (fields_every no_rule index fs)
    fields_each nil h = (h, h)
    fields_each (add i t fs) h =
        let r = type_each t h.1.0 in
        let q = fields_each fs h.1.1 in
        ((h.0, (r.0, q.0)), (refl, (r.1, q.1)))

pub free : (f : Field) → NoReservedKey f → NoWideIndex f → Meets (field_free f)
free f h k = (h.0, type_both own_keys narrow_index f.type h.1 k.1)

pub free_each : (f : Field) → Meets (field_free f) → NoReservedKey f × NoWideIndex f
free_each f h = let r = type_each own_keys narrow_index f.type h.1 in ((h.0, r.0), (refl, r.1))

-- ── the plain form

keys_keep : (ps : Option (List Pair)) → Meets (no_reserved (or_none ps)) → Meets (no_reserved (or_none (plain_pairs ps)))
keys_keep None h = h
keys_keep (Some []) h = h
keys_keep (Some (p ∷ ps)) h = h

mutual
  -- a dictionary directly under an extension becomes its index type, which has no index
  type_keeps : (t : ArrowDataType) (inside : Bool) → Meets (type_free t) → Meets (type_free (plain_type t inside))
  type_keeps (scalar s) inside h = h
  type_keeps (nested n i t) inside h = (keys_keep i.pairs h.0, type_keeps t false h.1)
  type_keeps (grouped g fs) inside h = fields_keep fs h
  type_keeps (dictionary ix ordered t) true h = refl
  type_keeps (dictionary ix ordered t) false h = (h.0, type_keeps t false h.1)
  type_keeps (extension n m t) true h = type_keeps t true h
  type_keeps (extension n m t) false h = type_keeps t true h

  fields_keep : (fs : Fields) → Meets (fields_free fs) → Meets (fields_free (plain_fields fs))
  fields_keep nil h = h
  fields_keep (add i t fs) h = (keys_keep i.pairs h.0, (type_keeps t false h.1.0, fields_keep fs h.1.1))

pub plain_free : (f : Field) → Meets (field_free f) → Meets (field_free (plain f))
plain_free f h = (keys_keep f.info.pairs h.0, type_keeps f.type false h.1)
