-- What the two tests of strict export find (document 02, #106). The lines that are tested are those of the field's sheet, in order; the tests pass exactly if
-- the field meets both conditions of demand 3; else the first line that has either decides, the key before the index. So where they pass, strict export
-- answers as the present export, and what it answers was answered by the present one. By induction over the lines, and over the type. Assumes nothing.
use mathlib.Core.Path.{◌≡◌, refl, sym, ◌∙◌, ap, ap₂}
use mathlib.Core.Logic.{◌↔◌}
use mathlib.Core.Bool.{Bool, true, false}
use mathlib.Core.List.{List, [], ◌∷◌, ◌++◌, map}
use Rattle.std.specs.Prelude.{Option, None, Some}
use lib.Dec.{leb}
use lib.ListN.{length}
use Rattle.sheets.specs.Refusal.{Refusal, not_sheet, reserved_key, wide_index}
use Rattle.sheets.specs.Bytes.{Bytes}
use Rattle.sheets.specs.Rule.{each, passes, Meets}
use Rattle.sheets.specs.Answer.{Answer, refused, given, ◌>>=◌}
use Rattle.sheets.specs.Field.{Info, ArrowDataType, scalar, nested, grouped, dictionary, extension, Fields, nil, add, Field}
use Rattle.sheets.specs.FieldSheet.{type_lines, fields_lines, read_field_sheet}
use Rattle.sheets.specs.FieldTrees.{Head}
use Rattle.sheets.specs.Walk.{head_text}
use Rattle.sheets.specs.Demand3.{NoReservedKey, NoWideIndex}
use Rattle.sheets.specs.Strict.{keys_rule, index_rule, line_returns, type_heads, fields_heads, lines_return, field_returns}
use Rattle.sheets.specs.StrictReturn.{neither}
use Rattle.sheets.specs.Outcome.{exported, strict_exported, exported_as}
use Rattle.sheets.proofs.Tests.{not_given, meets, passing, first_gave, chained}
use Rattle.sheets.proofs.ConditionLaws.{type_free, fields_free, field_free, free, free_each}

-- ── the lines are those of the sheet

map_both : (xs ys : List Head) → map head_text (xs ++ ys) ≡ map head_text xs ++ map head_text ys
map_both [] ys = refl
map_both (x ∷ xs) ys = ap (λ (ls : List Bytes). head_text x ∷ ls) (map_both xs ys)

-- "over the whole field, lines in order"
mutual
  pub heads_lines : (t : ArrowDataType) (i : Option Info) → map head_text (type_heads t i) ≡ type_lines t i
  heads_lines (scalar s) i = refl
  heads_lines (nested n j t) i = rw (heads_lines t (Some j))
  heads_lines (grouped g fs) i = rw (fields_lines_lem fs)
  heads_lines (dictionary ix ordered t) i = rw (heads_lines t None)
  heads_lines (extension n m t) i = rw (heads_lines t None)

  fields_lines_lem : (fs : Fields) → map head_text (fields_heads fs) ≡ fields_lines fs
  fields_lines_lem nil = refl
  fields_lines_lem (add i t fs) = map_both (type_heads t (Some i)) (fields_heads fs) ∙ ap₂ (λ (x y : List Bytes). x ++ y) (heads_lines t (Some i)) (fields_lines_lem fs)

-- ── what is found in lines

-- no line has either; or the first line that has either has a reserved key; or it has none, and a wide index
pub data Found (hs : List Head) : Type 0 where
  clear : Meets (each neither hs) → lines_return hs ≡ given tt → Found hs
  at_key : (before : List Head) (h : Head) (after : List Head) → hs ≡ before ++ (h ∷ after) → Meets (each neither before) → passes (keys_rule h.info) ≡ false
      → lines_return hs ≡ refused reserved_key → Found hs
  at_index : (before : List Head) (h : Head) (after : List Head) → hs ≡ before ++ (h ∷ after) → Meets (each neither before) → passes (keys_rule h.info) ≡ true
      → passes (index_rule h.shape) ≡ false → lines_return hs ≡ refused wide_index → Found hs

pub key_first : (h : Head) (hs : List Head) → passes (keys_rule h.info) ≡ false → lines_return (h ∷ hs) ≡ refused reserved_key
key_first h hs k = rw k

pub index_first : (h : Head) (hs : List Head) → passes (keys_rule h.info) ≡ true → passes (index_rule h.shape) ≡ false → lines_return (h ∷ hs) ≡ refused wide_index
index_first h hs k x = rw (k, x)

pub found_in : (hs : List Head) → Found hs
found_in [] = clear refl refl
found_in (h ∷ hs) = pick (passes (keys_rule h.info)) (passes (index_rule h.shape)) refl refl (found_in hs)
  where
    pick : (s t : Bool) → passes (keys_rule h.info) ≡ s → passes (index_rule h.shape) ≡ t → Found hs → Found (h ∷ hs)
    pick false t k x next = at_key [] h hs refl refl k (key_first h hs k)
    pick true false k x next = at_index [] h hs refl refl k x (index_first h hs k x)
    pick true true k x (clear m e) = clear ((meets (keys_rule h.info) k, meets (index_rule h.shape) x), m) (rw (k, x) e)
    pick true true k x (at_key before g after e m f r) =
        at_key (h ∷ before) g after (ap (λ (l : List Head). h ∷ l) e) ((meets (keys_rule h.info) k, meets (index_rule h.shape) x), m) f (rw (k, x) r)
    pick true true k x (at_index before g after e m f n r) =
        at_index (h ∷ before) g after (ap (λ (l : List Head). h ∷ l) e) ((meets (keys_rule h.info) k, meets (index_rule h.shape) x), m) f n (rw (k, x) r)

-- a line that has neither
line_passes : (h : Head) → Meets (neither h) → line_returns h ≡ given tt
line_passes h m = rw (passing (keys_rule h.info) m.0, passing (index_rule h.shape) m.1)

-- lines one after the other: what is answered of the first ones, then of the others
pub lines_append : (xs ys : List Head) → lines_return (xs ++ ys) ≡ (lines_return xs >>= λ _. lines_return ys)
lines_append [] ys = refl
lines_append (x ∷ xs) ys = ap (λ (a : Answer (Unit {0})). line_returns x >>= λ _. a) (lines_append xs ys) ∙ sym (chained (line_returns x) (λ _. lines_return xs) (λ _. lines_return ys))

-- lines that have neither, alone and before other lines
lines_pass : (hs : List Head) → Meets (each neither hs) → lines_return hs ≡ given tt
lines_pass [] m = refl
lines_pass (h ∷ hs) m = ap (λ (a : Answer (Unit {0})). a >>= λ u. lines_return hs) (line_passes h m.0) ∙ lines_pass hs m.1

pub lines_after : (before rest : List Head) → Meets (each neither before) → lines_return (before ++ rest) ≡ lines_return rest
lines_after before rest m = lines_append before rest ∙ ap (λ (a : Answer (Unit {0})). a >>= λ _. lines_return rest) (lines_pass before m)

lines_meet : (hs : List Head) → lines_return hs ≡ given tt → Meets (each neither hs)
lines_meet hs h = go (found_in hs)
  where
    go : Found hs → Meets (each neither hs)
    go (clear m e) = m
    go (at_key before g after e m f r) = not_given (sym r ∙ h)
    go (at_index before g after e m f n r) = not_given (sym r ∙ h)

-- ── lines that have neither, and the conditions of demand 3

each_apart : (xs ys : List Head) → Meets (each neither (xs ++ ys)) → Meets (each neither xs) × Meets (each neither ys)
each_apart [] ys h = (refl, h)
each_apart (x ∷ xs) ys h = let r = each_apart xs ys h.1 in ((h.0, r.0), r.1)

each_both : (xs ys : List Head) → Meets (each neither xs) → Meets (each neither ys) → Meets (each neither (xs ++ ys))
each_both [] ys h k = k
each_both (x ∷ xs) ys h k = (h.0, each_both xs ys h.1 k)

mutual
  heads_free : (t : ArrowDataType) (i : Option Info) → Meets (each neither (type_heads t i)) → Meets (keys_rule i) × Meets (type_free t)
  heads_free (scalar s) i h = (h.0.0, refl)
  heads_free (nested n j t) i h = (h.0.0, heads_free t (Some j) h.1)
  heads_free (grouped g fs) i h = (h.0.0, fields_free_lem fs h.1)
  heads_free (dictionary ix ordered t) i h = (h.0.0, (h.0.1, (heads_free t None h.1).1))
  heads_free (extension n m t) i h = (h.0.0, (heads_free t None h.1).1)

  fields_free_lem : (fs : Fields) → Meets (each neither (fields_heads fs)) → Meets (fields_free fs)
  fields_free_lem nil h = refl
  fields_free_lem (add i t fs) h =
      let r = each_apart (type_heads t (Some i)) (fields_heads fs) h in
      let q = heads_free t (Some i) r.0 in
      (q.0, (q.1, fields_free_lem fs r.1))

mutual
  free_heads : (t : ArrowDataType) (i : Option Info) → Meets (keys_rule i) → Meets (type_free t) → Meets (each neither (type_heads t i))
  free_heads (scalar s) i k h = ((k, refl), refl)
  free_heads (nested n j t) i k h = ((k, refl), free_heads t (Some j) h.0 h.1)
  free_heads (grouped g fs) i k h = ((k, refl), free_fields fs h)
  free_heads (dictionary ix ordered t) i k h = ((k, h.0), free_heads t None refl h.1)
  free_heads (extension n m t) i k h = ((k, refl), free_heads t None refl h)

  free_fields : (fs : Fields) → Meets (fields_free fs) → Meets (each neither (fields_heads fs))
  free_fields nil h = refl
  free_fields (add i t fs) h = each_both (type_heads t (Some i)) (fields_heads fs) (free_heads t (Some i) h.0 h.1.0) (free_fields fs h.1.1)

-- the tests pass exactly if the field meets both conditions, as one rule and as the two of demand 3
pub returns_free : (f : Field) → field_returns f ≡ given tt → Meets (field_free f)
returns_free f h = heads_free f.type (Some f.info) (lines_meet (type_heads f.type (Some f.info)) h)

pub free_returns : (f : Field) → Meets (field_free f) → field_returns f ≡ given tt
free_returns f h = lines_pass (type_heads f.type (Some f.info)) (free_heads f.type (Some f.info) h.0 h.1)

pub returns_exactly : (f : Field) → (field_returns f ≡ given tt) ↔ (NoReservedKey f × NoWideIndex f)
returns_exactly f = (λ h. free_each f (returns_free f h), λ h. free_returns f (free f h.0 h.1))

-- ── the call

module _ (big : Bool) where
  -- "after the sheet's form and before any other test"
  pub strict_read : (b : Bytes) (f : Field) → read_field_sheet b ≡ given f → strict_exported big b ≡ (field_returns f >>= λ u. exported big b)
  unfolding strict_exported exported
  strict_read b f r = rw r

  pub strict_form : (b : Bytes) (r : Refusal) → read_field_sheet b ≡ refused r → strict_exported big b ≡ refused r
  unfolding strict_exported
  strict_form b r h = rw h

  pub export_form : (b : Bytes) (r : Refusal) → read_field_sheet b ≡ refused r → exported big b ≡ refused r
  unfolding exported
  export_form b r h = rw h

  -- "Where it finds neither, it answers as the present export"
  pub strict_free : (b : Bytes) (f : Field) → read_field_sheet b ≡ given f → Meets (field_free f) → strict_exported big b ≡ exported big b
  strict_free b f r m = strict_read b f r ∙ ap (λ (a : Answer (Unit {0})). a >>= λ u. exported big b) (free_returns f m)

  -- what it answers was found to have neither, and the present export answers the same
  pub strict_gave : (b x : Bytes) → strict_exported big b ≡ given x → (f : Field) × (read_field_sheet b ≡ given f) × Meets (field_free f) × (exported big b ≡ given x)
  strict_gave b x h = go (read_field_sheet b) refl
    where
      go : (a : Answer Field) → read_field_sheet b ≡ a → (f : Field) × (read_field_sheet b ≡ given f) × Meets (field_free f) × (exported big b ≡ given x)
      go (refused r) e = not_given (sym (strict_form b r e) ∙ h)
      go (given f) e =
          let u = first_gave (field_returns f) (λ u. exported big b) x (sym (strict_read b f e) ∙ h) in
          (f, e, returns_free f u.1, u.2)

  -- ── either export

  pub as_free : (strict : Bool) (b : Bytes) (f : Field) → read_field_sheet b ≡ given f → Meets (field_free f) → exported_as strict big b ≡ exported big b
  as_free true b f r m = strict_free b f r m
  as_free false b f r m = refl

  pub as_gave : (strict : Bool) (b x : Bytes) → exported_as strict big b ≡ given x → exported big b ≡ given x
  as_gave true b x h = (strict_gave b x h).3
  as_gave false b x h = h

  -- a sheet that is too long is refused with 1
  long_read : (p : Bytes) → leb (length p) 65535 ≡ false → read_field_sheet p ≡ refused not_sheet
  long_read p h = rw h

  pub too_long_lem : (strict : Bool) (p : Bytes) → leb (length p) 65535 ≡ false → exported_as strict big p ≡ refused not_sheet
  too_long_lem true p h = strict_form p not_sheet (long_read p h)
  too_long_lem false p h = export_form p not_sheet (long_read p h)
