-- Document 02, #101, 'A page for the service binder', law by law: the kinds have names that fit their column; every line has 72 bytes; the page's levels are
-- those that 3 is decided by; line i of the page is worked out from line i of the sheet and its level alone, and stands at byte 73 i; byte 72 is `+` exactly
-- if the name has more than 24 bytes; and a page gets 16 exactly if the buffer is shorter than 73 bytes for each line. By the lengths of the columns, and by
-- cases of the type. Assumes nothing.
use mathlib.Core.Path.{◌≡◌, refl, sym, ◌∙◌, ap, ap₂, subst}
use mathlib.Core.Logic.{◌↔◌, ◌≢◌}
use mathlib.Core.Bool.{Bool, true, false, ◌&&◌, cond}
use mathlib.Core.List.{List, [], ◌∷◌, ◌++◌, map, map-append, append_assoc, zip_with}
use Rattle.std.specs.Prelude.{Option, None, Some}
use Prim.Native.Nat.{ℕ, zero, suc, ◌+◌, ◌-◌, ◌*◌, ◌≤◌, ◌<◌, max}
use native.Mathlib.Nat.{mul-zero, mul-suc, add_comm}
use native.Mathlib.Omega.{arith}
use lib.Dec.{eqb, leb, ltb}
use lib.ListN.{length, get_or, take, drop, replicate, length-append, length-take, length-replicate, length-map, get_or-map}
use lib.Seq.{take_at, drop_at, drop-drop, get_or_at}
use borrow.Author.Tests.{leb-true, ltb-true, lt-ltb, ne_eqb}
use Rattle.sheets.specs.Rule.{is, each, Meets}
use Rattle.sheets.specs.Refusal.{Refusal, number_of, no_room}
use Rattle.sheets.specs.Bytes.{Bytes, space, plus_sign, line_end}
use Rattle.sheets.specs.Answer.{Answer, refused, given}
use Rattle.sheets.specs.Number.{decimal}
use Rattle.sheets.specs.Sheet.{level_limit, ended, read_sheet}
use Rattle.sheets.specs.Field.{Info, ArrowDataType, scalar, nested, grouped, dictionary, extension, Fields, nil, add, Field, count_fields, type_rule, fields_rule, type_levels, fields_levels, field_levels}
use Rattle.sheets.specs.FieldSheet.{Shape, columns, of_scalar, of_nesting, of_grouping, of_dictionary, of_extension, to_nat, type_lines, fields_lines, field_heading, read_field_sheet}
use Rattle.sheets.specs.LineTrees.{Each, tallest}
use Rattle.sheets.specs.FieldTrees.{Head, read_head, shape_rule, own_rule, is_extension, type_shape}
use Rattle.sheets.specs.Kind
use Rattle.sheets.specs.KindNames.{KindRow, kind_rows, name_in, kind_name}
use Rattle.sheets.specs.Walk.{head_with, head_text}
use Rattle.sheets.specs.Page.{right_in, left_in, nullable_mark, name_digits, level_width, kind_width, name_width, name_column, cut_mark, line_shown, page_line, Placed, inner_level, type_placed, fields_placed, placed_lines, placed_text, page}
use Rattle.sheets.specs.Outcome.{success, refusal, outcome, paged, page_outcome}
use Rattle.sheets.proofs.Tests.{and_right, meets, same_given, every, at_each}
use Rattle.sheets.proofs.OutcomeLaws.{turned, fits, sixteen_exactly}
use Rattle.sheets.proofs.SheetLaws.{read_sheet_lem}
use Rattle.sheets.proofs.SizeLaws.{hex_length}
use Rattle.sheets.proofs.FieldSheetLaws.{read_shape_lem, read_info_lem, read_line_lem, type_ends, field_read, field_sheet_read, field_sheet_short}
use Rattle.sheets.proofs.LineTrees.{each_change, each_both, tallest_append}
use Rattle.sheets.proofs.FieldTrees.{levels_some}

-- ── the names of the kinds

-- the rows are those of the kinds from Null 0 to Union 41, each once and in order
pub kinds_in_order : map (λ (r : KindRow). r.kind) kind_rows
    ≡ 0 ∷ 1 ∷ 2 ∷ 3 ∷ 4 ∷ 5 ∷ 6 ∷ 7 ∷ 8 ∷ 9 ∷ 10 ∷ 11 ∷ 12 ∷ 13 ∷ 14 ∷ 15 ∷ 16 ∷ 17 ∷ 18 ∷ 19 ∷ 20 ∷ 21 ∷ 22 ∷ 23 ∷ 24 ∷ 25 ∷ 26 ∷ 27 ∷ 28 ∷ 29 ∷ 30 ∷ 31 ∷ 32 ∷ 33 ∷ 34 ∷ 35 ∷ 36 ∷ 37 ∷ 38 ∷ 39 ∷ 40 ∷ 41 ∷ []
unfolding kind_rows
kinds_in_order = refl

-- a kind's name is the one that stands beside it
pub names_beside : map (λ (r : KindRow). kind_name r.kind) kind_rows ≡ map (λ (r : KindRow). r.name) kind_rows
unfolding kind_rows
names_beside = refl

-- a name has 1 to 16 bytes
abbrev pub name_fits : Bytes → Bool
name_fits n = ltb 0 (length n) && leb (length n) kind_width

pub names_fit : Meets (each (λ (r : KindRow). is (name_fits r.name)) kind_rows)
unfolding kind_rows
names_fit = meets (each (λ (r : KindRow). is (name_fits r.name)) kind_rows) refl

-- every kind has one
pub kind_named : (k : ℕ) → k ≤ Kind.Union → name_fits (kind_name k) ≡ true
unfolding kind_rows
kind_named k h = at_each 42 (λ n. name_fits (kind_name n)) (meets (every 42 (λ n. name_fits (kind_name n))) refl) k (omega (arith, h))

-- and a number that is no kind has the empty name
no_name : (rs : List KindRow) → Meets (each (λ (r : KindRow). is (ltb r.kind 42)) rs) → (k : ℕ) → 42 ≤ k → name_in rs k ≡ []
no_name [] h k l = refl
no_name (r ∷ rs) h k l = rw (ne_eqb k r.kind (λ e. omega (arith, e, ltb-true r.kind 42 h.0))) (no_name rs h.1 k l)

kinds_below : Meets (each (λ (r : KindRow). is (ltb r.kind 42)) kind_rows)
unfolding kind_rows
kinds_below = meets (each (λ (r : KindRow). is (ltb r.kind 42)) kind_rows) refl

pub kind_nameless : (k : ℕ) → Kind.Union < k → kind_name k ≡ []
kind_nameless k l = no_name kind_rows kinds_below k (omega (arith, l))

-- so every name fits
name_in_lem : (rs : List KindRow) → Meets (each (λ (r : KindRow). is (name_fits r.name)) rs) → (k : ℕ) → length (name_in rs k) ≤ kind_width
name_in_lem [] h k = omega arith
name_in_lem (r ∷ rs) h k = go (eqb k r.kind) (name_in_lem rs h.1 k)
  where
    go : (t : Bool) → length (name_in rs k) ≤ kind_width → length (cond t r.name (name_in rs k)) ≤ kind_width
    go true n = leb-true (length r.name) kind_width (and_right (ltb 0 (length r.name)) (leb (length r.name) kind_width) h.0)
    go false n = n

pub name_length : (k : ℕ) → length (kind_name k) ≤ kind_width
name_length k = name_in_lem kind_rows names_fit k

-- ── a line

left_length : (n : ℕ) (t : Bytes) → length t ≤ n → length (left_in n t) ≡ n
left_length n t h = omega (arith, length-append t (replicate (n - length t) space), length-replicate (n - length t) space)

right_length : (n : ℕ) (t : Bytes) → length t ≤ n → length (right_in n t) ≡ n
right_length n t h = omega (arith, length-append (replicate (n - length t) space) t, length-replicate (n - length t) space)

-- "the kind's name .. left-justified in 16"
pub kind_column : (k : ℕ) → length (left_in kind_width (kind_name k)) ≡ kind_width
kind_column k = left_length kind_width (kind_name k) (name_length k)

-- "the name's hexadecimal left-justified in 48", whatever its length
pub name_column_lem : (digits : Bytes) → length (name_column digits) ≡ name_width
name_column_lem digits = left_length name_width (take name_width digits) (omega (arith, length-take name_width digits))

level_digits : (level : ℕ) → level < 1000 → length (decimal level) ≤ level_width
unfolding decimal
level_digits level h = leb-true (length (decimal level)) level_width (at_each 1000 (λ n. leb (length (decimal n)) level_width) (meets (every 1000 (λ n. leb (length (decimal n)) level_width)) refl) level h)

-- "the level right-justified in 3"
pub level_column : (level : ℕ) → level < 1000 → length (right_in level_width (decimal level)) ≡ level_width
level_column level h = right_length level_width (decimal level) (level_digits level h)

-- a line without its last byte
abbrev front : ℕ → ℕ → ℕ → Bytes → Bytes
front level kind mark digits = right_in level_width (decimal level) ++ (space ∷ left_in kind_width (kind_name kind) ++ (space ∷ mark ∷ space ∷ name_column digits))

module _ (level kind mark : ℕ) (digits : Bytes) where
  front_cut : line_shown level kind mark digits ≡ front level kind mark digits ++ (cut_mark digits ∷ [])
  front_cut =
      sym
      (append_assoc (right_in level_width (decimal level)) (space ∷ left_in kind_width (kind_name kind) ++ (space ∷ mark ∷ space ∷ name_column digits)) (cut_mark digits ∷ [])
      ∙ ap (λ (r : Bytes). right_in level_width (decimal level) ++ (space ∷ r)) (append_assoc (left_in kind_width (kind_name kind)) (space ∷ mark ∷ space ∷ name_column digits) (cut_mark digits ∷ [])))

  front_length : level < 1000 → length (front level kind mark digits) ≡ 71
  front_length h =
      omega (
        arith,
        length-append (right_in level_width (decimal level)) (space ∷ left_in kind_width (kind_name kind) ++ (space ∷ mark ∷ space ∷ name_column digits)),
        length-append (left_in kind_width (kind_name kind)) (space ∷ mark ∷ space ∷ name_column digits),
        level_column level h,
        kind_column kind,
        name_column_lem digits,
      )

  pub shown_length : level < 1000 → length (line_shown level kind mark digits) ≡ 72
  shown_length h = ap length front_cut ∙ length-append (front level kind mark digits) (cut_mark digits ∷ []) ∙ omega (arith, front_length h)

  pub shown_ended : level < 1000 → length (ended (line_shown level kind mark digits ∷ [])) ≡ 73
  shown_ended h = omega (arith, shown_length h, length-append (line_shown level kind mark digits) (line_end ∷ []))

  shown_cut : level < 1000 → get_or (line_shown level kind mark digits) 71 0 ≡ cut_mark digits
  shown_cut h = ap (λ (l : Bytes). get_or l 71 0) front_cut ∙ get_or_at (front level kind mark digits) (cut_mark digits) [] 0 71 (front_length h)

-- "Each line .. becomes exactly 72 bytes and a byte 10"
pub line_length : (level : ℕ) (x : Head) → level < 1000 → (length (page_line level x) ≡ 72) × (length (page_line level x ++ (line_end ∷ [])) ≡ 73)
line_length level x h =
    let k = (columns x.shape).kind in
    let mark = nullable_mark x.info in
    (shown_length level k mark (name_digits x.info) h, shown_ended level k mark (name_digits x.info) h)

-- byte 72: "then `+` if the name was cut at 48 digits and a space if it was not"
pub byte_72 : (level : ℕ) (x : Head) → level < 1000 → get_or (page_line level x) 71 0 ≡ cut_mark (name_digits x.info)
byte_72 level x h = shown_cut level (columns x.shape).kind (nullable_mark x.info) (name_digits x.info) h

cut_exactly : (i : Info) → (cut_mark (name_digits (Some i)) ≡ plus_sign) ↔ (24 < length i.name)
cut_exactly i = (go (ltb name_width (length (name_digits (Some i)))) refl, λ l. rw (lt-ltb name_width (length (name_digits (Some i))) (omega (arith, hex_length i.name))))
  where
    go : (t : Bool) → ltb name_width (length (name_digits (Some i))) ≡ t → cond t plus_sign space ≡ plus_sign → 24 < length i.name
    go true l k = omega (arith, ltb-true name_width (length (name_digits (Some i))) l, hex_length i.name)
    go false l k = absurd (omega arith)

-- it is `+` exactly if the name has more than 24 bytes
pub plus_exactly : (level : ℕ) (x : Head) (i : Info) → level < 1000 → x.info ≡ Some i → (get_or (page_line level x) 71 0 ≡ plus_sign) ↔ (24 < length i.name)
plus_exactly level x i h e =
    subst (λ (c : ℕ). (c ≡ plus_sign) ↔ (24 < length i.name)) (sym (byte_72 level x h ∙ ap (λ (o : Option Info). cut_mark (name_digits o)) e)) (cut_exactly i)

-- and a space in a bare line
pub bare_space : (level : ℕ) (x : Head) → level < 1000 → x.info ≡ None → get_or (page_line level x) 71 0 ≡ space
bare_space level x h e = byte_72 level x h ∙ ap (λ (o : Option Info). cut_mark (name_digits o)) e

-- "An empty name and a bare line show 48 spaces"
pub bare_spaces : name_column (name_digits None) ≡ replicate name_width space
bare_spaces = refl

pub empty_spaces : (i : Info) → i.name ≡ [] → name_column (name_digits (Some i)) ≡ replicate name_width space
empty_spaces i e = rw e

-- and differ in the column before
pub bare_differs : (i : Info) → nullable_mark None ≢ nullable_mark (Some i)
bare_differs i = go i.nullable
  where
    go : (b : Bool) → nullable_mark None ≡ cond b 121 110 → ⊥
    go true e = omega arith
    go false e = omega arith

-- ── the levels

abbrev pub placed_level : Placed → ℕ
placed_level x = x.level

not_deeper : (inside : Bool) → to_nat (inside && false) ≡ 0
not_deeper true = refl
not_deeper false = refl

inner_level_lem : (n : ℕ) (t : ArrowDataType) → inner_level n t ≡ n + to_nat (is_extension (type_shape t))
inner_level_lem n t = go (is_extension (type_shape t))
  where
    go : (e : Bool) → cond e (suc n) n ≡ n + to_nat e
    go true = omega arith
    go false = omega arith

mutual
  unfolding tallest

  -- a type whose first line is on level m or, where it is an extension directly in another, one deeper
  type_tallest : (t : ArrowDataType) (i : Option Info) (n m : ℕ) (inside : Bool) → n ≡ m + to_nat (inside && is_extension (type_shape t)) → suc (tallest placed_level (type_placed t i n)) ≡ m + type_levels t inside
  type_tallest (scalar s) i n m inside e = omega (arith, e, not_deeper inside)
  type_tallest (nested g j t) i n m inside e = omega (arith, e, not_deeper inside, type_tallest t (Some j) (suc n) (suc n) false (omega arith))
  type_tallest (grouped g fs) i n m inside e = omega (arith, e, not_deeper inside, fields_tallest fs n)
  type_tallest (dictionary ix ordered t) i n m inside e = omega (arith, e, not_deeper inside, type_tallest t None (suc n) (suc n) false (omega arith))
  type_tallest (extension a b t) i n m true e = omega (arith, e, levels_some true t, type_tallest t None (inner_level n t) n true (inner_level_lem n t))
  type_tallest (extension a b t) i n m false e = omega (arith, e, levels_some true t, type_tallest t None (inner_level n t) n true (inner_level_lem n t))

  fields_tallest : (fs : Fields) (n : ℕ) → max n (tallest placed_level (fields_placed fs (suc n))) ≡ n + fields_levels fs
  fields_tallest nil n = omega arith
  fields_tallest (add i t fs) n =
      omega (arith, tallest_append placed_level (type_placed t (Some i) (suc n)) (fields_placed fs (suc n)), type_tallest t (Some i) (suc n) (suc n) false (omega arith), fields_tallest fs n)

-- the levels of the page are those that 3 is decided by
pub page_levels : (f : Field) → tallest placed_level (placed_lines f) ≡ field_levels f
page_levels f = omega (arith, type_tallest f.type (Some f.info) 1 1 false refl)

abbrev FromOne : Placed → Type 0
FromOne x = 1 ≤ x.level

mutual
  type_first : (t : ArrowDataType) (i : Option Info) (n : ℕ) → 1 ≤ n → Each FromOne (type_placed t i n)
  type_first (scalar s) i n h = (h, tt)
  type_first (nested g j t) i n h = (h, type_first t (Some j) (suc n) (omega arith))
  type_first (grouped g fs) i n h = (h, fields_first fs (suc n) (omega arith))
  type_first (dictionary ix ordered t) i n h = (h, type_first t None (suc n) (omega arith))
  type_first (extension a m t) i n h = (h, type_first t None (inner_level n t) (omega (arith, inner_level_lem n t)))

  fields_first : (fs : Fields) (n : ℕ) → 1 ≤ n → Each FromOne (fields_placed fs n)
  fields_first nil n h = tt
  fields_first (add i t fs) n h = each_both FromOne (type_placed t (Some i) n) (fields_placed fs n) (type_first t (Some i) n h) (fields_first fs n h)

within : (top : ℕ) (l : List Placed) → tallest placed_level l ≤ top → Each FromOne l → Each (λ (x : Placed). (1 ≤ x.level) × (x.level ≤ top)) l
unfolding tallest
within top [] h k = tt
within top (x ∷ l) h k = ((k.0, omega arith), within top l (omega arith) k.1)

-- so the lines of a sheet that is read have levels from 1 to 32
pub levels_within : (b : Bytes) (f : Field) → read_field_sheet b ≡ given f → Each (λ (x : Placed). (1 ≤ x.level) × (x.level ≤ level_limit)) (placed_lines f)
levels_within b f e =
    within level_limit (placed_lines f) (omega (arith, page_levels f, leb-true (field_levels f) level_limit (field_read b f e).1)) (type_first f.type (Some f.info) 1 (omega arith))

-- ── line by line from the sheet

abbrev pub sheet_line : Placed → Bytes
sheet_line x = head_text x.line

mutual
  type_texts : (t : ArrowDataType) (i : Option Info) (n : ℕ) → map sheet_line (type_placed t i n) ≡ type_lines t i
  type_texts (scalar s) i n = refl
  type_texts (nested g j t) i n = rw (type_texts t (Some j) (suc n))
  type_texts (grouped g fs) i n = rw (fields_texts fs (suc n))
  type_texts (dictionary ix ordered t) i n = rw (type_texts t None (suc n))
  type_texts (extension a m t) i n = rw (type_texts t None (inner_level n t))

  fields_texts : (fs : Fields) (n : ℕ) → map sheet_line (fields_placed fs n) ≡ fields_lines fs
  fields_texts nil n = refl
  fields_texts (add i t fs) n = map-append sheet_line (type_placed t (Some i) n) (fields_placed fs n) ∙ ap₂ ◌++◌ (type_texts t (Some i) n) (fields_texts fs n)

-- "Each line below the heading, in sheet order": line i of the page is line i of the sheet, and there are as many
pub page_lines : (f : Field) → map sheet_line (placed_lines f) ≡ type_lines f.type (Some f.info)
page_lines f = type_texts f.type (Some f.info) 1

pub page_count : (f : Field) → length (placed_lines f) ≡ length (type_lines f.type (Some f.info))
page_count f = sym (length-map (placed_lines f) sheet_line) ∙ ap length (page_lines f)

-- a sheet that was read has these lines
pub lines_read : (b : Bytes) (f : Field) → read_field_sheet b ≡ given f → read_sheet field_heading b ≡ given (type_lines f.type (Some f.info))
lines_read b f e =
    let k = (field_read b f e).0 in
    ap (read_sheet field_heading) (field_sheet_read b f e)
    ∙ read_sheet_lem field_heading (type_lines f.type (Some f.info)) (type_ends f.type (Some f.info) k.0 k.1) (field_sheet_short b f e)

read_head_lem : (s : Shape) (i : Option Info) (n : ℕ) → Meets (shape_rule s) → Meets (own_rule i) → read_head (head_text (head_with s i n)) ≡ given (head_with s i n)
read_head_lem s i n h k = rw (read_line_lem s i n h k, read_shape_lem s h, read_info_lem i k)

abbrev Read : Placed → Type 0
Read x = read_head (sheet_line x) ≡ given x.line

mutual
  type_reads : (t : ArrowDataType) (i : Option Info) (n : ℕ) → Meets (own_rule i) → Meets (type_rule t) → Each Read (type_placed t i n)
  type_reads (scalar s) i n k h = (read_head_lem (of_scalar s) i 0 h k, tt)
  type_reads (nested g j t) i n k h = (read_head_lem (of_nesting g) i 1 h.0 k, type_reads t (Some j) (suc n) h.1.0 h.1.1)
  type_reads (grouped g fs) i n k h = (read_head_lem (of_grouping g) i (count_fields fs) h.0 k, fields_reads fs (suc n) h.1)
  type_reads (dictionary ix ordered t) i n k h = (read_head_lem (of_dictionary ix ordered) i 1 h.0 k, type_reads t None (suc n) refl h.1)
  type_reads (extension a m t) i n k h = (read_head_lem (of_extension a m) i 1 (h.0, h.1.0) k, type_reads t None (inner_level n t) refl h.1.1)

  fields_reads : (fs : Fields) (n : ℕ) → Meets (fields_rule fs) → Each Read (fields_placed fs n)
  fields_reads nil n h = tt
  fields_reads (add i t fs) n h = each_both Read (type_placed t (Some i) n) (fields_placed fs n) (type_reads t (Some i) n h.0 h.1.0) (fields_reads fs n h.1.1)

-- a line of the sheet as it is shown on a level
abbrev shown_head : ℕ → Answer Head → Bytes
shown_head level (refused r) = []
shown_head level (given x) = page_line level x

abbrev pub shown_from : ℕ → Bytes → Bytes
shown_from level l = shown_head level (read_head l)

shown_each : (ps : List Placed) → Each Read ps → map placed_text ps ≡ zip_with shown_from (map placed_level ps) (map sheet_line ps)
unfolding zip_with
shown_each [] h = refl
shown_each (p ∷ ps) h = ap₂ ◌∷◌ (sym (ap (shown_head p.level) h.0)) (shown_each ps h.1)

-- "The page is proved line by line from the sheet": line i of the page is worked out from line i of the sheet and its level alone
pub page_from_sheet : (b : Bytes) (f : Field) (ls : List Bytes) → read_field_sheet b ≡ given f → read_sheet field_heading b ≡ given ls → page f ≡ ended (zip_with shown_from (map placed_level (placed_lines f)) ls)
page_from_sheet b f ls e r =
    let k = (field_read b f e).0 in
    let is : map sheet_line (placed_lines f) ≡ ls = page_lines f ∙ same_given (sym (lines_read b f e) ∙ r) in
    ap ended (shown_each (placed_lines f) (type_reads f.type (Some f.info) 1 k.0 k.1) ∙ ap (zip_with shown_from (map placed_level (placed_lines f))) is)

-- ── lines of one length

-- they are as many bytes as there are lines times one more than that
pub ended_length : (w : ℕ) (ls : List Bytes) → Each (λ (l : Bytes). length l ≡ w) ls → length (ended ls) ≡ suc w * length ls
ended_length w [] h = sym (mul-zero (suc w))
ended_length w (l ∷ ls) h = omega (arith, length-append l (line_end ∷ ended ls), h.0, ended_length w ls h.1, mul-suc (suc w) (length ls))

-- and each stands where they say
pub line_stands : (w i : ℕ) (ls : List Bytes) (d : Bytes) → Each (λ (l : Bytes). length l ≡ w) ls → i < length ls → take (suc w) (drop (suc w * i) (ended ls)) ≡ get_or ls i d ++ (line_end ∷ [])
line_stands w i [] d h k = absurd (omega arith)
line_stands w zero (l ∷ ls) d h k =
    rw (mul-zero (suc w))
    (ap (take (suc w)) (sym (append_assoc l (line_end ∷ []) (ended ls))) ∙ take_at (l ++ (line_end ∷ [])) (ended ls) (suc w) (omega (arith, h.0, length-append l (line_end ∷ []))))
line_stands w (suc i) (l ∷ ls) d h k =
    let n : length (l ++ (line_end ∷ [])) ≡ suc w = omega (arith, h.0, length-append l (line_end ∷ [])) in
    let first : drop (suc w) (l ++ (line_end ∷ ended ls)) ≡ ended ls = ap (drop (suc w)) (sym (append_assoc l (line_end ∷ []) (ended ls))) ∙ drop_at (l ++ (line_end ∷ [])) (ended ls) (suc w) n in
    ap (λ (m : ℕ). take (suc w) (drop m (l ++ (line_end ∷ ended ls)))) (mul-suc (suc w) i ∙ add_comm (suc w * i) (suc w))
    ∙ ap (take (suc w)) (sym (drop-drop (suc w * i) (suc w) (l ++ (line_end ∷ ended ls))) ∙ ap (drop (suc w * i)) first)
    ∙ line_stands w i ls d h.1 (omega arith)

each_map : (P : Bytes → Type 0) (l : List Placed) → Each (λ (x : Placed). P (placed_text x)) l → Each P (map placed_text l)
each_map P [] h = tt
each_map P (x ∷ l) h = (h.0, each_map P l h.1)

module _ (b : Bytes) (f : Field) (e : read_field_sheet b ≡ given f) where
  lines_72 : Each (λ (l : Bytes). length l ≡ 72) (map placed_text (placed_lines f))
  lines_72 =
      each_map (λ (l : Bytes). length l ≡ 72) (placed_lines f)
      (each_change (λ (x : Placed). (1 ≤ x.level) × (x.level ≤ level_limit)) (λ (x : Placed). length (placed_text x) ≡ 72) (λ x h. (line_length x.level x.line (omega (arith, h.1))).0) (placed_lines f) (levels_within b f e))

  -- a page of n lines has 73 n bytes
  pub page_length : length (page f) ≡ 73 * length (placed_lines f)
  page_length = ended_length 72 (map placed_text (placed_lines f)) lines_72 ∙ ap (λ (n : ℕ). 73 * n) (length-map (placed_lines f) placed_text)

  -- line i is its 73 bytes from 73 i on
  pub line_at : (i : ℕ) (d : Placed) → i < length (placed_lines f) → take 73 (drop (73 * i) (page f)) ≡ placed_text (get_or (placed_lines f) i d) ++ (line_end ∷ [])
  line_at i d h =
      line_stands 72 i (map placed_text (placed_lines f)) (placed_text d) lines_72 (omega (arith, h, length-map (placed_lines f) placed_text))
      ∙ ap (λ (l : Bytes). l ++ (line_end ∷ [])) (get_or-map placed_text (placed_lines f) i d)

  -- ── the call

  pub paged_given : paged b ≡ given (page f)
  unfolding paged
  paged_given = rw e

  -- "a buffer one byte too small gets 16"
  pub page_sixteen : (out : Bytes) → ((page_outcome b out).number ≡ no_room) ↔ (length out < 73 * length (placed_lines f))
  page_sixteen out = (there, back)
    where
      there : (page_outcome b out).number ≡ no_room → length out < 73 * length (placed_lines f)
      there h =
          let w = (sixteen_exactly (paged b) out).0 h in
          omega (arith, w.2, ap length (same_given (sym paged_given ∙ w.1)), page_length)

      back : length out < 73 * length (placed_lines f) → (page_outcome b out).number ≡ no_room
      back h = (sixteen_exactly (paged b) out).1 (page f, paged_given, omega (arith, h, page_length))

  -- and one that is large enough gets the page
  pub page_answered : (out : Bytes) → 73 * length (placed_lines f) ≤ length out → (page_outcome b out ≡ success (page f) out) × ((success (page f) out).size ≡ 73 * length (placed_lines f))
  page_answered out h = (ap (λ (a : Answer Bytes). outcome a out) paged_given ∙ fits (page f) out (omega (arith, h, page_length)), page_length)

-- what a sheet is refused for comes before 16
paged_refused : (b : Bytes) (r : Refusal) → read_field_sheet b ≡ refused r → paged b ≡ refused r
unfolding paged
paged_refused b r e = rw e

pub page_refused : (b out : Bytes) (r : Refusal) → read_field_sheet b ≡ refused r → page_outcome b out ≡ refusal (number_of r) out
page_refused b out r e = ap (λ (a : Answer Bytes). outcome a out) (paged_refused b r e) ∙ turned r out
