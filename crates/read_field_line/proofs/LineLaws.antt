-- A line of a field sheet at a place: a tree begins with a line whose columns are where code finds them. A law for each part that can be missing, and one
-- for the whole line. Assumes nothing.
use mathlib.Core.Path.{◌≡◌, refl, sym, ◌∙◌, ap, subst}
use mathlib.Core.Bool.{Bool, true, false, true≢false}
use mathlib.Core.List.{[], ◌∷◌, ◌++◌}
use Rattle.std.specs.Prelude.{Option, None, Some}
use Prim.Native.Nat.{ℕ, suc, ◌+◌, ◌-◌, ◌^◌, ◌≤◌, ◌<◌}
use native.Mathlib.Nat.{add-zero}
use native.Mathlib.Omega.{arith}
use lib.Dec.{eqb}
use lib.ListN.{length, get_or, drop, length-drop, length-append}
use lib.Seq.{get_or-take, get_or-drop}
use Rattle.sheets.specs.Refusal.{bad_lines}
use Rattle.sheets.specs.Rule.{Meets}
use Rattle.sheets.specs.Bytes.{Bytes, lacks}
use Rattle.sheets.specs.Answer.{refused, given, ◌>>=◌}
use Rattle.sheets.specs.Codec.{number, raw, done, ◌▸◌}
use Rattle.sheets.specs.Number.{decimal, read_number}
use Rattle.sheets.specs.Field.{Info}
use Rattle.sheets.specs.FieldSheet.{Shape, Columns, Own, Line, to_nat, columns, info_columns, field_line, columns_of, own_of, children_of, read_shape, read_info}
use Rattle.sheets.specs.LineTrees.{Row}
use Rattle.sheets.specs.FieldTrees.{Head, read_head, shape_rule, own_rule, children_rule, fields}
use Rattle.sheets.specs.TreeWalks.{HasTree}
use Rattle.sheets.proofs.Tests.{first_gave, same_given, meets, passing}
use Rattle.sheets.proofs.InverseLaws.{number_read}
use Rattle.sheets.proofs.LineTrees.{Begins, row_begins, standing_begins}
use Rattle.sheets.proofs.FieldTrees.{fields_lawful}
use Rattle.columns.specs.Columns.{part, part_of, ColumnAt}
use Rattle.columns.specs.Tails.{Tail}
use Rattle.columns.specs.declared.Part.{Part}
use Rattle.columns.proofs.ColumnLaws.{column_size}
use Rattle.columns.proofs.NumberFindLaws.{FindsNumber}
use Rattle.columns.proofs.TailLaws.{tail_cons, tail_end, tail_last, last_bad}
use Rattle.field_columns.specs.Lists.{is_ids, is_pairs}
use Rattle.field_columns.specs.FieldColumns.{is_nothing, is_some_text, is_optional_text, is_flag, is_content}
use Rattle.field_columns.specs.declared.Content.{Content}
use Rattle.field_columns.specs.declared.Content.TheVariants as C
use Rattle.field_kinds.specs.FieldKinds.{text_content, more_content, flag_content, pairs_content, children_fit}
use Rattle.field_kinds.proofs.ShapeLaws.{children_kind, fits_shape}
use Rattle.field_kinds.proofs.InfoLaws.{fits_info}
use Rattle.read_field_line.specs.Stages.{field_row, own_row, TypeStands, OwnStands, TypeAt, ReadsType, OwnAt, ReadsOwn}
use Rattle.read_field_line.specs.FieldLines.{PartAt, flag_of, FieldLineAt}
use Rattle.read_field_line.specs.declared.types.TypeColumns.{TypeColumns}
use Rattle.read_field_line.specs.declared.own.OwnColumns.{OwnColumns}
use Rattle.read_field_line.proofs.StageLaws.{the_kind, own_tail, children_tail}

-- ── what a line says, by its columns

head_read : (b : Bytes) (x : Line) (s : Shape) (i : Option Info) → field_line.read b ≡ given x → read_shape (columns_of x) ≡ given s → read_info (own_of x) ≡ given i
    → read_head b ≡ given (record { shape = s; info = i; children = children_of x })
head_read b x s i p q r = rw p (rw q (rw r refl))

-- the columns of the line that says h
record HeadOf (b : Bytes) (h : Head) : Type 0 where
  line : Line
  reads : field_line.read b ≡ given line
  is_shape : read_shape (columns_of line) ≡ given h.shape
  is_info : read_info (own_of line) ≡ given h.info
  children : children_of line ≡ h.children

head_of : (b : Bytes) (h : Head) → read_head b ≡ given h → HeadOf b h
head_of b h e =
    let x = first_gave (field_line.read b) (λ l. read_shape (columns_of l) >>= λ s. read_info (own_of l) >>= λ i. given (record { shape = s; info = i; children = children_of l })) h e in
    let s = first_gave (read_shape (columns_of x.0)) (λ s. read_info (own_of x.0) >>= λ i. given (record { shape = s; info = i; children = children_of x.0 })) h x.2 in
    let i = first_gave (read_info (own_of x.0)) (λ i. given (record { shape = s.0; info = i; children = children_of x.0 })) h s.2 in
    subst (HeadOf b) (same_given i.2) (record { line = x.0; reads = x.1; is_shape = s.1; is_info = i.1; children = refl })

-- ── the first line of a tree

-- a line that keeps its rules stands here, its column `children` is right, and it has no more children than there are bytes after it
pub record First (s : Bytes) (at : ℕ) : Type 0 where
  pub bytes : Bytes
  pub rest : Bytes
  pub line : Line
  pub head : Head
  pub is : drop at s ≡ bytes ++ (10 ∷ rest)
  pub free : Meets (lacks 10 bytes)
  pub reads : field_line.read bytes ≡ given line
  pub is_shape : read_shape (columns_of line) ≡ given head.shape
  pub is_info : read_info (own_of line) ≡ given head.info
  pub info_kept : Meets (own_rule head.info)
  pub shape_kept : Meets (shape_rule head.shape)
  pub below : Meets (children_rule head.shape (children_of line))
  pub few : children_of line ≤ length rest

module _ (s : Bytes) (at : ℕ) where
  begins_first : {bare : Bool} → Begins fields bare (drop at s) → First s at
  begins_first b =
      let h = head_of b.bytes b.line b.reads in
      record {
        bytes = b.bytes;
        rest = b.rest;
        line = h.line;
        head = b.line;
        is = b.is;
        free = b.free;
        reads = h.reads;
        is_shape = h.is_shape;
        is_info = h.is_info;
        info_kept = b.own.0;
        shape_kept = b.own.1;
        below = subst (λ (n : ℕ). Meets (children_rule b.line.shape n)) (sym h.children) b.counts;
        few = omega (arith, b.few, h.children);
      }

  pub row_first : {bare : Bool} {q : ℕ} → Row fields (suc q) bare (drop at s) → First s at
  row_first r = begins_first (row_begins fields_lawful r)

  pub tree_first : HasTree fields s at → First s at
  tree_first h = begins_first (standing_begins fields_lawful h.0 h.1 (drop at s) h.2)

-- ── parts that are missing

module _ (s : Bytes) (at : ℕ) (b : First s at) where
  pub type_stands : TypeStands s at b.line b.rest
  type_stands =
      record {
        tail = record { bytes = b.bytes; is = b.is; free = b.free; reads = b.reads };
        shape = b.head.shape;
        reads = b.is_shape;
        rule = b.shape_kept;
      }

  -- no more children than bytes
  pub few_children : length s < 2 ^ 64 → children_of b.line < 2 ^ 64
  few_children fits = omega (arith, b.few, ap length b.is, length-append b.bytes (10 ∷ b.rest), length-drop at s)

  -- the column `children` is right for the kind
  pub kind_children : children_fit (columns_of b.line).kind (children_of b.line) ≡ true
  kind_children =
      sym (children_kind (columns_of b.line) b.head.shape b.is_shape b.shape_kept (children_of b.line)) ∙ passing (children_rule b.head.shape (children_of b.line)) b.below

  module _ {t : TypeColumns} (a : TypeAt s at t) where
    pub own_stands : OwnStands s (t.end + 1) b.line.1.1.1.1.1 b.rest
    own_stands = record { tail = own_tail type_stands a.numbers a.text_at a.more_at; info = b.head.info; reads = b.is_info; rule = b.info_kept }

    module _ {o : OwnColumns} (d : OwnAt s (t.end + 1) o) where
      pub children_stand : Tail (number ▸ done) s (o.end + 1) b.line.1.1.1.1.1.1.1.1 b.rest
      children_stand = children_tail own_stands d.name_at o.bare d.bare_is d.flag_at d.pairs_at

module _ (s : Bytes) (at : ℕ) (first : First s at) where
  pub type_missing : ReadsType s at (refused bad_lines) → ⊥
  type_missing h = h.1 first.line first.rest (type_stands s at first)

  module _ {t : TypeColumns} (a : TypeAt s at t) where
    pub own_missing : ReadsOwn s (t.end + 1) (refused bad_lines) → ⊥
    own_missing h = h.1 first.line.1.1.1.1.1 first.rest (own_stands s at first a)

    module _ {o : OwnColumns} (d : OwnAt s (t.end + 1) o) where
      pub children_missing : length s < 2 ^ 64 → FindsNumber s (o.end + 1) 10 (refused bad_lines) → ⊥
      children_missing fits h = last_bad number (children_stand s at first a d) (λ f c r. h f _ c r (few_children s at first fits))

      pub children_unfit : {f n : ℕ} → ColumnAt s (o.end + 1) f 10 → read_number (part s (o.end + 1) f) ≡ given n → children_fit t.kind n ≡ false → ⊥
      children_unfit {f} {n} c r wrong =
          let m : children_of first.line ≡ n = same_given (sym (tail_last number (children_stand s at first a d) c).0 ∙ r) in
          let k : (columns_of first.line).kind ≡ t.kind = the_kind (type_stands s at first) a.numbers in
          true≢false (sym (kind_children s at first) ∙ ap (λ (j : ℕ). children_fit j (children_of first.line)) k ∙ ap (children_fit t.kind) m ∙ wrong)

-- ── columns are not empty

content_none : (k : Content) → is_content k [] ≡ false
unfolding is_nothing is_optional_text is_some_text is_ids is_flag is_pairs
content_none C.Nothing = refl
content_none C.OptionalText = refl
content_none C.Text = refl
content_none C.Ids = refl
content_none C.Flag = refl
content_none C.Pairs = refl

content_some : (k : Content) (c : Bytes) → is_content k c ≡ true → 0 < length c
content_some k [] h = absurd (true≢false (sym h ∙ content_none k))
content_some k (x ∷ c) h = omega arith

-- a column that holds something
pub column_some : {s : Bytes} {a e stop : ℕ} → ColumnAt s a e stop → is_optional_text (part s a e) ≡ true → a < e
column_some {s} {a} {e} {stop} c h = omega (arith, content_some C.OptionalText (part s a e) h, column_size c)

part_at : {s : Bytes} {a e stop : ℕ} (k : Content) → ColumnAt s a e stop → is_content k (part s a e) ≡ true → {p : Part} → p ≡ part_of a e → PartAt s p (part s a e)
part_at {s} {a} {e} {stop} k c h {p} same =
    subst (λ (q : Part). PartAt s q (part s a e)) (sym same)
    (record { some = omega (arith, content_some k (part s a e) h, column_size c); within = omega (arith, c.high); is = refl })

-- ── `nullable`

flag_byte : (i : Option Info) → eqb (get_or (info_columns i).1.0 0 0) 49 ≡ flag_of i
unfolding decimal
flag_byte None = refl
flag_byte (Some i) = go i.nullable
  where
    go : (b : Bool) → eqb (get_or (decimal (to_nat b)) 0 0) 49 ≡ b
    go true = refl
    go false = refl

flag_one : (i : Option Info) → length (info_columns i).1.0 ≡ 1
unfolding decimal
flag_one None = refl
flag_one (Some i) = go i.nullable
  where
    go : (b : Bool) → length (decimal (to_nat b)) ≡ 1
    go true = refl
    go false = refl

pub flag_shown : (s : Bytes) (a e : ℕ) (i : Option Info) → a < e → (info_columns i).1.0 ≡ part s a e → eqb (get_or s a 0) 49 ≡ flag_of i
flag_shown s a e i l h =
    ap (λ (b : ℕ). eqb b 49) (sym (get_or-take (e - a) (drop a s) 0 0 (omega arith) ∙ get_or-drop a s 0 0 ∙ ap (λ (j : ℕ). get_or s j 0) (add-zero a)) ∙ ap (λ (c : Bytes). get_or c 0 0) (sym h))
    ∙ flag_byte i

-- ── the line that is there

pub line_there : {s : Bytes} {at : ℕ} {t : TypeColumns} (a : TypeAt s at t) {o : OwnColumns} (d : OwnAt s (t.end + 1) o) {e n : ℕ} → ColumnAt s (o.end + 1) e 10
    → read_number (part s (o.end + 1) e) ≡ given n → children_fit t.kind n ≡ true
    → FieldLineAt s at
    (record {
      kind = t.kind;
      p = t.p;
      q = t.q;
      text = t.text;
      more = t.more;
      name = o.name;
      bare = o.bare;
      nullable = o.nullable;
      pairs = o.pairs;
      children = n;
      end = e + 1;
    })
line_there {s} {at} {t} a {o} d {e} {n} ce he fit =
    let m = a.numbers in
    let x : Line = (t.kind, (t.p, (t.q, (part s (a.q_end + 1) a.text_end, (part s (a.text_end + 1) t.end, (part s (t.end + 1) d.name_end, (part s (d.name_end + 1) d.flag_end, (part s (d.flag_end + 1) o.end, (n, tt))))))))) in
    let own : Tail own_row s (t.end + 1) x.1.1.1.1.1 (drop (e + 1) s) =
    tail_cons raw _ d.name_at refl (tail_cons raw _ d.flag_at refl (tail_cons raw _ d.pairs_at refl (tail_end number ce he))) in
    let w : Tail field_row s at x (drop (e + 1) s) =
    tail_cons number _ m.kind_at m.kind_is (tail_cons number _ m.p_at m.p_is (tail_cons number _ m.q_at m.q_is (tail_cons raw _ a.text_at refl (tail_cons raw _ a.more_at refl own)))) in
    let sh = fits_shape (columns_of x) a.fits in
    let inf = fits_info (own_of x) d.fits in
    let written : columns_of x ≡ columns sh.shape = sym sh.written in
    let flag = part_at (flag_content (is_nothing (part s (t.end + 1) d.name_end))) d.flag_at d.fits.flag_fit {p = part_of (d.name_end + 1) d.flag_end} refl in
    record {
      line = record { shape = sh.shape; info = inf.info; children = n };
      there =
          record {
            bytes = w.bytes;
            is = w.is;
            free = w.free;
            reads = head_read w.bytes x sh.shape inf.info w.reads sh.reads inf.reads;
            counts = meets (children_rule sh.shape n) (children_kind (columns_of x) sh.shape sh.reads sh.rule n ∙ fit);
            own = (inf.rule, sh.rule);
            low = omega (arith, m.kind_at.low, m.p_at.low, m.q_at.low, a.text_at.low, a.more_at.low, d.name_at.low, d.flag_at.low, d.pairs_at.low, ce.low);
            high = omega (arith, ce.high);
          };
      shows =
          record {
            kind = ap (λ (c : Columns). c.kind) written;
            p = ap (λ (c : Columns). c.p) written;
            q = ap (λ (c : Columns). c.q) written;
            text = subst (λ (c : Columns). PartAt s t.text c.text) written (part_at (text_content t.kind) a.text_at a.fits.text_fit a.text_is);
            more = subst (λ (c : Columns). PartAt s t.more c.more) written (part_at (more_content t.kind) a.more_at a.fits.more_fit a.more_is);
            name = subst (λ (c : Own). PartAt s o.name c.0) (sym inf.written) (part_at C.OptionalText d.name_at d.fits.name_fit d.name_is);
            bare = d.bare_is ∙ inf.bare;
            nullable = d.flag_is ∙ flag_shown s (d.name_end + 1) d.flag_end inf.info flag.some (ap (λ (y : Own). y.1.0) inf.written);
            pairs = subst (λ (c : Own). PartAt s o.pairs c.1.1) (sym inf.written) (part_at (pairs_content (is_nothing (part s (t.end + 1) d.name_end))) d.pairs_at d.fits.pairs_fit d.pairs_is);
            children = refl;
            flag = omega (arith, ap (λ (q : Part). q.end) d.name_is, ap (λ (q : Part). q.start) d.pairs_is, column_size d.flag_at, d.flag_at.low, ap (λ (y : Own). length y.1.0) inf.written, flag_one inf.info);
            last = omega (arith, ap (λ (q : Part). q.end) d.pairs_is, column_size ce, ce.low, ap length (number_read (part s (o.end + 1) e) n he));
          };
    }
