-- A line that is known to stand, walked from column to column: each end that is looked for is the column's, so that all that the line says is where it
-- is read. Of the texts it is known that they are texts, but for a union's ids. Assumes nothing.
use mathlib.Core.Path.{◌≡◌, refl, sym, ◌∙◌, ap, ap₂, subst}
use mathlib.Core.Bool.{Bool, true, false, cond, and-false, true≢false}
use mathlib.Core.List.{[], ◌∷◌}
use Rattle.std.specs.Prelude.{Option, None, Some}
use Prim.Native.Nat.{ℕ, ◌+◌, ◌-◌, ◌/◌, ◌^◌, ◌<◌}
use native.Mathlib.Nat.{add-zero}
use native.Mathlib.Omega.{arith}
use lib.Dec.{eqb, ltb}
use lib.ListN.{length, get_or, drop}
use lib.Seq.{get_or-take, get_or-drop}
use borrow.Author.Tests.{ltb-true, ne_eqb, eqb-true, eqb-false}
use Rattle.sheets.specs.Rule.{Meets}
use Rattle.sheets.specs.Bytes.{Bytes}
use Rattle.sheets.specs.Answer.{given}
use Rattle.sheets.specs.Codec.{number, raw, done, ◌▸◌}
use Rattle.sheets.specs.Number.{read_number}
use Rattle.sheets.specs.Text.{hex_digit, write_text}
use Rattle.sheets.specs.Kind
use Rattle.sheets.specs.Field.{text_rule}
use Rattle.sheets.specs.FieldSheet.{Line, no_text, columns_of, children_of}
use Rattle.sheets.specs.FieldTrees.{fields}
use Rattle.sheets.specs.TreeWalks.{HasTree}
use Rattle.sheets.proofs.Tests.{same_given}
use Rattle.sheets.proofs.BytesLaws.{same_eq}
use Rattle.sheets.proofs.Utf8Laws.{utf8_bytes}
use Rattle.columns.specs.Columns.{part, stop_from, ColumnAt}
use Rattle.columns.specs.Tails.{Tail}
use Rattle.columns.specs.NumberColumns.{HasNumber}
use Rattle.columns.specs.TextColumns.{is_text, HasText}
use Rattle.columns.proofs.ColumnLaws.{column_size}
use Rattle.columns.proofs.TailLaws.{tail_next, tail_last, found, last_found}
use Rattle.field_columns.specs.FieldColumns.{is_nothing, is_optional_text, is_content}
use Rattle.field_columns.specs.declared.Content.TheVariants as C
use Rattle.field_columns.proofs.ContentLaws.{optional_text, some_text, nothing_text, flag_long}
use Rattle.field_kinds.specs.FieldKinds.{text_content, more_content, flag_content, pairs_content, children_fit, Fits, OwnFits}
use Rattle.field_kinds.proofs.ShapeLaws.{text_is_lem}
use Rattle.read_field_line.specs.Stages.{OwnLine, own_row, TypeStands, OwnStands, TypeAt, OwnAt, HasTypeText, HasTypeColumns, HasOwnColumns, bare_own}
use Rattle.read_field_line.specs.FieldLines.{FieldLineAt}
use Rattle.read_field_line.specs.declared.types.TypeColumns.{TypeColumns}
use Rattle.read_field_line.specs.declared.own.OwnColumns.{OwnColumns}
use Rattle.read_field_line.proofs.StageLaws.{stood, small, p_tail, q_tail, text_tail, kind_reads, p_reads, q_reads, kind_is_lem, p_is_lem, q_is_lem, the_kind, owned, flag_tail, name_is_lem}
use Rattle.read_field_line.proofs.LineLaws.{First, tree_first, type_stands, own_stands, children_stand, few_children, kind_children, line_there, column_some}

-- ── kind p q text more

module _ {s : Bytes} {at : ℕ} {x : Line} {rest : Bytes} (w : TypeStands s at x rest) {f : ℕ} (ef : f ≡ stop_from s at) where
  pub kind_known : ColumnAt s at f 32
  kind_known = (found number number (number ▸ raw ▸ raw ▸ own_row) w.tail ef).column

  module _ {g : ℕ} (eg : g ≡ stop_from s (f + 1)) where
    pub p_known : ColumnAt s (f + 1) g 32
    p_known = (found number number (raw ▸ raw ▸ own_row) (p_tail w kind_known) eg).column

    module _ {h : ℕ} (eh : h ≡ stop_from s (g + 1)) where
      pub q_known : ColumnAt s (g + 1) h 32
      q_known = (found number raw (raw ▸ own_row) (q_tail w kind_known p_known) eh).column

      module _ {i : ℕ} (ei : i ≡ stop_from s (h + 1)) where
        pub text_known : ColumnAt s (h + 1) i 32
        text_known = (found raw raw own_row (text_tail w kind_known p_known q_known) ei).column

        text_next : (part s (h + 1) i ≡ x.1.1.1.0) × Tail (raw ▸ own_row) s (i + 1) x.1.1.1.1 rest
        text_next = let t = tail_next raw (raw ▸ own_row) (text_tail w kind_known p_known q_known) text_known in (same_given t.0, t.1)

        module _ {j : ℕ} (ej : j ≡ stop_from s (i + 1)) where
          pub more_known : ColumnAt s (i + 1) j 32
          more_known = (found raw raw (raw ▸ raw ▸ number ▸ done) text_next.1 ej).column

          more_is_lem : part s (i + 1) j ≡ x.1.1.1.1.0
          more_is_lem = same_given (tail_next raw own_row text_next.1 more_known).0

          pub type_known : {k p q : ℕ} → read_number (part s at f) ≡ given k → read_number (part s (f + 1) g) ≡ given p → read_number (part s (g + 1) h) ≡ given q
              → TypeAt s at (record { kind = k; p = p; q = q; text = record { start = h + 1; end = i }; more = record { start = i + 1; end = j }; end = j })
          type_known {k} {p} {q} rk rp rq =
              let ek : x.0 ≡ k = kind_is_lem w kind_known p_known q_known rk rp rq in
              let ep : x.1.0 ≡ p = p_is_lem w kind_known p_known q_known rk rp rq in
              let eq : x.1.1.0 ≡ q = q_is_lem w kind_known p_known q_known rk rp rq in
              let fits : Fits (record { kind = k; p = p; q = q; text = part s (h + 1) i; more = part s (i + 1) j }) =
              subst Fits (λ z. record { kind = ek z; p = ep z; q = eq z; text = sym text_next.0 z; more = sym more_is_lem z }) (stood w) in
              record {
                q_end = h;
                text_end = i;
                numbers =
                    record {
                      kind_end = f;
                      p_end = g;
                      kind_at = kind_known;
                      p_at = p_known;
                      q_at = q_known;
                      kind_is = rk;
                      p_is = rp;
                      q_is = rq;
                      p_fit = fits.p_fit;
                      q_fit = fits.q_fit;
                    };
                text_at = text_known;
                more_at = more_known;
                text_is = refl;
                more_is = refl;
                fits = fits;
              }

-- the numbers that stand there
module _ {s : Bytes} {at : ℕ} {x : Line} {rest : Bytes} (w : TypeStands s at x rest) where
  pub kind_number : HasNumber s at
  kind_number = let k = kind_known w refl in let p = p_known w refl refl in (_, 32, k, refl, x.0, kind_reads w k p (q_known w refl refl refl), (small w).kind_small)

  module _ {f : ℕ} (ef : f ≡ stop_from s at) where
    pub p_number : HasNumber s (f + 1)
    p_number = let p = p_known w ef refl in (_, 32, p, refl, x.1.0, p_reads w (kind_known w ef) p (q_known w ef refl refl), (small w).p_small)

    pub q_number : {g : ℕ} → g ≡ stop_from s (f + 1) → HasNumber s (g + 1)
    q_number eg = let q = q_known w ef eg refl in (_, 32, q, refl, x.1.1.0, q_reads w (kind_known w ef) (p_known w ef eg) q, (small w).q_small)

-- the texts that stand there
kind_text : (k : ℕ) (c : Bytes) → eqb k Kind.Union ≡ false → is_content (text_content k) c ≡ true → is_text c ≡ true
kind_text k c e h = pick (eqb k Kind.Timestamp) (eqb k Kind.Extension) (eqb k Kind.Union) e h
  where
    pick : (t u v : Bool) → v ≡ false → is_content (cond t C.OptionalText (cond u C.Text (cond v C.Ids C.Nothing))) c ≡ true → is_text c ≡ true
    pick true u v e h = optional_text c h
    pick false true v e h = some_text c h
    pick false false true e h = absurd (true≢false e)
    pick false false false e h = nothing_text c h

kind_more : (k : ℕ) (c : Bytes) → is_content (more_content k) c ≡ true → is_text c ≡ true
kind_more k c h = pick (eqb k Kind.Extension) h
  where
    pick : (t : Bool) → is_content (cond t C.OptionalText C.Nothing) c ≡ true → is_text c ≡ true
    pick true h = optional_text c h
    pick false h = nothing_text c h

pub other_text : {s : Bytes} {at : ℕ} (k : ℕ) → eqb k Kind.Union ≡ false → HasTypeText s at k → HasText s at
other_text {s} {at} k e h = (h.0, h.1, kind_text k (part s at h.0) e h.2)

module _ {s : Bytes} {at : ℕ} {x : Line} {rest : Bytes} (w : TypeStands s at x rest) {f g h : ℕ} (ef : f ≡ stop_from s at) (eg : g ≡ stop_from s (f + 1)) (eh : h ≡ stop_from s (g + 1)) where
  pub text_there : {k p q : ℕ} → read_number (part s at f) ≡ given k → read_number (part s (f + 1) g) ≡ given p → read_number (part s (g + 1) h) ≡ given q → HasTypeText s (h + 1) k
  text_there {k} {p} {q} rk rp rq =
      let ek : x.0 ≡ k = kind_is_lem w (kind_known w ef) (p_known w ef eg) (q_known w ef eg eh) rk rp rq in
      (_, text_known w ef eg eh refl, ap₂ (λ (j : ℕ) (c : Bytes). is_content (text_content j) c) (sym ek) (text_next w ef eg eh refl).0 ∙ (stood w).text_fit)

  pub more_there : {i : ℕ} → i ≡ stop_from s (h + 1) → HasText s (i + 1)
  more_there ei = (_, more_known w ef eg eh ei refl, ap is_text (more_is_lem w ef eg eh ei refl) ∙ kind_more x.0 x.1.1.1.1.0 (stood w).more_fit)

-- ── name nullable pairs

digit_other : (d : ℕ) → d < 16 → eqb (hex_digit d) 126 ≡ false
digit_other d h = pick (ltb d 10) refl
  where
    pick : (t : Bool) → ltb d 10 ≡ t → eqb (cond t (48 + d) (87 + d)) 126 ≡ false
    pick true e = ne_eqb (48 + d) 126 (λ q. omega arith)
    pick false e = ne_eqb (87 + d) 126 (λ q. omega arith)

nothing_is : (c : Bytes) → is_nothing c ≡ true → c ≡ 126 ∷ []
unfolding is_nothing
nothing_is c h = sym (same_eq no_text c h)

flag_size : (c : Bytes) → is_content C.Flag c ≡ true → length c ≡ 1
flag_size c h = pick (eqb (length c) 1) refl
  where
    pick : (t : Bool) → eqb (length c) 1 ≡ t → length c ≡ 1
    pick true e = eqb-true (length c) 1 e
    pick false e = absurd (true≢false (sym h ∙ flag_long c (eqb-false (length c) 1 e)))

-- the column's first byte
first_byte : {s : Bytes} {a e x : ℕ} {c : Bytes} → ColumnAt s a e 32 → part s a e ≡ x ∷ c → get_or s a 0 ≡ x
first_byte {s} {a} {e} {x} {c} k h =
    sym (get_or-take (e - a) (drop a s) 0 0 (omega (arith, column_size k, ap length h)) ∙ get_or-drop a s 0 0 ∙ ap (λ (j : ℕ). get_or s j 0) (add-zero a)) ∙ ap (λ (l : Bytes). get_or l 0 0) h

-- the first byte tells `~` from a text
mark_first : (c : Bytes) → is_optional_text c ≡ true → eqb (get_or c 0 0) 126 ≡ is_nothing c
unfolding is_nothing
mark_first c h = let w = text_is_lem c h in go w.0 w.1 w.2
  where
    go : (t : Option Bytes) → write_text t ≡ c → Meets (text_rule t) → eqb (get_or c 0 0) 126 ≡ is_nothing c
    go None e r = subst (λ (y : Bytes). eqb (get_or y 0 0) 126 ≡ is_nothing y) e refl
    go (Some []) e r = subst (λ (y : Bytes). eqb (get_or y 0 0) 126 ≡ is_nothing y) e refl
    go (Some (b ∷ bs)) e r =
        let l : b < 256 = ltb-true b 256 (utf8_bytes (b ∷ bs) r).0 in
        subst (λ (y : Bytes). eqb (get_or y 0 0) 126 ≡ is_nothing y) e (digit_other (b / 16) (omega arith) ∙ sym (and-false (eqb 126 (hex_digit (b / 16)))))

module _ {s : Bytes} {at : ℕ} {y : OwnLine} {rest : Bytes} (w : OwnStands s at y rest) {f : ℕ} (ef : f ≡ stop_from s at) where
  pub name_known : ColumnAt s at f 32
  name_known = (found raw raw (raw ▸ number ▸ done) w.tail ef).column

  name_fits_lem : is_optional_text (part s at f) ≡ true
  name_fits_lem = ap is_optional_text (name_is_lem w name_known) ∙ (owned w).name_fit

  pub name_some : at < f
  name_some = column_some name_known name_fits_lem

  pub bare_known : eqb (get_or s at 0) 126 ≡ is_nothing (part s at f)
  bare_known =
      ap (λ (b : ℕ). eqb b 126) (sym (get_or-take (f - at) (drop at s) 0 0 (omega (arith, name_some)) ∙ get_or-drop at s 0 0 ∙ ap (λ (j : ℕ). get_or s j 0) (add-zero at)))
      ∙ mark_first (part s at f) name_fits_lem

  module _ {g : ℕ} (eg : g ≡ stop_from s (f + 1)) where
    pub flag_known : ColumnAt s (f + 1) g 32
    flag_known = (found raw raw (number ▸ done) (flag_tail w name_known) eg).column

    flag_is_lem : part s (f + 1) g ≡ y.1.0
    flag_is_lem = same_given (tail_next raw (raw ▸ number ▸ done) (flag_tail w name_known) flag_known).0

    rest_tail : Tail (raw ▸ number ▸ done) s (g + 1) y.1.1 rest
    rest_tail = (tail_next raw (raw ▸ number ▸ done) (flag_tail w name_known) flag_known).1

    module _ {h : ℕ} (eh : h ≡ stop_from s (g + 1)) where
      pub pairs_known : ColumnAt s (g + 1) h 32
      pairs_known = (found raw number done rest_tail eh).column

      pairs_is_lem : part s (g + 1) h ≡ y.1.1.0
      pairs_is_lem = same_given (tail_next raw (number ▸ done) rest_tail pairs_known).0

      own_fits : OwnFits (part s at f, (part s (f + 1) g, part s (g + 1) h))
      own_fits = subst OwnFits (λ z. (sym (name_is_lem w name_known) z, (sym flag_is_lem z, sym pairs_is_lem z))) (owned w)

      own_known : OwnAt s at (record { name = record { start = at; end = f }; bare = eqb (get_or s at 0) 126; nullable = eqb (get_or s (f + 1) 0) 49; pairs = record { start = g + 1; end = h }; end = h })
      own_known =
          record {
            name_end = f;
            flag_end = g;
            name_at = name_known;
            flag_at = flag_known;
            pairs_at = pairs_known;
            name_is = refl;
            pairs_is = refl;
            bare_is = bare_known;
            flag_is = refl;
            fits = own_fits;
          }

      -- `nullable` is one byte
      module _ (other : eqb (get_or s at 0) 126 ≡ false) where
        flag_end_lem : g ≡ f + 2
        flag_end_lem = omega (arith, column_size flag_known, flag_known.low, flag_size (part s (f + 1) g) (ap (λ (t : Bool). is_content (flag_content t) (part s (f + 1) g)) (sym other ∙ bare_known) ∙ own_fits.flag_fit))

        named_known : OwnAt s at (record { name = record { start = at; end = f }; bare = false; nullable = eqb (get_or s (f + 1) 0) 49; pairs = record { start = f + 1 + 2; end = h }; end = h })
        named_known =
            let place : g + 1 ≡ f + 1 + 2 = omega (arith, flag_end_lem) in
            subst (λ (o : OwnColumns). OwnAt s at o) (λ i. record { name = record { start = at; end = f }; bare = other i; nullable = eqb (get_or s (f + 1) 0) 49; pairs = record { start = place i; end = h }; end = h }) own_known

      -- all three are `~`
      module _ (bare : eqb (get_or s at 0) 126 ≡ true) where
        nothing : is_nothing (part s at f) ≡ true
        nothing = sym bare_known ∙ bare

        flag_nothing : is_nothing (part s (f + 1) g) ≡ true
        flag_nothing = ap (λ (t : Bool). is_content (flag_content t) (part s (f + 1) g)) (sym nothing) ∙ own_fits.flag_fit

        pairs_nothing : is_nothing (part s (g + 1) h) ≡ true
        pairs_nothing = ap (λ (t : Bool). is_content (pairs_content t) (part s (g + 1) h)) (sym nothing) ∙ own_fits.pairs_fit

        name_end_lem : f ≡ at + 1
        name_end_lem = omega (arith, column_size name_known, name_known.low, ap length (nothing_is (part s at f) nothing))

        flag_end_bare : g ≡ at + 3
        flag_end_bare = omega (arith, name_end_lem, column_size flag_known, flag_known.low, ap length (nothing_is (part s (f + 1) g) flag_nothing))

        pairs_end_bare : h ≡ at + 5
        pairs_end_bare = omega (arith, flag_end_bare, column_size pairs_known, pairs_known.low, ap length (nothing_is (part s (g + 1) h) pairs_nothing))

        no_flag : eqb (get_or s (f + 1) 0) 49 ≡ false
        no_flag = ap (λ (b : ℕ). eqb b 49) (first_byte flag_known (nothing_is (part s (f + 1) g) flag_nothing))

        bare_known_there : OwnAt s at (bare_own at)
        bare_known_there =
            let start : g + 1 ≡ at + 4 = omega (arith, flag_end_bare) in
            subst (λ (o : OwnColumns). OwnAt s at o) (λ i. record { name = record { start = at; end = name_end_lem i }; bare = bare i; nullable = no_flag i; pairs = record { start = start i; end = pairs_end_bare i }; end = pairs_end_bare i }) own_known

module _ {s : Bytes} {at : ℕ} {y : OwnLine} {rest : Bytes} (w : OwnStands s at y rest) where
  pub first_there : at < length s
  first_there = omega (arith, name_some w refl, (name_known w refl).high)

  pub name_there : HasText s at
  name_there = (_, name_known w refl, optional_text (part s at (stop_from s at)) (name_fits_lem w refl))

  pub bare_there : eqb (get_or s at 0) 126 ≡ true → OwnAt s at (bare_own at)
  bare_there h = bare_known_there w refl refl refl h

  module _ (other : eqb (get_or s at 0) 126 ≡ false) {f : ℕ} (ef : f ≡ stop_from s at) where
    flag_there : stop_from s (f + 1) ≡ f + 2
    flag_there = flag_end_lem w ef refl refl other

    pub flag_within : f + 2 < length s
    flag_within = omega (arith, flag_there, (flag_known w ef refl).high)

    pub named_there : {h : ℕ} → h ≡ stop_from s (f + 1 + 2) → OwnAt s at (record { name = record { start = at; end = f }; bare = false; nullable = eqb (get_or s (f + 1) 0) 49; pairs = record { start = f + 1 + 2; end = h }; end = h })
    named_there eh =
        let place : f + 1 + 2 ≡ stop_from s (f + 1) + 1 = omega (arith, flag_there) in
        named_known w ef refl (eh ∙ ap (stop_from s) place) other

-- ── the line

module _ (s : Bytes) (at : ℕ) (h : HasTree fields s at) where
  first : First s at
  first = tree_first s at h

  pub has_type : HasTypeColumns s at
  has_type = (first.line, first.rest, type_stands s at first)

  module _ {t : TypeColumns} (a : TypeAt s at t) where
    pub has_own : HasOwnColumns s (t.end + 1)
    has_own = (first.line.1.1.1.1.1, first.rest, own_stands s at first a)

    module _ {o : OwnColumns} (d : OwnAt s (t.end + 1) o) {e : ℕ} (ee : e ≡ stop_from s (o.end + 1)) where
      pub children_known : ColumnAt s (o.end + 1) e 10
      children_known = last_found number (children_stand s at first a d) ee

      children_read : read_number (part s (o.end + 1) e) ≡ given (children_of first.line)
      children_read = (tail_last number (children_stand s at first a d) children_known).0

      pub line_known : {n : ℕ} → read_number (part s (o.end + 1) e) ≡ given n
          → FieldLineAt s at
          (record {
            kind = t.kind;
            p = t.p;
            q = t.q;
            text = t.text;
            more = t.more;
            name = o.name;
            bare = o.bare;
            nullable = o.nullable;
            pairs = o.pairs;
            children = n;
            end = e + 1;
          })
      line_known {n} r =
          let m : children_of first.line ≡ n = same_given (sym children_read ∙ r) in
          let k : (columns_of first.line).kind ≡ t.kind = the_kind (type_stands s at first) a.numbers in
          line_there a d children_known r (sym (ap₂ children_fit k m) ∙ kind_children s at first)

    pub children_number : {o : OwnColumns} → OwnAt s (t.end + 1) o → length s < 2 ^ 64 → HasNumber s (o.end + 1)
    children_number d fits = (_, 10, children_known d refl, refl, children_of first.line, children_read d refl, few_children s at first fits)
