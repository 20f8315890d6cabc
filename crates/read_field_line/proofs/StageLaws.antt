-- The columns of a field line one after the other: a law for each column that can be missing or wrong. The columns of a line that stands are where code
-- finds them. Assumes nothing.
use mathlib.Core.Path.{◌≡◌, refl, sym, ◌∙◌, ap, ap₂}
use mathlib.Core.Bool.{Bool, true, false, true≢false}
use Rattle.std.specs.Prelude.{None, Option}
use Prim.Native.Nat.{ℕ, ◌+◌}
use lib.Dec.{eqb}
use lib.ListN.{get_or}
use Rattle.sheets.specs.Refusal.{bad_lines}
use Rattle.sheets.specs.Bytes.{Bytes}
use Rattle.sheets.specs.Answer.{refused, given, found}
use Rattle.sheets.specs.Codec.{number, raw, done, ◌▸◌}
use Rattle.sheets.specs.Number.{read_number}
use Rattle.sheets.specs.FieldSheet.{Line, columns_of}
use Rattle.sheets.proofs.Tests.{same_given}
use Rattle.columns.specs.Columns.{part, column_of, is_stop, ColumnAt}
use Rattle.columns.specs.NumberColumns.{number_in}
use Rattle.columns.specs.Tails.{Tail}
use Rattle.columns.proofs.FindLaws.{Finds, finds}
use Rattle.columns.proofs.NumberFindLaws.{FindsNumber, finds_number}
use Rattle.columns.proofs.TailLaws.{tail_next, tail_bad}
use Rattle.field_columns.specs.FieldColumns.{is_nothing, is_content}
use Rattle.field_columns.specs.declared.Content.{Content}
use Rattle.field_columns.specs.declared.Content.TheVariants as C
use Rattle.field_kinds.specs.FieldKinds.{p_fits, q_fits, text_content, more_content, flag_content, pairs_content, Fits, OwnFits}
use Rattle.field_kinds.proofs.ShapeLaws.{Small, shape_fits, shape_small}
use Rattle.field_kinds.proofs.InfoLaws.{info_fits}
use Rattle.read_field_line.specs.Stages.{OwnLine, own_row, TypeStands, OwnStands, NumbersAt, TypeAt, OwnAt}
use Rattle.read_field_line.specs.declared.types.Numbers.{Numbers}

-- ── what was found of a column

pub column_told : (f : Bytes → Bool) (s : Bytes) (a : ℕ) {r q : Option ℕ} → r ≡ q → r ≡ column_of f 32 s a → Finds f s a 32 q
column_told f s a {r} {q} e h = finds f s a 32 refl q ((sym e) ∙ h)

pub number_told : (s : Bytes) (a stop : ℕ) → is_stop stop ≡ true → {r q : Option (ℕ × ℕ)} → r ≡ q → found bad_lines r ≡ number_in stop s a → FindsNumber s a stop (found bad_lines q)
number_told s a stop is {r} {q} e h = finds_number s a stop is (found bad_lines q) (ap (found bad_lines) (sym e) ∙ h)

-- ── kind p q

module _ {s : Bytes} {at : ℕ} {x : Line} {rest : Bytes} (w : TypeStands s at x rest) where
  pub stood : Fits (columns_of x)
  stood = shape_fits (columns_of x) w.shape w.reads w.rule

  pub small : Small (columns_of x)
  small = shape_small (columns_of x) w.shape w.reads w.rule

  pub kind_bad : FindsNumber s at 32 (refused bad_lines) → ⊥
  kind_bad miss = tail_bad number number (number ▸ raw ▸ raw ▸ own_row) w.tail (λ e c r. miss e _ c r small.kind_small)

  module _ {f : ℕ} (cf : ColumnAt s at f 32) where
    pub p_tail : Tail (number ▸ number ▸ raw ▸ raw ▸ own_row) s (f + 1) x.1 rest
    p_tail = (tail_next number (number ▸ number ▸ raw ▸ raw ▸ own_row) w.tail cf).1

    pub p_bad : FindsNumber s (f + 1) 32 (refused bad_lines) → ⊥
    p_bad miss = tail_bad number number (raw ▸ raw ▸ own_row) p_tail (λ e c r. miss e _ c r small.p_small)

    module _ {g : ℕ} (cg : ColumnAt s (f + 1) g 32) where
      pub q_tail : Tail (number ▸ raw ▸ raw ▸ own_row) s (g + 1) x.1.1 rest
      q_tail = (tail_next number (number ▸ raw ▸ raw ▸ own_row) p_tail cg).1

      pub q_bad : FindsNumber s (g + 1) 32 (refused bad_lines) → ⊥
      q_bad miss = tail_bad number raw (raw ▸ own_row) q_tail (λ e c r. miss e _ c r small.q_small)

      module _ {h : ℕ} (ch : ColumnAt s (g + 1) h 32) where
        pub text_tail : Tail (raw ▸ raw ▸ own_row) s (h + 1) x.1.1.1 rest
        text_tail = (tail_next number (raw ▸ raw ▸ own_row) q_tail ch).1

        pub kind_reads : read_number (part s at f) ≡ given x.0
        kind_reads = (tail_next number (number ▸ number ▸ raw ▸ raw ▸ own_row) w.tail cf).0

        pub p_reads : read_number (part s (f + 1) g) ≡ given x.1.0
        p_reads = (tail_next number (number ▸ raw ▸ raw ▸ own_row) p_tail cg).0

        pub q_reads : read_number (part s (g + 1) h) ≡ given x.1.1.0
        q_reads = (tail_next number (raw ▸ raw ▸ own_row) q_tail ch).0

        module _ {k p q : ℕ} (rk : read_number (part s at f) ≡ given k) (rp : read_number (part s (f + 1) g) ≡ given p) (rq : read_number (part s (g + 1) h) ≡ given q) where
          pub kind_is_lem : x.0 ≡ k
          kind_is_lem = same_given (sym kind_reads ∙ rk)

          pub p_is_lem : x.1.0 ≡ p
          p_is_lem = same_given (sym p_reads ∙ rp)

          pub q_is_lem : x.1.1.0 ≡ q
          q_is_lem = same_given (sym q_reads ∙ rq)

          pub p_unfit : p_fits k p ≡ false → ⊥
          p_unfit e = true≢false (sym stood.p_fit ∙ ap₂ p_fits kind_is_lem p_is_lem ∙ e)

          pub q_unfit : q_fits k q ≡ false → ⊥
          q_unfit e = true≢false (sym stood.q_fit ∙ ap₂ q_fits kind_is_lem q_is_lem ∙ e)

-- ── text more

module _ {s : Bytes} {at : ℕ} {x : Line} {rest : Bytes} (w : TypeStands s at x rest) {n : Numbers} (a : NumbersAt s at n) where
  after_numbers : Tail (raw ▸ raw ▸ own_row) s (n.end + 1) x.1.1.1 rest
  after_numbers = text_tail w a.kind_at a.p_at a.q_at

  pub the_kind : x.0 ≡ n.kind
  the_kind = kind_is_lem w a.kind_at a.p_at a.q_at a.kind_is a.p_is a.q_is

  pub text_bad : (k : Content) → k ≡ text_content n.kind → Finds (is_content k) s (n.end + 1) 32 None → ⊥
  text_bad k is miss =
      tail_bad raw raw own_row after_numbers (λ e c r.
      miss e c (ap₂ is_content is (same_given r) ∙ ap (λ (j : ℕ). is_content (text_content j) (columns_of x).text) (sym the_kind) ∙ (stood w).text_fit))

  module _ {f : ℕ} (cf : ColumnAt s (n.end + 1) f 32) where
    more_tail : Tail (raw ▸ own_row) s (f + 1) x.1.1.1.1 rest
    more_tail = (tail_next raw (raw ▸ own_row) after_numbers cf).1

    pub more_bad : (k : Content) → k ≡ more_content n.kind → Finds (is_content k) s (f + 1) 32 None → ⊥
    more_bad k is miss =
        tail_bad raw raw (raw ▸ raw ▸ number ▸ done) more_tail (λ e c r.
        miss e c (ap₂ is_content is (same_given r) ∙ ap (λ (j : ℕ). is_content (more_content j) (columns_of x).more) (sym the_kind) ∙ (stood w).more_fit))

    module _ {g : ℕ} (cg : ColumnAt s (f + 1) g 32) where
      pub own_tail : Tail own_row s (g + 1) x.1.1.1.1.1 rest
      own_tail = (tail_next raw own_row more_tail cg).1

-- the columns kind p q text more that were found
pub type_there : {s : Bytes} {at : ℕ} {n : Numbers} (a : NumbersAt s at n) {f g : ℕ} (k j : Content) → k ≡ text_content n.kind → j ≡ more_content n.kind
    → ColumnAt s (n.end + 1) f 32 → is_content k (part s (n.end + 1) f) ≡ true → ColumnAt s (f + 1) g 32 → is_content j (part s (f + 1) g) ≡ true
    → TypeAt s at (record { kind = n.kind; p = n.p; q = n.q; text = record { start = n.end + 1; end = f }; more = record { start = f + 1; end = g }; end = g })
type_there {s} {at} {n} a {f} {g} k j ek ej cf hf cg hg =
    record {
      q_end = n.end;
      text_end = f;
      numbers =
          record {
            kind_end = a.kind_end;
            p_end = a.p_end;
            kind_at = a.kind_at;
            p_at = a.p_at;
            q_at = a.q_at;
            kind_is = a.kind_is;
            p_is = a.p_is;
            q_is = a.q_is;
            p_fit = a.p_fit;
            q_fit = a.q_fit;
          };
      text_at = cf;
      more_at = cg;
      text_is = refl;
      more_is = refl;
      fits =
          record {
            p_fit = a.p_fit;
            q_fit = a.q_fit;
            text_fit = ap (λ (y : Content). is_content y (part s (n.end + 1) f)) (sym ek) ∙ hf;
            more_fit = ap (λ (y : Content). is_content y (part s (f + 1) g)) (sym ej) ∙ hg;
          };
    }

-- ── name nullable pairs

module _ {s : Bytes} {at : ℕ} {y : OwnLine} {rest : Bytes} (w : OwnStands s at y rest) where
  pub owned : OwnFits (y.0, (y.1.0, y.1.1.0))
  owned = (info_fits (y.0, (y.1.0, y.1.1.0)) w.info w.reads w.rule).fits

  pub name_bad : Finds (is_content C.OptionalText) s at 32 None → ⊥
  name_bad miss = tail_bad raw raw (raw ▸ number ▸ done) w.tail (λ e c r. miss e c (ap (is_content C.OptionalText) (same_given r) ∙ owned.name_fit))

  module _ {f : ℕ} (cf : ColumnAt s at f 32) where
    pub flag_tail : Tail (raw ▸ raw ▸ number ▸ done) s (f + 1) y.1 rest
    flag_tail = (tail_next raw (raw ▸ raw ▸ number ▸ done) w.tail cf).1

    pub name_is_lem : part s at f ≡ y.0
    name_is_lem = same_given (tail_next raw (raw ▸ raw ▸ number ▸ done) w.tail cf).0

    module _ (b : Bool) (bare : b ≡ is_nothing (part s at f)) where
      pub flag_bad : (k : Content) → k ≡ flag_content b → Finds (is_content k) s (f + 1) 32 None → ⊥
      flag_bad k is miss =
          tail_bad raw raw (number ▸ done) flag_tail (λ e c r.
          miss e c (ap₂ is_content is (same_given r) ∙ ap (λ (t : Bool). is_content (flag_content t) y.1.0) (bare ∙ ap is_nothing name_is_lem) ∙ owned.flag_fit))

      module _ {g : ℕ} (cg : ColumnAt s (f + 1) g 32) where
        pub pairs_tail : Tail (raw ▸ number ▸ done) s (g + 1) y.1.1 rest
        pairs_tail = (tail_next raw (raw ▸ number ▸ done) flag_tail cg).1

        pub pairs_bad : (k : Content) → k ≡ pairs_content b → Finds (is_content k) s (g + 1) 32 None → ⊥
        pairs_bad k is miss =
            tail_bad raw number done pairs_tail (λ e c r.
            miss e c (ap₂ is_content is (same_given r) ∙ ap (λ (t : Bool). is_content (pairs_content t) y.1.1.0) (bare ∙ ap is_nothing name_is_lem) ∙ owned.pairs_fit))

        module _ {h : ℕ} (ch : ColumnAt s (g + 1) h 32) where
          pub children_tail : Tail (number ▸ done) s (h + 1) y.1.1.1 rest
          children_tail = (tail_next raw (number ▸ done) pairs_tail ch).1

-- the columns name nullable pairs that were found
pub own_there : {s : Bytes} {at f g h : ℕ} → ColumnAt s at f 32 → is_content C.OptionalText (part s at f) ≡ true → (b : Bool) → b ≡ is_nothing (part s at f) → (k j : Content) → k ≡ flag_content b → j ≡ pairs_content b
    → ColumnAt s (f + 1) g 32 → is_content k (part s (f + 1) g) ≡ true → ColumnAt s (g + 1) h 32 → is_content j (part s (g + 1) h) ≡ true
    → OwnAt s at (record { name = record { start = at; end = f }; bare = b; nullable = eqb (get_or s (f + 1) 0) 49; pairs = record { start = g + 1; end = h }; end = h })
own_there {s} {at} {f} {g} {h} cf hf b bare k j ek ej cg hg ch hh =
    record {
      name_end = f;
      flag_end = g;
      name_at = cf;
      flag_at = cg;
      pairs_at = ch;
      name_is = refl;
      pairs_is = refl;
      bare_is = bare;
      flag_is = refl;
      fits =
          record {
            name_fit = hf;
            flag_fit = ap (λ (t : Bool). is_content (flag_content t) (part s (f + 1) g)) (sym bare) ∙ ap (λ (y : Content). is_content y (part s (f + 1) g)) (sym ek) ∙ hg;
            pairs_fit = ap (λ (t : Bool). is_content (pairs_content t) (part s (g + 1) h)) (sym bare) ∙ ap (λ (y : Content). is_content y (part s (g + 1) h)) (sym ej) ∙ hh;
          };
    }
