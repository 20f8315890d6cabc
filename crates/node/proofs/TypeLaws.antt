-- What is known at each return of the functions that write a node's type: by the refusals of a format in document 01's order. Assumes nothing.
use mathlib.Core.Path.{◌≡◌, refl, sym, ap, subst, ◌∙◌}
use mathlib.Core.Bool.{Bool, true, false, true≢false}
use Rattle.std.specs.Prelude.{Option, None, Some, Ok, Err}
use Prim.Native.Nat.{ℕ, zero, suc, ◌≤◌}
use native.Mathlib.Omega.{arith}
use lib.ListN.{length}
use borrow.Author.Tests.{ne_eqb}
use Rattle.sheets.specs.Refusal.{null_format, not_utf8, no_child}
use Rattle.sheets.specs.Bytes.{Bytes, same}
use Rattle.sheets.specs.Answer.{Answer, refused, given, ◌>>=◌}
use Rattle.sheets.specs.Text.{read_text}
use Rattle.sheets.specs.Utf8.{is_utf8}
use Rattle.sheets.specs.Flags.{is_ordered, is_sorted}
use Rattle.sheets.specs.FieldSheet.{Shape, columns, of_dictionary, no_text}
use Rattle.sheets.specs.Format.{Format, of_scalar, of_nesting, of_grouping, read_format, to_integer_type}
use Rattle.sheets.specs.Import.{format_text}
use Rattle.sheets.specs.ImportLines.{node_shape, needed}
use Rattle.sheets.proofs.BytesLaws.{same_eq, same_refl}
use Rattle.sheets.proofs.InverseLaws.{text_read}
use Rattle.refusal.specs.declared.Refusal.{Refusal as Reason}
use Rattle.refusal.specs.Refusals.{refusal_of, Refusing}
use Rattle.hexadecimal.specs.Hex.{is_hex, bytes_of}
use Rattle.buffer.specs.Over.{PutAt}
use Rattle.field_line.specs.Columns.{columns_piece}
use Rattle.schema_line.specs.declared.SchemaLine.{SchemaLine}
use Rattle.schema_line.specs.Texts.{text_in}
use Rattle.schema_line.proofs.TextLaws.{text_shorter}
use Rattle.datatypes.specs.declared.IntegerType.{IntegerType}
use Rattle.datatypes.specs.Places.{integer_place}
use Rattle.import_type.specs.declared.Below.{Below}
use Rattle.import_type.specs.declared.Below.TheVariants.{Values}
use Rattle.import_type.specs.TypeColumns.{shape_of, below_of, FormatPuts}
use Rattle.format.specs.Dictionary.{index_answer}
use Rattle.import_type.proofs.LengthLaws.{format_short, dictionary_short_lem}
use Rattle.node.specs.Types.{lacks_child, IsText, index_shape, format_shape, column_type, TypeTold}
use Rattle.node.proofs.TextLaws.{text_bytes}

-- the same of another name of the type, and of a longer format
told_as : (a c : Answer Shape) (n m : ℕ) (out out' : Bytes) (y : Answer (ℕ × Below)) → a ≡ c → n ≤ m → TypeTold a n out out' y → TypeTold c m out out' y
told_as a c n m out out' (refused q) e l h = sym e ∙ h
told_as a c n m out out' (given (end, b)) e l (sh, is, put, visits, long) = (sh, sym e ∙ is, put, visits, omega (arith, long))

-- ── a line with a dictionary

module _ (f : Bytes) (ordered : Bool) (r : Refusing IntegerType) (h : index_answer r ≡ to_integer_type (bytes_of f)) where
  abbrev indexed : Answer ℕ → Answer Shape
  indexed a = a >>= λ ix. given (of_dictionary ix ordered)

  pub index_refused : (q : Reason) → r ≡ Err q → index_shape (bytes_of f) ordered ≡ refused (refusal_of q)
  index_refused q e = ap indexed (sym h ∙ ap index_answer e)

  pub index_put : (t : IntegerType) → r ≡ Ok t → (out out' : Bytes) (end : ℕ) → PutAt 0 (columns_piece (columns (of_dictionary (integer_place t) ordered))) end out out'
      → TypeTold (index_shape (bytes_of f) ordered) (length f) out out' (given (end, Values))
  index_put t e out out' end p =
      (of_dictionary (integer_place t) ordered, ap indexed (sym h ∙ ap index_answer e), p, refl, omega (arith, p.0, dictionary_short_lem t ordered))

-- ── a line without one

needed_lacks : (g : Format) (k : ℕ) → lacks_child (below_of (shape_of g)) k ≡ true → needed g k ≡ refused no_child
needed_lacks (of_scalar s) k e = absurd (true≢false (sym e))
needed_lacks (of_nesting n) zero e = refl
needed_lacks (of_nesting n) (suc k) e = absurd (true≢false (sym e ∙ ne_eqb (suc k) 0 (λ h. absurd (omega arith))))
needed_lacks (of_grouping g) k e = absurd (true≢false (sym e))

needed_has : (g : Format) (k : ℕ) → lacks_child (below_of (shape_of g)) k ≡ false → needed g k ≡ given (shape_of g)
needed_has (of_scalar s) k e = refl
needed_has (of_nesting n) zero e = absurd (true≢false e)
needed_has (of_nesting n) (suc k) e = refl
needed_has (of_grouping g) k e = refl

module _ (f : Bytes) (sorted : Bool) (children : ℕ) (out out' : Bytes) (r : Refusing (ℕ × Below)) (h : FormatPuts 0 (read_format sorted (bytes_of f)) out out' r) where
  abbrev over_children : Answer Format → Answer Shape
  over_children a = a >>= λ g. needed g children

  pub plain_refused_lem : (q : Reason) → r ≡ Err q → format_shape (bytes_of f) sorted children ≡ refused (refusal_of q)
  plain_refused_lem q e =
      let is : read_format sorted (bytes_of f) ≡ refused (refusal_of q) = subst (FormatPuts 0 (read_format sorted (bytes_of f)) out out') e h in
      ap over_children is

  module _ (end : ℕ) (b : Below) (e : r ≡ Ok (end, b)) where
    told : FormatPuts 0 (read_format sorted (bytes_of f)) out out' (Ok (end, b))
    told = subst (FormatPuts 0 (read_format sorted (bytes_of f)) out out') e h

    pub plain_lacks : lacks_child b children ≡ true → format_shape (bytes_of f) sorted children ≡ refused no_child
    plain_lacks k = ap over_children told.1 ∙ needed_lacks told.0 children (ap (λ (y : Below). lacks_child y children) (sym told.3) ∙ k)

    pub plain_put : is_hex f ≡ true → lacks_child b children ≡ false → TypeTold (format_shape (bytes_of f) sorted children) (length f) out out' (given (end, b))
    plain_put x k = (
      shape_of told.0,
      ap over_children told.1 ∙ needed_has told.0 children (ap (λ (y : Below). lacks_child y children) (sym told.3) ∙ k),
      told.2,
      told.3,
      omega (arith, told.2.0, format_short f x sorted told.0 told.1),
    )

-- ── a node

module _ (t : Bytes) (l : SchemaLine) where
  -- 4 null format
  pub null_type_lem : same t no_text ≡ true → column_type t l ≡ refused null_format
  unfolding column_type
  null_type_lem e = ap (λ (y : Bytes). column_type y l) (same_eq t no_text e)

  module _ (h : IsText t) (k : same t no_text ≡ false) (f : Bytes) (g : f ≡ text_in t) where
    typed : column_type t l ≡ (format_text (Some (bytes_of f)) >>= λ f. node_shape f l.flags l.children l.dictionary)
    unfolding column_type
    typed = pick h.0 h.1 ∙ ap (λ (y : Bytes). format_text (Some (bytes_of y)) >>= λ f. node_shape f l.flags l.children l.dictionary) (sym g)
      where
        pick : (x : Option Bytes) → read_text t ≡ given x
            → (read_text t >>= λ x. format_text x >>= λ f. node_shape f l.flags l.children l.dictionary)
            ≡ (format_text (Some (bytes_of (text_in t))) >>= λ f. node_shape f l.flags l.children l.dictionary)
        pick None e =
            let n : no_text ≡ t = text_read t None e in
            absurd (true≢false (sym (same_refl no_text) ∙ ap (λ (y : Bytes). same y no_text) n ∙ k))
        pick (Some b) e =
            ap (λ (a : Answer (Option Bytes)). a >>= λ x. format_text x >>= λ f. node_shape f l.flags l.children l.dictionary) e
            ∙ ap (λ (y : Bytes). format_text (Some y) >>= λ f. node_shape f l.flags l.children l.dictionary) (sym (text_bytes t (Some b) e).1)

    -- 5 not UTF-8
    pub not_utf8_type : is_utf8 (bytes_of f) ≡ false → column_type t l ≡ refused not_utf8
    not_utf8_type e = typed ∙ rw e

    utf8_type : is_utf8 (bytes_of f) ≡ true → column_type t l ≡ node_shape (bytes_of f) l.flags l.children l.dictionary
    utf8_type e = typed ∙ rw e

    shorter : length f ≤ length t
    shorter = omega (arith, ap length g, text_shorter t)

    module _ (u : is_utf8 (bytes_of f) ≡ true) (out out' : Bytes) (y : Answer (ℕ × Below)) where
      pub plain_node : (sorted : Bool) → l.dictionary ≡ 0 → sorted ≡ is_sorted l.flags → TypeTold (format_shape (bytes_of f) sorted l.children) (length f) out out' y → TypeTold (column_type t l) (length t) out out' y
      plain_node sorted d e w =
          let is : format_shape (bytes_of f) sorted l.children ≡ column_type t l =
          ap (λ (b : Bool). format_shape (bytes_of f) b l.children) e ∙ ap (node_shape (bytes_of f) l.flags l.children) (sym d) ∙ sym (utf8_type u) in
          told_as (format_shape (bytes_of f) sorted l.children) (column_type t l) (length f) (length t) out out' y is shorter w

      pub index_node : (ordered : Bool) → (l.dictionary ≡ 0 → ⊥) → ordered ≡ is_ordered l.flags → TypeTold (index_shape (bytes_of f) ordered) (length f) out out' y → TypeTold (column_type t l) (length t) out out' y
      index_node ordered d e w =
          let is : index_shape (bytes_of f) ordered ≡ column_type t l = ap (index_shape (bytes_of f)) e ∙ by_dictionary l.dictionary d ∙ sym (utf8_type u) in
          told_as (index_shape (bytes_of f) ordered) (column_type t l) (length f) (length t) out out' y is shorter w
        where
          by_dictionary : (k : ℕ) → (k ≡ 0 → ⊥) → index_shape (bytes_of f) (is_ordered l.flags) ≡ node_shape (bytes_of f) l.flags l.children k
          by_dictionary zero d = absurd (d refl)
          by_dictionary (suc k) d = refl
