-- What is known at each return of `put_type_line`: the format's column tells the type that the line tells, and what is written is the line of the type.
-- Assumes nothing.
use mathlib.Core.Path.{◌≡◌, refl, sym, ap, subst, ◌∙◌}
use mathlib.Core.List.{List, ◌++◌}
use Rattle.std.specs.Prelude.{Option, Ok, Err}
use Prim.Native.Nat.{ℕ, ◌+◌, ◌*◌, ◌≤◌, ◌<◌, ◌^◌}
use native.Mathlib.Omega.{arith}
use lib.IntN.{ℤ}
use lib.ListN.{length}
use Rattle.sheets.specs.Bytes.{Bytes}
use Rattle.sheets.specs.Answer.{Answer, refused, given, ◌>>=◌}
use Rattle.sheets.specs.Schema.{Line, children_of}
use Rattle.sheets.specs.FieldSheet.{Shape, columns, of_scalar, of_nesting, of_grouping, of_dictionary, of_extension}
use Rattle.sheets.specs.Import.{format_text}
use Rattle.sheets.specs.ImportLines.{node_shape, below}
use Rattle.refusal.specs.declared.Refusal.{Refusal as Reason}
use Rattle.refusal.specs.Refusals.{refusal_of, Refusing}
use Rattle.buffer.specs.Over.{PutAt}
use Rattle.buffer.proofs.OverLaws.{none_yet, and_then}
use Rattle.field_line.specs.Columns.{columns_piece, end_piece}
use Rattle.field_line.proofs.LengthLaws.{end_short}
use Rattle.schema_line.specs.declared.SchemaLine.{SchemaLine}
use Rattle.schema_line.specs.Lines.{Shows}
use Rattle.schema_line.specs.Texts.{text_in}
use Rattle.schema_line.proofs.TextLaws.{text_shorter}
use Rattle.import_type.specs.TypeColumns.{below_of}
use Rattle.import_type.specs.declared.Below.{Below}
use Rattle.node.specs.declared.lines.Shown.{Shown}
use Rattle.node.specs.Types.{IsText, column_type, TypeTold, TypePuts}
use Rattle.node.specs.Pieces.{shown_text, CanShow}
use Rattle.node.specs.Nodes.{column_in, metadata_in, shown_in, children_below, NodeIn, line_type, type_text, LineTold}
use Rattle.node.proofs.BeginLaws.{part_within}
use Rattle.node.proofs.LineLaws.{shown_short}

children_there : (sh : Shape) (c : ℕ) → children_below (below_of sh) c ≡ below sh c
children_there (of_scalar s) c = refl
children_there (of_nesting n) c = refl
children_there (of_grouping g) c = refl
children_there (of_dictionary ix ordered) c = refl
children_there (of_extension n m) c = refl

module _ {s : Bytes} {l : SchemaLine} (n : NodeIn s l) (t : Bytes) (e : t ≡ column_in s l.format) where
  -- the format's column
  pub format_there : IsText t × (length t < 65536)
  format_there = (
    subst IsText (sym e) (n.line.0, n.shows.format.reads),
    omega (arith, ap length e, part_within s l.format, n.short),
  )

  module _ (out mid : Bytes) (r : Refusing (ℕ × Below)) (h : TypePuts (column_type t l) (length t) out mid r) where
    -- it tells the type that the line tells
    line_type_lem : (x : Line) → Shows s l x → column_type t l ≡ line_type x
    unfolding column_type line_type
    line_type_lem x w =
        ap (λ (y : Bytes). column_type y l) e
        ∙ ap (λ (a : Answer (Option Bytes)). a >>= λ y. format_text y >>= λ f. node_shape f l.flags l.children l.dictionary) w.format.reads
        ∙ ap (λ (z : ℤ). format_text x.0 >>= λ f. node_shape f z l.children l.dictionary) w.flags
        ∙ ap (λ (k : ℕ). format_text x.0 >>= λ f. node_shape f x.1.1.0 k l.dictionary) w.children
        ∙ ap (λ (k : ℕ). format_text x.0 >>= λ f. node_shape f x.1.1.0 (children_of x) k) w.dictionary

    pub line_refused : (q : Reason) → r ≡ Err q → (x : Line) → Shows s l x → line_type x ≡ refused (refusal_of q)
    line_refused q d x w = let told : column_type t l ≡ refused (refusal_of q) = subst (TypePuts (column_type t l) (length t) out mid) d h in sym (line_type_lem x w) ∙ told

    module _ (end : ℕ) (b : Below) (d : r ≡ Ok (end, b)) where
      told : TypeTold (column_type t l) (length t) out mid (given (end, b))
      told = subst (TypePuts (column_type t l) (length t) out mid) d h

      pub type_short : end ≤ 87 + 21 * length (column_in s l.format)
      type_short = omega (arith, told.4, ap length e)

      pub type_low : end < 2 ^ 38
      type_low = omega (arith, type_short, part_within s l.format, n.short)

      module _ (w : Shown) (es : List ℕ) (name m c : Bytes) (i : name ≡ column_in s l.name) (f : c ≡ column_in s l.metadata) (g : m ≡ text_in c) (ready : CanShow (column_in s l.name) (metadata_in s l) es w) where
        pub ready_there : CanShow name m es w
        ready_there = subst (λ (y : Bytes). CanShow name y es w) (sym (g ∙ ap text_in f)) (subst (λ (y : Bytes). CanShow y (metadata_in s l) es w) (sym i) ready)

        own_is : shown_text name m es w ≡ shown_in s l es w
        own_is = ap (λ (y : Bytes). shown_text y m es w) i ∙ ap (λ (y : Bytes). shown_text (column_in s l.name) y es w) (g ∙ ap text_in f)

        own_short : length (shown_text name m es w) ≤ 131077
        own_short =
            omega (
              arith,
              ap length own_is,
              shown_short (column_in s l.name) (metadata_in s l) es w ready,
              part_within s l.name,
              part_within s l.metadata,
              text_shorter (column_in s l.metadata),
              n.short,
            )

        module _ (after : ℕ) (mid2 : Bytes) (p : PutAt end (shown_text name m es w) after mid mid2) where
          -- the end of the line has its place
          pub end_low : after + 21 < 2 ^ 64
          end_low = omega (arith, p.0, own_short, type_low)

          pub line_put : (k len : ℕ) (out' : Bytes) → k ≡ children_below b l.children → k < 2 ^ 64 → PutAt after (end_piece k) len mid2 out'
              → (x : Line) → Shows s l x → LineTold (line_type x) (children_of x) (length (column_in s l.format)) (shown_in s l es w) out out' (given (len, b))
          line_put k len out' j fits q x v =
              let sh = told.0 in
              let is : k ≡ below sh (children_of x) = j ∙ ap (λ (y : Below). children_below y l.children) told.3 ∙ ap (children_below (below_of sh)) v.children ∙ children_there sh (children_of x) in
              let chain = and_then (end_piece k) (and_then (shown_text name m es w) (and_then (columns_piece (columns sh)) (none_yet 0 out) told.2) p) q in
              let same : (columns_piece (columns sh) ++ shown_text name m es w) ++ end_piece k ≡ type_text sh (shown_in s l es w) (below sh (children_of x)) =
              ap (λ (y : Bytes). (columns_piece (columns sh) ++ y) ++ end_piece k) own_is ∙ ap (λ (y : ℕ). (columns_piece (columns sh) ++ shown_in s l es w) ++ end_piece y) is in (
                sh,
                sym (line_type_lem x v) ∙ told.1,
                subst (λ (y : Bytes). PutAt 0 y len out out') same (chain.place, chain.holds),
                told.3,
                omega (arith, q.0, p.0, type_short, ap length own_is, end_short k fits),
              )
