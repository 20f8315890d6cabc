-- What is known at each return of `begin_field`: what the metadata and the name say is what the node says of its field, and the extension's line, if
-- there is one, is written. By the columns that the line shows. Assumes nothing.
use mathlib.Core.Path.{◌≡◌, refl, sym, ap, subst, ◌∙◌}
use mathlib.Core.Bool.{Bool, true}
use mathlib.Core.List.{List, ◌++◌}
use Rattle.std.specs.Prelude.{Option, None, Some, Ok, Err}
use Prim.Native.Nat.{ℕ, ◌+◌, ◌-◌, ◌*◌, ◌≤◌}
use native.Mathlib.Omega.{arith}
use lib.ListN.{length, drop, length-append, length-take, length-drop}
use Rattle.sheets.specs.Refusal.{Refusal}
use Rattle.sheets.specs.Bytes.{Bytes}
use Rattle.sheets.specs.Answer.{Answer, refused, given, ◌>>=◌}
use Rattle.sheets.specs.Text.{read_text}
use Rattle.sheets.specs.Flags.{nullable}
use Rattle.sheets.specs.Schema.{Line, node_of}
use Rattle.sheets.specs.Field.{Pair, Info}
use Rattle.sheets.specs.FieldSheet.{write_list, pair_text}
use Rattle.sheets.specs.Import.{name_text}
use Rattle.sheets.specs.ImportLines.{Own, own_of, shown}
use Rattle.sheets.specs.Metadata.{Extension, extension_of, some_pairs, metadata_from_bytes}
use Rattle.sheets.proofs.Tests.{first_gave}
use Rattle.refusal.specs.declared.Refusal.{Refusal as Reason}
use Rattle.refusal.specs.Refusals.{refusal_of, Refusing}
use Rattle.hexadecimal.specs.Hex.{is_hex, bytes_of}
use Rattle.buffer.specs.Over.{PutAt, PutFirst}
use Rattle.buffer.proofs.OverLaws.{over_nothing, put_over}
use Rattle.decimal.proofs.WriteLaws.{decimal_length}
use Rattle.hexadecimal.proofs.HexLaws.{twice_length}
use Rattle.field_line.specs.Columns.{end_piece}
use Rattle.field_line.proofs.LengthLaws.{bare_length, end_length}
use Rattle.columns.specs.declared.Part.{Part}
use Rattle.schema_line.specs.declared.SchemaLine.{SchemaLine}
use Rattle.schema_line.specs.Lines.{TextAt, Shows}
use Rattle.schema_line.specs.Texts.{text_in}
use Rattle.schema_line.proofs.TextLaws.{text_shorter}
use Rattle.metadata.specs.declared.Metadata.{Metadata}
use Rattle.metadata.specs.Entry.{pair_at, pairs_at, value_at}
use Rattle.metadata.specs.Pairs.{pairs_column}
use Rattle.metadata.proofs.ColumnLaws.{pairs_column_lem, no_value, has_value}
use Rattle.metadata.proofs.SizeLaws.{pairs_short}
use Rattle.node.specs.declared.lines.Shown.{Shown}
use Rattle.node.specs.declared.Begun.{Begun}
use Rattle.node.specs.Types.{IsText}
use Rattle.node.specs.Info.{own_answer, ReadsAs, HasEntries, HasBlock}
use Rattle.node.specs.Pieces.{info_piece, own_text, shown_text, extension_piece, extension_text, CanShow, CanExtend}
use Rattle.node.specs.Nodes.{column_in, metadata_in, nothing_shown, shown_in, IsColumn, NodeIn, OwnBegins}
use Rattle.node.proofs.TextLaws.{text_bytes}
use Rattle.node.proofs.LineLaws.{own_info, shown_short, extension_short, extension_line}

-- ── the columns of the line

abbrev shown_as : Bool → Bool → ℕ → Bool → Shown
shown_as bare nullable count order = record { bare = bare; nullable = nullable; count = count; big = order }

given_is : {A : Type 0} (a c : A) → given a ≡ given c → a ≡ c
given_is a c e = cc

-- what is shown, with the flag that was read
pub shown_made : {bare : Bool} {k n : Bool} {count : ℕ} {order : Bool} → k ≡ n → shown_as bare k count order ≡ shown_as bare n count order
shown_made {bare} {k} {n} {count} {order} e = ap (λ (y : Bool). shown_as bare y count order) e

module _ (big : Bool) where
  pub reads_in : (s : Bytes) (l : SchemaLine) (name t : Bytes) → name ≡ column_in s l.name → t ≡ column_in s l.metadata → (es : List ℕ) (r : Refusing Metadata)
      → ReadsAs big (own_answer big name t) (text_in t) es r → ReadsAs big (own_answer big (column_in s l.name) (column_in s l.metadata)) (metadata_in s l) es r
  reads_in s l name t e f es r h =
      subst (λ (y : Bytes). ReadsAs big (own_answer big (column_in s l.name) y) (text_in y) es r) f (subst (λ (y : Bytes). ReadsAs big (own_answer big y t) (text_in t) es r) e h)

pub put_in : (s : Bytes) (l : SchemaLine) (name m t : Bytes) → name ≡ column_in s l.name → t ≡ column_in s l.metadata → m ≡ text_in t → (es : List ℕ) (v : Shown) (d : Metadata) (len : ℕ) (out out' : Bytes)
    → PutAt 0 (extension_text name m es v d) len out out' → PutAt 0 (extension_text (column_in s l.name) (metadata_in s l) es v d) len out out'
put_in s l name m t e f g es v d len out out' h =
    subst (λ (y : Bytes). PutAt 0 (extension_text (column_in s l.name) y es v d) len out out') (g ∙ ap text_in f) (subst (λ (y : Bytes). PutAt 0 (extension_text y m es v d) len out out') e h)

pub ready_in : (s : Bytes) (l : SchemaLine) (name m t : Bytes) → name ≡ column_in s l.name → t ≡ column_in s l.metadata → m ≡ text_in t → (es : List ℕ) (v : Shown) (d : Metadata)
    → CanShow (column_in s l.name) (metadata_in s l) es v × CanExtend v.big (metadata_in s l) d → CanShow name m es v × CanExtend v.big m d
ready_in s l name m t e f g es v d h =
    subst (λ (y : Bytes). CanShow name y es v × CanExtend v.big y d) (sym (g ∙ ap text_in f)) (subst (λ (y : Bytes). CanShow y (metadata_in s l) es v × CanExtend v.big (metadata_in s l) d) (sym e) h)

pub part_within : (s : Bytes) (p : Part) → length (column_in s p) ≤ length s
part_within s p = omega (arith, length-take (p.end - p.start) (drop p.start s), length-drop p.start s)

pub is_part : {s : Bytes} {p : Part} {x : Option Bytes} → TextAt s p.start p.end x → IsColumn s p
is_part h = (omega (arith, h.some), h.within)

module _ {s : Bytes} {l : SchemaLine} (n : NodeIn s l) where
  pub name_text_lem : IsText (column_in s l.name)
  name_text_lem = (n.line.1.0, n.shows.name.reads)

  metadata_text : IsText (column_in s l.metadata)
  metadata_text = (n.line.1.1.1.0, n.shows.metadata.reads)

  pub block_there : (es fs : List ℕ) → HasEntries s es fs → HasBlock (column_in s l.metadata) es fs
  block_there es fs h =
      let w = part_within s l.metadata in
      record {
        is_text = metadata_text;
        short = omega (arith, w, n.short);
        room = record { entries = omega (arith, w, h.entries); spare = omega (arith, w, h.spare) };
      }

  -- the same of columns that were found
  pub own_there : (name t : Bytes) → name ≡ column_in s l.name → t ≡ column_in s l.metadata → (es fs : List ℕ) → HasEntries s es fs → IsText name × HasBlock t es fs
  own_there name t e f es fs h = (subst IsText (sym e) name_text_lem, subst (λ (y : Bytes). HasBlock y es fs) (sym f) (block_there es fs h))

  -- ── what the node says of its field

  module _ (big : Bool) (x : Line) (w : Shows s l x) where
    abbrev own : Option (List Pair) × Option Extension → Bytes → Own
    own o m = (record { name = m; nullable = nullable (node_of x).flags; pairs = o.0 }, o.1)

    abbrev named : Option (List Pair) × Option Extension → Answer Own
    named o = name_text x.1.0 >>= λ m. given (own o m)

    -- the columns say what the node says
    columns_say : own_answer big (column_in s l.name) (column_in s l.metadata) ≡ (metadata_from_bytes big x.1.1.1.0 >>= λ o. name_text x.1.0 >>= λ m. given o)
    columns_say =
        ap (λ (a : Answer (Option Bytes)). (a >>= λ y. metadata_from_bytes big y) >>= λ o. read_text (column_in s l.name) >>= λ y. name_text y >>= λ m. given o) w.metadata.reads
        ∙ ap (λ (a : Answer (Option Bytes)). metadata_from_bytes big x.1.1.1.0 >>= λ o. a >>= λ y. name_text y >>= λ m. given o) w.name.reads

    say_refused : (q : Refusal) → (metadata_from_bytes big x.1.1.1.0 >>= λ o. name_text x.1.0 >>= λ m. given o) ≡ refused q → own_of big (node_of x) ≡ refused q
    say_refused q = metadata (metadata_from_bytes big x.1.1.1.0)
      where
        name : (o : Option (List Pair) × Option Extension) (a : Answer Bytes) → (a >>= λ m. given o) ≡ refused q → (a >>= λ m. given (own o m)) ≡ refused q
        name o (refused r) e = let same : r ≡ q = cc in ap refused same
        name o (given m) e = let z : ◌≡◌ {A = ℕ} 0 1 = cc in absurd (omega arith)

        metadata : (a : Answer (Option (List Pair) × Option Extension)) → (a >>= λ o. name_text x.1.0 >>= λ m. given o) ≡ refused q → (a >>= named) ≡ refused q
        metadata (refused r) e = let same : r ≡ q = cc in ap refused same
        metadata (given o) e = name o (name_text x.1.0) e

    say_given : (o : Option (List Pair) × Option Extension) → (metadata_from_bytes big x.1.1.1.0 >>= λ o. name_text x.1.0 >>= λ m. given o) ≡ given o
        → (m : Bytes) × (name_text x.1.0 ≡ given m) × (metadata_from_bytes big x.1.1.1.0 ≡ given o) × (own_of big (node_of x) ≡ given (own o m))
    say_given o e =
        let (p, read, f) = first_gave (metadata_from_bytes big x.1.1.1.0) (λ p. name_text x.1.0 >>= λ m. given p) o e in
        let (m, name, g) = first_gave (name_text x.1.0) (λ m. given p) o f in
        let same : p ≡ o = given_is p o g in
        let is : metadata_from_bytes big x.1.1.1.0 ≡ given o = read ∙ ap given same in
        (m, name, is, ap (λ (a : Answer (Option (List Pair) × Option Extension)). a >>= named) is ∙ ap (λ (a : Answer Bytes). a >>= λ y. given (own o y)) name)

    -- ── what is told

    abbrev m : Bytes
    m = metadata_in s l

    abbrev name : Bytes
    name = column_in s l.name

    m_hex : is_hex m ≡ true
    m_hex = (text_bytes (column_in s l.metadata) metadata_text.0 metadata_text.1).0

    name_short : length name ≤ 65535
    name_short = omega (arith, part_within s l.name, n.short)

    m_short : length m ≤ 65535
    m_short = omega (arith, text_shorter (column_in s l.metadata), part_within s l.metadata, n.short)

    -- no pairs are shown
    none_shown : (es : List ℕ) → CanShow name m es (nothing_shown big)
    unfolding pairs_at pairs_column
    none_shown es =
        record {
          named = omega (arith, name_short);
          pairs = record { is_text = m_hex; short = omega (arith, m_short); entries = record { count = omega arith; each = tt }; column = omega arith };
        }

    module _ (bare : Bool) (es : List ℕ) (r : Refusing Metadata) (h : ReadsAs big (own_answer big name (column_in s l.metadata)) m es r) (out : Bytes) where
      pub begin_refused : (q : Reason) → r ≡ Err q → (b : Begun) → b ≡ record { len = 0; shown = nothing_shown big; pending = Err q } → OwnBegins s l bare big x es out out b
      begin_refused q e b is =
          let told : refused (refusal_of q) ≡ own_answer big name (column_in s l.metadata) = (subst (ReadsAs big (own_answer big name (column_in s l.metadata)) m es) e h).0 in
          subst (OwnBegins s l bare big x es out out) (sym is)
          (record {
            ready = none_shown es;
            order = refl;
            told = (say_refused (refusal_of q) (sym columns_say ∙ sym told), refl, refl);
            long = omega (arith, shown_short name m es (nothing_shown big) (none_shown es), none_length es);
          })
        where
          none_length : (es : List ℕ) → length (shown_in s l es (nothing_shown big)) ≤ 6
          none_length es = omega (arith, bare_length)

      module _ (d : Metadata) (e : r ≡ Ok d) where
        found : ReadsAs big (own_answer big name (column_in s l.metadata)) m es (Ok d)
        found = subst (ReadsAs big (own_answer big name (column_in s l.metadata)) m es) e h

        abbrev meaning : Option (List Pair) × Option Extension
        meaning = (some_pairs (pairs_at big (bytes_of m) es d.count), extension_of (value_at big (bytes_of m) d.name) (value_at big (bytes_of m) d.more))

        said : (y : Bytes) × (name_text x.1.0 ≡ given y) × (metadata_from_bytes big x.1.1.1.0 ≡ given meaning) × (own_of big (node_of x) ≡ given (own meaning y))
        said = say_given meaning (sym columns_say ∙ sym found.0)

        column_length_lem : length (pairs_column big (bytes_of m) es d.count) ≤ length m + 1
        column_length_lem = by_text x.1.1.1.0 w.metadata.reads said.2
          where
            by_text : (y : Option Bytes) → read_text (column_in s l.metadata) ≡ given y → metadata_from_bytes big y ≡ given meaning → length (pairs_column big (bytes_of m) es d.count) ≤ length m + 1
            by_text None t f =
                let z : None ≡ some_pairs (pairs_at big (bytes_of m) es d.count) = ap (λ (q : Option (List Pair) × Option Extension). q.0) (given_is (None, None) meaning f) in
                omega (arith, ap length (pairs_column_lem big (bytes_of m) es d.count), ap (λ (y : Option (List Pair)). length (write_list pair_text y)) z)
            by_text (Some b) t f =
                let bytes : bytes_of m ≡ b = (text_bytes (column_in s l.metadata) (Some b) t).1 in
                omega (arith, ap length (pairs_column_lem big (bytes_of m) es d.count), pairs_short big b _ _ f, ap length bytes, twice_length m m_hex)

        module _ (v : Shown) (shows : v ≡ record { bare = bare; nullable = nullable l.flags; count = d.count; big = big }) where
          pub can_show : CanShow name m es v
          can_show =
              subst (CanShow name m es) (sym shows)
              (record { named = omega (arith, name_short); pairs = record { is_text = m_hex; short = omega (arith, m_short); entries = found.1.entries; column = column_length_lem } })

          abbrev info : Info
          info = (own meaning said.0).0

          -- the columns of the field
          shown_is : shown_in s l es v ≡ info_piece (shown bare info)
          shown_is =
              ap (shown_in s l es) shows
              ∙ ap (λ (k : Bool). own_text bare name k (pairs_column big (bytes_of m) es d.count)) (ap nullable w.flags)
              ∙ ap (own_text bare name (nullable (node_of x).flags)) (pairs_column_lem big (bytes_of m) es d.count)
              ∙ own_info bare name x.1.0 info w.name.reads said.1

          -- there is no extension
          pub begin_plain : d.name ≡ 0 → (b : Begun) → b ≡ record { len = 0; shown = v; pending = (Ok tt) } → OwnBegins s l bare big x es out out b
          begin_plain z b is =
              let none_is : own meaning said.0 ≡ (info, None) = ap (λ (y : Option Bytes). (info, extension_of y (value_at big (bytes_of m) d.more))) (no_value big (bytes_of m) d.name z) in
              subst (OwnBegins s l bare big x es out out) (sym is)
              (record {
                ready = can_show;
                order = ap (λ (y : Shown). y.big) shows;
                told = (info, None, said.3 ∙ ap given none_is, ((refl, sym (over_nothing out)), shown_is));
                long = omega (arith, shown_short name m es v can_show, text_shorter (column_in s l.metadata));
              })

          pub can_extend : CanExtend v.big m d
          can_extend =
              subst (λ (y : Shown). CanExtend y.big m d) (sym shows)
              (record { is_text = m_hex; short = omega (arith, m_short); has_name = found.1.has_name; has_more = found.1.has_more })

          -- the extension's line is written
          pub begin_extended : (d.name ≡ 0 → ⊥) → (out' : Bytes) (len : ℕ) → PutAt 0 (extension_text name m es v d) len out out'
              → (b : Begun) → b ≡ record { len = len; shown = nothing_shown big; pending = (Ok tt) } → OwnBegins s l bare big x es out out' b
          unfolding extension_text
          begin_extended z out' len p b is =
              let n : Bytes = (pair_at big (bytes_of m) d.name).1 in
              let value = has_value big (bytes_of m) d.name z in
              let same : big ≡ v.big = sym (ap (λ (y : Shown). y.big) shows) in
              let some_is : own meaning said.0 ≡ (info, Some (n, value_at big (bytes_of m) d.more)) = ap (λ (y : Option Bytes). (info, extension_of y (value_at big (bytes_of m) d.more))) value in
              let line = extension_line name m es v d (shown bare info) n (value_at big (bytes_of m) d.more) (subst (λ (y : Bool). value_at y (bytes_of m) d.name ≡ Some n) same value) (ap (λ (y : Bool). value_at y (bytes_of m) d.more) (sym same)) shown_is in
              subst (OwnBegins s l bare big x es out out') (sym is)
              (record {
                ready = none_shown es;
                order = refl;
                told = (
                  info,
                  Some (n, value_at big (bytes_of m) d.more),
                  said.3 ∙ ap given some_is,
                  (subst (λ (y : Bytes). PutFirst y len out out') line (put_over (extension_text name m es v d) out p), refl),
                );
                long = omega (arith, p.0, extended_length, text_shorter (column_in s l.metadata), bare_length);
              })
            where
              extended_length : length (extension_text name m es v d) ≤ 76 + length name + 3 * length m
              extended_length =
                  omega (
                    arith,
                    length-append (extension_piece v.big (bytes_of m) d ++ shown_text name m es v) (end_piece 1),
                    length-append (extension_piece v.big (bytes_of m) d) (shown_text name m es v),
                    extension_short v.big m m_hex d,
                    shown_short name m es v can_show,
                    end_length 1,
                    decimal_length 1 1 (omega arith) (omega arith),
                  )
