-- The lines of a node as they are written, from the columns of its schema line and the entries of its metadata. Assumes nothing.
use Rattle.std.specs.Prelude.{◌≡◌, Bool, true, false, List, ◌++◌, ℕ, ◌<◌, length, Option}
use Rattle.sheets.specs.Bytes.{Bytes}
use Rattle.sheets.specs.Text.{write_text}
use Rattle.sheets.specs.Field.{Info}
use Rattle.sheets.specs.FieldSheet.{no_text, info_columns}
use Rattle.sheets.specs.Kind
use Rattle.hexadecimal.specs.Hex.{is_hex, bytes_of}
use Rattle.field_line.specs.Columns.{column, shape_piece, own_piece, end_piece}
use Rattle.metadata.specs.declared.Metadata.{Metadata}
use Rattle.metadata.specs.Entry.{value_at, OrNone}
use Rattle.metadata.specs.Pairs.{pairs_column, HasPairs}
use Rattle.node.specs.Names.{name_piece}
use Rattle.node.specs.declared.lines.Shown.{Shown}

-- name nullable pairs of a line; "bare lines: `name`, `nullable` and `pairs` all `~`"
abbrev pub info_piece : Option Info → Bytes
info_piece j = own_piece (info_columns j).0 (info_columns j).1.0 (info_columns j).1.1

-- the same from a schema's name column
abbrev pub own_text : Bool → Bytes → Bool → Bytes → Bytes
own_text true name nullable pairs = own_piece no_text no_text no_text
own_text false name nullable pairs = name_piece name nullable ++ column pairs

-- the same from the text of a schema's metadata and the entries of its pairs
abbrev pub shown_text : Bytes → Bytes → List ℕ → Shown → Bytes
shown_text name m es w = own_text w.bare name w.nullable (pairs_column w.big (bytes_of m) es w.count)

-- kind p q text more of an extension: "`text` is .. the extension's name", "`more` is the extension's metadata"
unfoldable pub extension_piece : Bool → Bytes → Metadata → Bytes
extension_piece big b d = shape_piece Kind.Extension 0 0 (write_text (value_at big b d.name)) (write_text (value_at big b d.more))

-- the line of an extension
unfoldable pub extension_text : Bytes → Bytes → List ℕ → Shown → Metadata → Bytes
unfolding extension_piece
extension_text name m es w d = (extension_piece w.big (bytes_of m) d ++ shown_text name m es w) ++ end_piece 1

-- ── what the writers require

-- the name is no longer than a sheet, and the pairs are entries of the metadata
pub record CanShow (name m : Bytes) (es : List ℕ) (w : Shown) : Type 0 where
  pub named : length name < 65536
  pub pairs : HasPairs w.big m es w.count

-- the extension's name and metadata are entries of the metadata
pub record CanExtend (big : Bool) (m : Bytes) (d : Metadata) : Type 0 where
  pub is_text : is_hex m ≡ true
  pub short : length m < 65536
  pub has_name : OrNone big (bytes_of m) d.name
  pub has_more : OrNone big (bytes_of m) d.more
