-- The metadata column of a schema line from columns of a field line, and the pieces that it is written in. Assumes nothing.
use Rattle.std.specs.Prelude.{Bool, cond, List, [], ◌∷◌, ◌++◌, ◌/◌, length, Option, None, Some}
use Rattle.sheets.specs.Bytes.{Bytes, same}
use Rattle.sheets.specs.Text.{hex, write_text}
use Rattle.sheets.specs.Field.{Pair, before}
use Rattle.sheets.specs.Metadata.{write_pairs, metadata_key, extension_of, schema_metadata}
use Rattle.column_text.specs.ColumnText.{column_text}
use Rattle.endian.specs.Word.{word_bytes}
use Rattle.field_pairs.specs.Pairs.{pairs_in}

-- the metadata of the schema line: from the columns `pairs`, and `text` and `more` of the extension; a name that is `~` is none
unfoldable pub metadata_column : Bool → Bytes → Bytes → Bytes → Bytes
metadata_column big pairs name more = write_text (schema_metadata big (pairs_in pairs) (extension_of (column_text name) (column_text more)))

-- ── the pieces

-- a text of the block: its length, in bytes, and the text
unfoldable pub sized_text : Bool → Bytes → Bytes
sized_text big text = hex (word_bytes big (length text / 2)) ++ text

-- a pair of the block
unfoldable pub pair_pieces : Bool → Bytes → Bytes → Bytes
unfolding sized_text
pair_pieces big key value = sized_text big key ++ sized_text big value

-- pairs of the block
unfoldable pub block_text : Bool → List Pair → Bytes
block_text big ps = hex (write_pairs big ps)

-- ── merging: the keys are compared as hexadecimal text

-- the pairs up to the first whose key does not stand before the key
unfoldable pub before_text : Bytes → List Pair → List Pair
before_text key [] = []
before_text key (p ∷ ps) = cond (before (hex p.0) key) (p ∷ before_text key ps) []

-- that pair, and those after it
unfoldable pub from_text : Bytes → List Pair → List Pair
from_text key [] = []
from_text key (p ∷ ps) = cond (before (hex p.0) key) (from_text key ps) (p ∷ ps)

-- without the first pair if it has this key
unfoldable pub after_text : Bytes → List Pair → List Pair
after_text key [] = []
after_text key (p ∷ ps) = cond (same (hex p.0) key) ps (p ∷ ps)

-- the pairs up to the extension's metadata, and that
unfoldable pub more_done : Option Bytes → List Pair → List Pair
unfolding before_text
more_done None ps = []
more_done (Some m) ps = before_text (hex metadata_key) ps ++ ((metadata_key, m) ∷ [])

-- the pairs after it
unfoldable pub more_rest : Option Bytes → List Pair → List Pair
unfolding from_text after_text
more_rest None ps = ps
more_rest (Some m) ps = after_text (hex metadata_key) (from_text (hex metadata_key) ps)
