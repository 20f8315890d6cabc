-- What the columns of a field line that are no numbers hold: what the definitions of document 01 read there and the rules keep, as tests. Assumes nothing.
use Rattle.std.specs.Prelude.{Bool, true, false, ◌||◌, ℕ, eqb}
use Rattle.sheets.specs.Rule.{is}
use Rattle.sheets.specs.Bytes.{Bytes, same}
use Rattle.sheets.specs.Answer.{◌>>=◌}
use Rattle.sheets.specs.Number.{read_number}
use Rattle.sheets.specs.Text.{read_text}
use Rattle.sheets.specs.Utf8.{is_utf8}
use Rattle.sheets.specs.Field.{text_rule}
use Rattle.sheets.specs.FieldSheet.{no_text, read_some, bool_at}
use Rattle.hexadecimal.specs.Hex.{gives}
use Rattle.field_columns.specs.Lists.{keeps, is_ids, is_pairs}
use Rattle.field_columns.specs.declared.Content.{Content}
use Rattle.field_columns.specs.declared.Content.TheVariants as C

-- "unused texts `~`"
unfoldable pub is_nothing : Bytes → Bool
is_nothing c = same no_text c

-- "Names, texts .. are UTF-8", "an extension's name never is" `~`
unfoldable pub is_some_text : Bytes → Bool
is_some_text c = keeps (λ (b : Bytes). is (is_utf8 b)) (read_text c >>= read_some)

-- a timezone, `more`: UTF-8, or `~` where it is None
unfoldable pub is_optional_text : Bytes → Bool
is_optional_text c = keeps text_rule (read_text c)

-- "`nullable` 0 or 1"
unfoldable pub is_flag : Bytes → Bool
is_flag c = gives (read_number c >>= bool_at)

-- the columns of document 01 that each case stands for
abbrev pub is_content : Content → Bytes → Bool
is_content C.Nothing c = is_nothing c
is_content C.OptionalText c = is_optional_text c
is_content C.Text c = is_some_text c
is_content C.Ids c = is_ids c
is_content C.Flag c = is_flag c
is_content C.Pairs c = is_pairs c

-- the one byte that most of these columns are: `~` where nothing or None may stand, 0 or 1
abbrev pub is_usual : Content → ℕ → Bool
is_usual C.Nothing b = eqb b 126
is_usual C.OptionalText b = eqb b 126
is_usual C.Text b = false
is_usual C.Ids b = eqb b 126
is_usual C.Flag b = eqb b 48 || eqb b 49
is_usual C.Pairs b = eqb b 126

-- where any text in UTF-8 may stand
abbrev pub takes_text : Content → Bool
takes_text C.Nothing = false
takes_text C.OptionalText = true
takes_text C.Text = true
takes_text C.Ids = false
takes_text C.Flag = false
takes_text C.Pairs = false
