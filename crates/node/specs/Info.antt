-- What a line's metadata and name say of its field: pairs and an extension, as entries of the metadata's text, or a refusal. Assumes nothing.
use Rattle.std.specs.Prelude.{◌≡◌, Bool, List, ℕ, ◌/◌, ◌≤◌, ◌<◌, length, Option}
use Rattle.sheets.specs.Bytes.{Bytes}
use Rattle.sheets.specs.Answer.{Answer, given, ◌>>=◌}
use Rattle.sheets.specs.Text.{read_text}
use Rattle.sheets.specs.Field.{Pair}
use Rattle.sheets.specs.Metadata.{Extension, metadata_from_bytes}
use Rattle.sheets.specs.Import.{name_text}
use Rattle.hexadecimal.specs.Hex.{bytes_of}
use Rattle.metadata.specs.declared.Metadata.{Metadata}
use Rattle.metadata.specs.Reading.{metadata_answer, MetadataStands}
use Rattle.refusal.specs.Refusals.{Refusing}
use Rattle.node.specs.Types.{IsText}

-- the pairs and the extension of a metadata's column
abbrev pub metadata_of : Bool → Bytes → Answer (Option (List Pair) × Option Extension)
metadata_of big t = read_text t >>= λ x. metadata_from_bytes big x

-- the same, unless the name is refused: "Then come metadata, then the name"
abbrev pub own_answer : Bool → Bytes → Bytes → Answer (Option (List Pair) × Option Extension)
own_answer big name t = metadata_of big t >>= λ o. read_text name >>= λ x. name_text x >>= λ n. given o

-- the answer, as entries of the text m
abbrev pub ReadsAs : Bool → Answer (Option (List Pair) × Option Extension) → Bytes → List ℕ → Refusing Metadata → Type 0
ReadsAs big a m es r = (metadata_answer big (bytes_of m) es r ≡ a) × MetadataStands big (bytes_of m) es r

-- ── what is required

-- entries for the pairs of any metadata that is a part of s: a pair takes 16 digits for its lengths
pub record HasEntries (s : Bytes) (es fs : List ℕ) : Type 0 where
  pub entries : length s / 16 ≤ length es
  pub spare : length s / 16 ≤ length fs

-- a metadata's column, and entries for its pairs
pub record HasBlock (t : Bytes) (es fs : List ℕ) : Type 0 where
  pub is_text : IsText t
  pub short : length t < 65536
  pub room : HasEntries t es fs
