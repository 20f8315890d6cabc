-- What is known at each place where a line's metadata and name are read: a null metadata has no pairs, any other is a block; the name is tested after
-- it. Assumes nothing.
use mathlib.Core.Path.{◌≡◌, refl, sym, ap, subst, ◌∙◌}
use mathlib.Core.Bool.{Bool, true, false, true≢false}
use mathlib.Core.List.{List}
use Rattle.std.specs.Prelude.{Option, None, Some, Ok, Err}
use Prim.Native.Nat.{ℕ}
use native.Mathlib.Omega.{arith}
use lib.ListN.{length}
use Rattle.sheets.specs.Refusal.{not_utf8}
use Rattle.sheets.specs.Bytes.{Bytes, same}
use Rattle.sheets.specs.Answer.{Answer, refused, given, ◌>>=◌}
use Rattle.sheets.specs.Text.{read_text}
use Rattle.sheets.specs.Utf8.{is_utf8}
use Rattle.sheets.specs.Field.{Pair}
use Rattle.sheets.specs.FieldSheet.{no_text}
use Rattle.sheets.specs.Format.{or_empty}
use Rattle.sheets.specs.Import.{name_text}
use Rattle.sheets.specs.Metadata.{Extension, metadata_from_bytes}
use Rattle.sheets.proofs.BytesLaws.{same_eq, same_refl}
use Rattle.sheets.proofs.InverseLaws.{text_read}
use Rattle.hexadecimal.specs.Hex.{is_hex, bytes_of}
use Rattle.schema_line.specs.Texts.{text_in}
use Rattle.schema_line.proofs.TextLaws.{text_shorter}
use Rattle.refusal.specs.declared.Refusal.{Refusal as Reason}
use Rattle.refusal.specs.declared.Refusal.TheVariants.{NotUtf8}
use Rattle.metadata.specs.declared.Metadata.{Metadata}
use Rattle.metadata.specs.Entry.{pairs_at, value_at}
use Rattle.metadata.specs.Reading.{metadata_answer, MetadataStands, Room}
use Rattle.node.specs.Types.{IsText}
use Rattle.node.specs.Info.{metadata_of, own_answer, ReadsAs, HasBlock}
use Rattle.refusal.specs.Refusals.{Refusing}
use Rattle.node.proofs.TextLaws.{text_bytes}

-- ── the metadata

-- no entries
abbrev pub nothing : Metadata
nothing = record { count = 0; name = 0; more = 0 }

module _ (big : Bool) where
  -- a null metadata has none
  null_reads : (es : List ℕ) → ReadsAs big (metadata_of big no_text) (text_in no_text) es (Ok nothing)
  unfolding text_in pairs_at value_at
  null_reads es =
      (refl, record { entries = record { count = omega arith; each = tt }; has_name = λ n. absurd (true≢false n); has_more = λ n. absurd (true≢false n) })

  pub column_null : (t : Bytes) (es : List ℕ) → same t no_text ≡ true → ReadsAs big (metadata_of big t) (text_in t) es (Ok nothing)
  column_null t es e = subst (λ (y : Bytes). ReadsAs big (metadata_of big y) (text_in y) es (Ok nothing)) (sym (same_eq t no_text e)) (null_reads es)

-- the block is no longer than its column, so there are entries for its pairs
pub block_ready : (t m : Bytes) → m ≡ text_in t → (es fs : List ℕ) → HasBlock t es fs → Room m es fs
block_ready t m q es fs p =
    let h = p.is_text in
    record {
      block = record { is_text = subst (λ (y : Bytes). is_hex y ≡ true) (sym q) (text_bytes t h.0 h.1).0; short = omega (arith, p.short, ap length q, text_shorter t) };
      entries = omega (arith, ap length q, text_shorter t, p.room.entries);
      spare = omega (arith, ap length q, text_shorter t, p.room.spare);
    }

module _ (big : Bool) where
  module _ (t : Bytes) (h : IsText t) (e : same t no_text ≡ false) where
    -- a metadata that is not null is the block of its text
    block_of : metadata_of big t ≡ metadata_from_bytes big (Some (bytes_of (text_in t)))
    block_of = pick h.0 h.1
      where
        pick : (x : Option Bytes) → read_text t ≡ given x → metadata_of big t ≡ metadata_from_bytes big (Some (bytes_of (text_in t)))
        pick None r =
            let n : no_text ≡ t = text_read t None r in
            absurd (true≢false (sym (same_refl no_text) ∙ ap (λ (y : Bytes). same y no_text) n ∙ e))
        pick (Some b) r =
            ap (λ (a : Answer (Option Bytes)). a >>= λ x. metadata_from_bytes big x) r ∙ ap (λ (y : Bytes). metadata_from_bytes big (Some y)) (sym (text_bytes t (Some b) r).1)

    pub column_block : (m : Bytes) → m ≡ text_in t → (es : List ℕ) (r : Refusing Metadata) → metadata_answer big (bytes_of m) es r ≡ metadata_from_bytes big (Some (bytes_of m)) → MetadataStands big (bytes_of m) es r
        → ReadsAs big (metadata_of big t) (text_in t) es r
    column_block m q es r a s =
        subst (λ (y : Bytes). ReadsAs big (metadata_of big t) y es r) q (a ∙ ap (λ (y : Bytes). metadata_from_bytes big (Some (bytes_of y))) q ∙ sym block_of, s)

-- ── the name

module _ (name : Bytes) (h : IsText name) (y : Bytes) (e : y ≡ text_in name) where
  utf8 : (x : Option Bytes) → read_text name ≡ given x → is_utf8 (bytes_of y) ≡ is_utf8 (or_empty x)
  utf8 x r = ap is_utf8 (ap bytes_of e ∙ (text_bytes name x r).1)

  module _ (o : Option (List Pair) × Option Extension) where
    name_good : is_utf8 (bytes_of y) ≡ true → (read_text name >>= λ x. name_text x >>= λ n. given o) ≡ given o
    name_good u = pick h.0 h.1
      where
        pick : (x : Option Bytes) → read_text name ≡ given x → (read_text name >>= λ x. name_text x >>= λ n. given o) ≡ given o
        pick None r = rw r
        pick (Some b) r = rw (r, sym (utf8 (Some b) r) ∙ u)

    name_bad : is_utf8 (bytes_of y) ≡ false → (read_text name >>= λ x. name_text x >>= λ n. given o) ≡ refused not_utf8
    name_bad u = pick h.0 h.1
      where
        pick : (x : Option Bytes) → read_text name ≡ given x → (read_text name >>= λ x. name_text x >>= λ n. given o) ≡ refused not_utf8
        pick None r = absurd (true≢false (sym (utf8 None r) ∙ u))
        pick (Some b) r = rw (r, sym (utf8 (Some b) r) ∙ u)

-- ── both

module _ (big : Bool) where
  module _ (name t m : Bytes) (es : List ℕ) (r : Refusing Metadata) (w : ReadsAs big (metadata_of big t) m es r) where
    abbrev then_name : Answer (Option (List Pair) × Option Extension) → Answer (Option (List Pair) × Option Extension)
    then_name a = a >>= λ o. read_text name >>= λ x. name_text x >>= λ n. given o

    pub own_refused : (q : Reason) → r ≡ Err q → ReadsAs big (own_answer big name t) m es (Err q)
    own_refused q e = (ap then_name (ap (metadata_answer big (bytes_of m) es) (sym e) ∙ w.0), tt)

    module _ (d : Metadata) (e : r ≡ Ok d) (h : IsText name) (y : Bytes) (q : y ≡ text_in name) where
      said : ReadsAs big (metadata_of big t) m es (Ok d)
      said = subst (ReadsAs big (metadata_of big t) m es) e w

      pub own_found : is_utf8 (bytes_of y) ≡ true → ReadsAs big (own_answer big name t) m es (Ok d)
      own_found u = (sym (name_good name h y q _ u) ∙ ap then_name said.0, said.1)

      pub own_unnamed : is_utf8 (bytes_of y) ≡ false → ReadsAs big (own_answer big name t) m es (Err NotUtf8)
      own_unnamed u = (sym (name_bad name h y q _ u) ∙ ap then_name said.0, tt)
