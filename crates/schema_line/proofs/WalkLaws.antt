-- A line read column by column, as `read_line` does: a law for each column that can be missing, and one for the line whose columns are all there.
-- Assumes nothing.
use mathlib.Core.Path.{◌≡◌, refl, sym}
use Rattle.std.specs.Prelude.{None, Some}
use Prim.Native.Nat.{ℕ, ◌+◌, ◌^◌, ◌≤◌, ◌<◌}
use native.Mathlib.Omega.{arith}
use lib.IntN.{ℤ}
use lib.Signed.{mag}
use lib.ListN.{length}
use borrow.Author.Tests.{lt-ltb, le-ltb}
use Rattle.sheets.specs.Refusal.{bad_lines}
use Rattle.sheets.specs.Rule.{Meets}
use Rattle.sheets.specs.Bytes.{Bytes}
use Rattle.sheets.specs.Answer.{refused, given}
use Rattle.sheets.specs.Schema.{Line}
use Rattle.columns.specs.Columns.{part, column_of}
use Rattle.columns.specs.TextColumns.{is_text, is_cstring}
use Rattle.columns.specs.NumberColumns.{number_in, signed_in}
use Rattle.columns.proofs.FindLaws.{Finds, finds}
use Rattle.columns.proofs.NumberFindLaws.{FindsNumber, FindsSigned, finds_number, finds_signed}
use Rattle.schema_line.specs.Lines.{line_rule, read_line}
use Rattle.schema_line.proofs.LineLaws.{c_string_of, text_of, Ends, shown, walk, ends_read}
use Rattle.schema_line.proofs.KnownLaws.{walk_refused}

module _ (s : Bytes) (at : ℕ) where
  pub no_format : column_of is_cstring 32 s at ≡ None → read_line s at ≡ refused bad_lines
  unfolding walk
  no_format miss = walk_refused s at (rw miss)

  module _ {f : ℕ} (ef : column_of is_cstring 32 s at ≡ Some f) where
    format_is : Finds is_cstring s at 32 (Some f)
    format_is = finds is_cstring s at 32 refl (Some f) (sym ef)

    pub format_ends : f < length s
    format_ends = format_is.0.high

    pub no_name : column_of is_cstring 32 s (f + 1) ≡ None → read_line s at ≡ refused bad_lines
    unfolding walk
    no_name miss = walk_refused s at (rw (ef, miss))

    module _ {n : ℕ} (en : column_of is_cstring 32 s (f + 1) ≡ Some n) where
      name_is_lem : Finds is_cstring s (f + 1) 32 (Some n)
      name_is_lem = finds is_cstring s (f + 1) 32 refl (Some n) (sym en)

      pub name_ends : n < length s
      name_ends = name_is_lem.0.high

      pub no_flags_lem : signed_in 32 s (n + 1) ≡ refused bad_lines → read_line s at ≡ refused bad_lines
      unfolding walk
      no_flags_lem miss = walk_refused s at (rw (ef, en, miss))

      module _ {z : ℤ} {g : ℕ} (eg : signed_in 32 s (n + 1) ≡ given (z, g)) where
        flags_is : FindsSigned s (n + 1) 32 (given (z, g))
        flags_is = finds_signed s (n + 1) 32 refl (given (z, g)) (sym eg)

        pub flags_ends : g < length s
        flags_ends = flags_is.0.high

        pub flags_small : mag z < 2 ^ 63
        flags_small = flags_is.2

        pub no_metadata : column_of is_text 32 s (g + 1) ≡ None → read_line s at ≡ refused bad_lines
        unfolding walk
        no_metadata miss = walk_refused s at (rw (ef, en, eg, miss))

        module _ {m : ℕ} (em : column_of is_text 32 s (g + 1) ≡ Some m) where
          metadata_is : Finds is_text s (g + 1) 32 (Some m)
          metadata_is = finds is_text s (g + 1) 32 refl (Some m) (sym em)

          pub metadata_ends : m < length s
          metadata_ends = metadata_is.0.high

          pub no_children : number_in 32 s (m + 1) ≡ refused bad_lines → read_line s at ≡ refused bad_lines
          unfolding walk
          no_children miss = walk_refused s at (rw (ef, en, eg, em, miss))

          module _ {c h : ℕ} (eh : number_in 32 s (m + 1) ≡ given (c, h)) where
            children_is : FindsNumber s (m + 1) 32 (given (c, h))
            children_is = finds_number s (m + 1) 32 refl (given (c, h)) (sym eh)

            pub children_end : h < length s
            children_end = children_is.0.high

            pub no_dictionary : number_in 10 s (h + 1) ≡ refused bad_lines → read_line s at ≡ refused bad_lines
            unfolding walk
            no_dictionary miss = walk_refused s at (rw (ef, en, eg, em, eh, miss))

            module _ {d e : ℕ} (ee : number_in 10 s (h + 1) ≡ given (d, e)) where
              dictionary_is : FindsNumber s (h + 1) 10 (given (d, e))
              dictionary_is = finds_number s (h + 1) 10 refl (given (d, e)) (sym ee)

              pub dictionary_ends : e < length s
              dictionary_ends = dictionary_is.0.high

              pub two_dictionaries : 1 < d → read_line s at ≡ refused bad_lines
              unfolding walk
              two_dictionaries l = walk_refused s at (rw (ef, en, eg, em, eh, ee, le-ltb d 2 l))

              pub line_found : d ≤ 1 → read_line s at ≡ given (shown at f n g m e z c d)
              line_found l =
                  let tf = c_string_of (part s at f) format_is.1 in
                  let tn = c_string_of (part s (f + 1) n) name_is_lem.1 in
                  let tm = text_of (part s (g + 1) m) metadata_is.1 in
                  let x : Line = (tf.0, (tn.0, (z, (tm.0, (c, (d, tt)))))) in
                  let rule : Meets (line_rule x) = ((tf.2, (tn.2, lt-ltb (mag z) (2 ^ 63) flags_small)), (lt-ltb c (2 ^ 64) children_is.2, lt-ltb d 2 (omega arith))) in
                  let k : Ends s at x f n g m h e =
                  record {
                    format = format_is.0;
                    name = name_is_lem.0;
                    flags = flags_is.0;
                    metadata = metadata_is.0;
                    children = children_is.0;
                    dictionary = dictionary_is.0;
                    is_format = tf.1;
                    is_name = tn.1;
                    is_flags = flags_is.1;
                    is_metadata = tm.1;
                    is_children = children_is.1;
                    is_dictionary = dictionary_is.1;
                  } in
                  ends_read k rule
