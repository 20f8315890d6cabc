-- The lines of numbers as structs, and a record's three parts one after the other: each begins where the one before it ends, and a record that
-- stood there would have the same parts as far as they were read. Assumes nothing.
use mathlib.Core.Path.{◌≡◌, refl, sym, ap, subst, ◌∙◌}
use mathlib.Core.List.{List, [], ◌∷◌, ◌++◌, append_assoc}
use Rattle.std.specs.Prelude.{None, Some}
use Prim.Native.Nat.{ℕ}
use native.Mathlib.Omega.{arith}
use lib.ListN.{length, get_or, drop}
use Rattle.sheets.specs.Bytes.{Bytes}
use Rattle.recorded_list.specs.ListText.{Record, numbers_text, part_text, first_numbers, first_line_text, header_numbers, header_text, record_text}
use Rattle.recorded_list.specs.Reads.{Reads, IsNumbers, IsFirstLine, IsHeader, IsPart, IsRecord}
use Rattle.recorded_list.specs.declared.records.Header.{Header}
use Rattle.recorded_list.specs.declared.records.FirstLine.{FirstLine}
use Rattle.recorded_list.proofs.TextLaws.{part_same}
use Rattle.recorded_list.proofs.NumbersLaws.{numbers_same}

-- ── the numbers by their places

pub three : (l : List ℕ) → length l ≡ 3 → get_or l 0 0 ∷ get_or l 1 0 ∷ get_or l 2 0 ∷ [] ≡ l
three [] n = absurd (omega arith)
three (a ∷ []) n = absurd (omega arith)
three (a ∷ b ∷ []) n = absurd (omega arith)
three (a ∷ b ∷ c ∷ []) n = refl
three (a ∷ b ∷ c ∷ d ∷ l) n = absurd (omega arith)

pub eight : (l : List ℕ) → length l ≡ 8 → get_or l 0 0 ∷ get_or l 1 0 ∷ get_or l 2 0 ∷ get_or l 3 0 ∷ get_or l 4 0 ∷ get_or l 5 0 ∷ get_or l 6 0 ∷ get_or l 7 0 ∷ [] ≡ l
eight [] n = absurd (omega arith)
eight (a ∷ []) n = absurd (omega arith)
eight (a ∷ b ∷ []) n = absurd (omega arith)
eight (a ∷ b ∷ c ∷ []) n = absurd (omega arith)
eight (a ∷ b ∷ c ∷ d ∷ []) n = absurd (omega arith)
eight (a ∷ b ∷ c ∷ d ∷ e ∷ []) n = absurd (omega arith)
eight (a ∷ b ∷ c ∷ d ∷ e ∷ f ∷ []) n = absurd (omega arith)
eight (a ∷ b ∷ c ∷ d ∷ e ∷ f ∷ g ∷ []) n = absurd (omega arith)
eight (a ∷ b ∷ c ∷ d ∷ e ∷ f ∷ g ∷ h ∷ []) n = refl
eight (a ∷ b ∷ c ∷ d ∷ e ∷ f ∷ g ∷ h ∷ i ∷ l) n = absurd (omega arith)

-- ── lines

pub no_first_line : (s : Bytes) (at n : ℕ) → n ≡ 3 → Reads (IsNumbers n) numbers_text s at None → Reads IsFirstLine first_line_text s at None
no_first_line s at n e told l words = told (first_numbers l) (record { long = sym e; words = words })

pub first_line_lem : (s : Bytes) (at : ℕ) (l : FirstLine) (next : ℕ) (ns : List ℕ) → first_numbers l ≡ ns → Reads (IsNumbers (length ns)) numbers_text s at (Some (ns, next))
    → Reads IsFirstLine first_line_text s at (Some (l, next))
first_line_lem s at l next ns e told =
    let r = subst (λ (ms : List ℕ). Reads (IsNumbers (length ms)) numbers_text s at (Some (ms, next))) (sym e) told in
    (r.0.words, r.1)

pub no_header : (s : Bytes) (at n : ℕ) → n ≡ 8 → Reads (IsNumbers n) numbers_text s at None → Reads IsHeader header_text s at None
no_header s at n e told h words = told (header_numbers h) (record { long = sym e; words = words })

pub header : (s : Bytes) (at : ℕ) (h : Header) (next : ℕ) (ns : List ℕ) → header_numbers h ≡ ns → Reads (IsNumbers (length ns)) numbers_text s at (Some (ns, next))
    → Reads IsHeader header_text s at (Some (h, next))
header s at h next ns e told =
    let r = subst (λ (ms : List ℕ). Reads (IsNumbers (length ms)) numbers_text s at (Some (ms, next))) (sym e) told in
    (r.0.words, r.1)

-- ── the parts of a record

pub apart : (r : Record) (rest : Bytes) → record_text r ++ rest ≡ header_text r.header ++ (part_text r.input ++ (part_text r.output ++ rest))
unfolding record_text
apart r rest =
    let x = part_text r.input in
    let y = part_text r.output in
    append_assoc (header_text r.header) (x ++ y) rest ∙ ap (λ (t : Bytes). header_text r.header ++ t) (append_assoc x y rest)

module _ (s : Bytes) (at input_room output_room : ℕ) where
  pub headless : Reads IsHeader header_text s at None → Reads (IsRecord input_room output_room) record_text s at None
  headless told r is rest e = told r.header is.header (part_text r.input ++ (part_text r.output ++ rest)) (e ∙ apart r rest)

  module _ (g : Header) (body : ℕ) (read : Reads IsHeader header_text s at (Some (g, body))) where
    -- a record there has this header
    same_header : (r : Record) (rest : Bytes) → drop at s ≡ record_text r ++ rest → (header_numbers g ≡ header_numbers r.header) × (drop body s ≡ part_text r.input ++ (part_text r.output ++ rest))
    same_header r rest e =
        numbers_same (header_numbers g) (header_numbers r.header) (drop body s) (part_text r.input ++ (part_text r.output ++ rest)) refl (sym read.1.is ∙ e ∙ apart r rest)

    same_input : (h : Header) → header_numbers g ≡ header_numbers h → h.input ≡ g.input
    same_input h e = ap (λ (l : List ℕ). get_or l 6 0) (sym e)

    same_output : (h : Header) → header_numbers g ≡ header_numbers h → h.output ≡ g.output
    same_output h e = ap (λ (l : List ℕ). get_or l 7 0) (sym e)

    pub no_input : Reads (IsPart g.input input_room) part_text s body None → Reads (IsRecord input_room output_room) record_text s at None
    no_input told r is rest e =
        let f = same_header r rest e in
        told r.input (subst (λ (n : ℕ). IsPart n input_room r.input) (same_input r.header f.0) is.input) (part_text r.output ++ rest) f.1

    module _ (x : Bytes) (middle : ℕ) (input : Reads (IsPart g.input input_room) part_text s body (Some (x, middle))) where
      pub no_output : Reads (IsPart g.output output_room) part_text s middle None → Reads (IsRecord input_room output_room) record_text s at None
      no_output told r is rest e =
          let f = same_header r rest e in
          let long : length x ≡ length r.input = input.0.long ∙ sym (same_input r.header f.0) ∙ sym is.input.long in
          let p = part_same x r.input (drop middle s) (part_text r.output ++ rest) long (sym input.1.is ∙ f.1) in
          told r.output (subst (λ (n : ℕ). IsPart n output_room r.output) (same_output r.header f.0) is.output) rest p.1

      pub whole_record : (y : Bytes) (end : ℕ) → Reads (IsPart g.output output_room) part_text s middle (Some (y, end))
          → Reads (IsRecord input_room output_room) record_text s at (Some (record { header = g; input = x; output = y }, end))
      whole_record y end output =
          let r : Record = record { header = g; input = x; output = y } in (
            record { header = read.0; input = input.0; output = output.0 },
            record {
              is = read.1.is ∙ ap (λ (t : Bytes). header_text g ++ t) (input.1.is ∙ ap (λ (t : Bytes). part_text x ++ t) output.1.is) ∙ sym (apart r (drop end s));
              within = output.1.within;
            },
          )
