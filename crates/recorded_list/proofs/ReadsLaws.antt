-- One answer of a reader is right: no thing's text begins another's of its kind, so of what stands from a place on there is one, and it has one end.
-- For a byte, a line of numbers, the first line, a header, a part and a record. Assumes nothing.
use mathlib.Core.Path.{◌≡◌, refl, sym, ap, ◌∙◌}
use mathlib.Core.List.{List, ◌++◌}
use Rattle.std.specs.Prelude.{Option, None, Some}
use Prim.Native.Nat.{ℕ}
use native.Mathlib.Omega.{arith}
use lib.ListN.{length, get_or, drop, length-drop}
use Rattle.sheets.specs.Bytes.{Bytes}
use Rattle.recorded_list.specs.ListText.{byte_text, numbers_text, part_text, first_numbers, first_line_text, header_numbers, header_text, record_text}
use Rattle.recorded_list.specs.Reads.{Reads, IsByte, IsNumbers, IsFirstLine, IsHeader, IsPart, IsRecord}
use Rattle.recorded_list.specs.declared.records.Header.{Header}
use Rattle.recorded_list.proofs.TextLaws.{byte_same, part_same}
use Rattle.recorded_list.proofs.NumbersLaws.{numbers_same}
use Rattle.recorded_list.proofs.RecordLaws.{apart}

-- of two things of the kind in front of the same text
abbrev pub OneText : {A : Type 0} → (A → Type 0) → (A → Bytes) → Type 0
OneText {A} Kind text = (x y : A) (a b : Bytes) → Kind x → Kind y → text x ++ a ≡ text y ++ b → (x ≡ y) × (a ≡ b)

pub reads_one : {A : Type 0} (Kind : A → Type 0) (text : A → Bytes) → OneText Kind text → (s : Bytes) (at : ℕ) (o p : Option (A × ℕ)) → Reads Kind text s at o → Reads Kind text s at p → o ≡ p
reads_one Kind text one s at None None r q = refl
reads_one Kind text one s at None (Some y) r q = absurd (r y.0 q.0 (drop y.1 s) q.1.is)
reads_one Kind text one s at (Some x) None r q = absurd (q x.0 r.0 (drop x.1 s) r.1.is)
reads_one Kind text one s at (Some x) (Some y) r q =
    let e = one x.0 y.0 (drop x.1 s) (drop y.1 s) r.0 q.0 (sym r.1.is ∙ q.1.is) in
    let n : x.1 ≡ y.1 = omega (arith, ap length e.1, length-drop x.1 s, length-drop y.1 s, r.1.within, q.1.within) in
    λ i. Some (e.0 i, n i)

-- ── the kinds

pub one_byte : OneText IsByte byte_text
one_byte x y a b h k e = byte_same x y a b e

pub one_numbers : (count : ℕ) → OneText (IsNumbers count) numbers_text
one_numbers count x y a b h k e = numbers_same x y a b (h.long ∙ sym k.long) e

pub one_first_line : OneText IsFirstLine first_line_text
one_first_line x y a b h k e =
    let r = numbers_same (first_numbers x) (first_numbers y) a b refl e in
    let at : (i : ℕ) → get_or (first_numbers x) i 0 ≡ get_or (first_numbers y) i 0 = λ i. ap (λ (l : List ℕ). get_or l i 0) r.0 in
    (λ i. record { records = at 0 i; input = at 1 i; output = at 2 i }, r.1)

same_header : (x y : Header) → header_numbers x ≡ header_numbers y → x ≡ y
same_header x y e =
    let at : (i : ℕ) → get_or (header_numbers x) i 0 ≡ get_or (header_numbers y) i 0 = λ i. ap (λ (l : List ℕ). get_or l i 0) e in
    λ i. record { call = at 0 i; argument = at 1 i; room = at 2 i; number = at 3 i; first = at 4 i; second = at 5 i; input = at 6 i; output = at 7 i }

pub one_header : OneText IsHeader header_text
one_header x y a b h k e =
    let r = numbers_same (header_numbers x) (header_numbers y) a b refl e in
    (same_header x y r.0, r.1)

pub one_part : (count room : ℕ) → OneText (IsPart count room) part_text
one_part count room x y a b h k e = part_same x y a b (h.long ∙ sym k.long) e

pub one_record : (input_room output_room : ℕ) → OneText (IsRecord input_room output_room) record_text
one_record input_room output_room x y a b h k e =
    let f = one_header x.header y.header (part_text x.input ++ (part_text x.output ++ a)) (part_text y.input ++ (part_text y.output ++ b)) h.header k.header (sym (apart x a) ∙ e ∙ apart y b) in
    let inputs : length x.input ≡ length y.input = h.input.long ∙ ap (λ (g : Header). g.input) f.0 ∙ sym k.input.long in
    let outputs : length x.output ≡ length y.output = h.output.long ∙ ap (λ (g : Header). g.output) f.0 ∙ sym k.output.long in
    let i = part_same x.input y.input (part_text x.output ++ a) (part_text y.output ++ b) inputs f.1 in
    let o = part_same x.output y.output a b outputs i.1 in
    (λ j. record { header = f.0 j; input = i.0 j; output = o.0 j }, o.1)
