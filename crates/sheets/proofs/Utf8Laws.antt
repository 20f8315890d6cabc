-- Laws of UTF-8: it is bytes; one text after another is a text; ASCII is UTF-8; classes and states decide it, byte by byte; and what the
-- definition finds is sequences of Table 3-7, one after the other. The first three by induction over what is still to follow, the classes by
-- one test computed at all 256 bytes for each range. Assumes nothing.
use mathlib.Core.Path.{◌≡◌, refl, sym, ◌∙◌, ap, subst}
use mathlib.Core.Logic.{◌↔◌}
use mathlib.Core.Bool
use mathlib.Core.Bool.{Bool, true, false, cond, ◌&&◌, ◌||◌}
use mathlib.Core.List.{List, [], ◌∷◌, ◌++◌}
use Rattle.std.specs.Prelude.{Option, None, Some}
use Prim.Native.Nat.{ℕ, zero, suc, ◌+◌, ◌<◌, ◌≤◌}
use native.Mathlib.Omega.{arith}
use lib.Dec.{eqb, ltb, leb}
use borrow.Author.Tests.{lt-ltb, ltb-true, le-leb, lt-leb, leb-true, eqb-true}
use Rattle.sheets.specs.Rule.{Rule, is, ◌and◌, each, passes, Meets}
use Rattle.sheets.specs.Bytes.{Bytes, all, is_byte}
use Rattle.sheets.specs.Utf8.{Range, ◌to◌, in_range, table, fits, is_sequence, concat, WellFormed, following, sequences, is_utf8}
use Rattle.sheets.specs.Utf8Classes.{class_of, next_of, state_after}
use Rattle.sheets.specs.Field.{text_rule}
use Rattle.sheets.proofs.Tests.{and_left, and_right, every, at_each, meets, never, not_some}
use Rattle.sheets.proofs.TextLaws.{bytes_rule}

-- what follows a first byte: nothing fits where it begins no row
abbrev go_on : Option (List Range) → Bytes → Bool
go_on None s = false
go_on (Some rs) s = sequences rs s

go_on_lem : (o : Option (List Range)) (s : Bytes) → (elim o as (λ z. Bool) [ None ↦ false | Some rs ↦ sequences rs s ]) ≡ go_on o s
go_on_lem None s = refl
go_on_lem (Some rs) s = refl

begin : (b : ℕ) (s : Bytes) → sequences [] (b ∷ s) ≡ go_on (following b table) s
begin b s = go_on_lem (following b table) s

-- ── UTF-8 is bytes

-- the ranges are of bytes
abbrev byte_ranges : List Range → Rule
byte_ranges rs = each (λ (r : Range). is (ltb r.last 256)) rs

in_byte : (r : Range) (b : ℕ) → ltb r.last 256 ≡ true → in_range r b ≡ true → is_byte b ≡ true
in_byte r b h k =
    let l : b ≤ r.last = leb-true b r.last (and_right (leb r.first b) (leb b r.last) k) in
    lt-ltb b 256 (omega (arith, ltb-true r.last 256 h))

-- a byte that begins a row, and the ranges of the bytes after it
follow_bytes : (rows : List (List Range)) → Meets (each byte_ranges rows) → (b : ℕ) (rs : List Range) → following b rows ≡ Some rs → (is_byte b ≡ true) × Meets (byte_ranges rs)
follow_bytes [] h b rs e = not_some e
follow_bytes ([] ∷ rows) h b rs e = follow_bytes rows h.1 b rs e
follow_bytes ((r ∷ row) ∷ rows) h b rs e = pick (in_range r b) refl (follow_bytes rows h.1 b rs) e
  where
    pick : (t : Bool) → in_range r b ≡ t → (following b rows ≡ Some rs → (is_byte b ≡ true) × Meets (byte_ranges rs)) → elim t as (λ z. Option (List Range)) [ true ↦ Some row | false ↦ following b rows ] ≡ Some rs → (is_byte b ≡ true) × Meets (byte_ranges rs)
    pick true t next g =
        let same : row ≡ rs = cc in
        (in_byte r b h.0.0 t, subst (λ x. Meets (byte_ranges x)) same h.0.1)
    pick false t next g = next g

table_bytes : Meets (each byte_ranges table)
table_bytes = meets (each byte_ranges table) refl

-- the first byte of a sequence, and the ranges of those after it
first_byte : (b : ℕ) (s : Bytes) (o : Option (List Range)) → following b table ≡ o → go_on o s ≡ true → (is_byte b ≡ true) × (rs : List Range) × Meets (byte_ranges rs) × (sequences rs s ≡ true)
first_byte b s None e k = never k
first_byte b s (Some rs) e k = let f = follow_bytes table table_bytes b rs e in (f.0, rs, f.1, k)

run_bytes : (rs : List Range) (s : Bytes) → Meets (byte_ranges rs) → sequences rs s ≡ true → Meets (all is_byte s)
run_bytes [] [] h e = refl
run_bytes [] (b ∷ s) h e =
    let f = first_byte b s (following b table) refl (sym (begin b s) ∙ e) in
    (f.0, run_bytes f.1 s f.2 f.3)
run_bytes (r ∷ rs) [] h e = refl
run_bytes (r ∷ rs) (b ∷ s) h e =
    (in_byte r b h.0 (and_left (in_range r b) (sequences rs s) e), run_bytes rs s h.1 (and_right (in_range r b) (sequences rs s) e))

pub utf8_bytes : (b : Bytes) → is_utf8 b ≡ true → Meets (all is_byte b)
utf8_bytes b h = run_bytes [] b refl h

pub text_bytes : (t : Option Bytes) → Meets (text_rule t) → Meets (bytes_rule t)
text_bytes None h = h
text_bytes (Some b) h = utf8_bytes b h

-- ── one text after another

run_append : (rs : List Range) (a b : Bytes) → sequences rs a ≡ true → is_utf8 b ≡ true → sequences rs (a ++ b) ≡ true
run_append [] [] b h k = k
run_append [] (x ∷ a) b h k = begin x (a ++ b) ∙ pick (following x table) (sym (begin x a) ∙ h) (λ rs. run_append rs a b)
  where
    pick : (o : Option (List Range)) → go_on o a ≡ true → ((rs : List Range) → sequences rs a ≡ true → is_utf8 b ≡ true → sequences rs (a ++ b) ≡ true) → go_on o (a ++ b) ≡ true
    pick None e next = e
    pick (Some rs) e next = next rs e k
run_append (r ∷ rs) [] b h k = never h
run_append (r ∷ rs) (x ∷ a) b h k =
    rw (and_left (in_range r x) (sequences rs a) h, run_append rs a b (and_right (in_range r x) (sequences rs a) h) k)

pub utf8_append : (a b : Bytes) → is_utf8 a ≡ true → is_utf8 b ≡ true → is_utf8 (a ++ b) ≡ true
utf8_append a b h k = run_append [] a b h k

-- ── ASCII

abbrev pub is_ascii : ℕ → Bool
is_ascii b = leb b 127

pub ascii_utf8 : (b : Bytes) → Meets (all is_ascii b) → is_utf8 b ≡ true
ascii_utf8 [] h = refl
ascii_utf8 (x ∷ b) h = begin x b ∙ first h.0 ∙ ascii_utf8 b h.1
  where
    first : leb x 127 ≡ true → go_on (following x table) b ≡ sequences [] b
    first k = rw (le-leb 0 x (omega arith), k, following)

-- ── classes and states

-- what a state waits for: the ranges of the bytes to come, or nothing that can come
abbrev pub awaited : ℕ → Option (List Range)
awaited q =
    cond (eqb q 0) (Some [])
    (cond (eqb q 2) (Some (0x80 to 0xbf ∷ []))
    (cond (eqb q 3) (Some (0x80 to 0xbf ∷ 0x80 to 0xbf ∷ []))
    (cond (eqb q 4) (Some (0xa0 to 0xbf ∷ 0x80 to 0xbf ∷ []))
    (cond (eqb q 5) (Some (0x80 to 0x9f ∷ 0x80 to 0xbf ∷ []))
    (cond (eqb q 6) (Some (0x90 to 0xbf ∷ 0x80 to 0xbf ∷ 0x80 to 0xbf ∷ []))
    (cond (eqb q 7) (Some (0x80 to 0xbf ∷ 0x80 to 0xbf ∷ 0x80 to 0xbf ∷ []))
    (cond (eqb q 8) (Some (0x80 to 0x8f ∷ 0x80 to 0xbf ∷ 0x80 to 0xbf ∷ [])) None)))))))

-- what is still to come after one byte more
abbrev advance : Option (List Range) → ℕ → Option (List Range)
advance None b = None
advance (Some []) b = following b table
advance (Some (r ∷ rs)) b = cond (in_range r b) (Some rs) None

-- the bytes from a state on
abbrev pub from_state : ℕ → Bytes → Bool
from_state q s = go_on (awaited q) s

advanced : (o : Option (List Range)) (b : ℕ) (s : Bytes) → go_on o (b ∷ s) ≡ go_on (advance o b) s
advanced None b s = refl
advanced (Some []) b s = begin b s
advanced (Some (r ∷ rs)) b s = pick (in_range r b)
  where
    pick : (t : Bool) → (t && sequences rs s) ≡ go_on (cond t (Some rs) None) s
    pick true = refl
    pick false = refl

abbrev same_ranges : List Range → List Range → Bool
same_ranges [] [] = true
same_ranges [] (y ∷ ys) = false
same_ranges (x ∷ xs) [] = false
same_ranges (x ∷ xs) (y ∷ ys) = eqb x.first y.first && (eqb x.last y.last && same_ranges xs ys)

ranges_eq : (xs ys : List Range) → same_ranges xs ys ≡ true → xs ≡ ys
ranges_eq [] [] h = refl
ranges_eq [] (y ∷ ys) h = cc
ranges_eq (x ∷ xs) [] h = cc
ranges_eq (x ∷ xs) (y ∷ ys) h =
    let k : (eqb x.last y.last && same_ranges xs ys) ≡ true = and_right (eqb x.first y.first) (eqb x.last y.last && same_ranges xs ys) h in
    let a : x.first ≡ y.first = eqb-true x.first y.first (and_left (eqb x.first y.first) (eqb x.last y.last && same_ranges xs ys) h) in
    let b : x.last ≡ y.last = eqb-true x.last y.last (and_left (eqb x.last y.last) (same_ranges xs ys) k) in
    let l : xs ≡ ys = ranges_eq xs ys (and_right (eqb x.last y.last) (same_ranges xs ys) k) in
    λ i. record { first = a i; last = b i } ∷ l i

abbrev same_awaited : Option (List Range) → Option (List Range) → Bool
same_awaited None None = true
same_awaited None (Some y) = false
same_awaited (Some x) None = false
same_awaited (Some x) (Some y) = same_ranges x y

awaited_eq : (x y : Option (List Range)) → same_awaited x y ≡ true → x ≡ y
awaited_eq None None h = refl
awaited_eq None (Some y) h = cc
awaited_eq (Some x) None h = cc
awaited_eq (Some x) (Some y) h = ap Some (ranges_eq x y h)

-- one test at every state and every byte: the class leads where the table does, and to a state again
abbrev leads : Option (List Range) → ℕ → Bool
leads o n = same_awaited o (awaited n) && ltb n 9

abbrev moves : ℕ → ℕ → ℕ → Bool
unfolding next_of
moves b k q = leads (advance (awaited q) b) (next_of q k)

moves_all : (b : ℕ) → b < 256 → passes (every 9 (moves b (class_of b))) ≡ true
unfolding class_of next_of
moves_all = at_each 256 (λ b. passes (every 9 (moves b (class_of b)))) (meets (every 256 (λ b. passes (every 9 (moves b (class_of b))))) refl)

moves_at : (q b : ℕ) → q < 9 → b < 256 → (same_awaited (advance (awaited q) b) (awaited (next_of q (class_of b))) && ltb (next_of q (class_of b)) 9) ≡ true
unfolding next_of
moves_at q b h k = at_each 9 (moves b (class_of b)) (meets (every 9 (moves b (class_of b))) (moves_all b k)) q h

-- one byte more: what is left to decide, in the state that its class leads to
pub move : (q b : ℕ) → q < 9 → b < 256 → (s : Bytes) → from_state q (b ∷ s) ≡ from_state (next_of q (class_of b)) s
move q b h k s =
    advanced (awaited q) b s
    ∙ ap (λ o. go_on o s)
    (awaited_eq (advance (awaited q) b) (awaited (next_of q (class_of b)))
    (and_left (same_awaited (advance (awaited q) b) (awaited (next_of q (class_of b)))) (ltb (next_of q (class_of b)) 9) (moves_at q b h k)))

pub next_state : (q b : ℕ) → q < 9 → b < 256 → next_of q (class_of b) < 9
next_state q b h k =
    ltb-true (next_of q (class_of b)) 9
    (and_right (same_awaited (advance (awaited q) b) (awaited (next_of q (class_of b)))) (ltb (next_of q (class_of b)) 9) (moves_at q b h k))

-- at the end only the state between sequences is right
pub finish : (q : ℕ) → q < 9 → from_state q [] ≡ eqb q 0
finish q h = beq (from_state q []) (eqb q 0) (at_each 9 (λ p. Bool.beq (from_state p []) (eqb p 0)) (meets (every 9 (λ p. Bool.beq (from_state p []) (eqb p 0))) refl) q h)
  where
    beq : (a b : Bool) → Bool.beq a b ≡ true → a ≡ b
    beq true true e = refl
    beq true false e = sym e
    beq false true e = e
    beq false false e = refl

state_decides : (q : ℕ) → q < 9 → (b : Bytes) → Meets (all is_byte b) → from_state q b ≡ eqb (state_after q b) 0
state_decides q h [] k = finish q h
state_decides q h (x ∷ b) k =
    let l : x < 256 = ltb-true x 256 k.0 in
    move q x h l b ∙ state_decides (next_of q (class_of x)) (next_state q x h l) b k.1

-- bytes are UTF-8 exactly if their classes lead back to the state between sequences
pub utf8_by_classes : (b : Bytes) → Meets (all is_byte b) → is_utf8 b ≡ eqb (state_after 0 b) 0
utf8_by_classes b h = state_decides 0 (omega arith) b h

-- ── sequences of the table, one after the other

or_left : (a b : Bool) → a ≡ true → (a || b) ≡ true
or_left true b h = refl
or_left false b h = cc

or_right : (a b : Bool) → b ≡ true → (a || b) ≡ true
or_right true b h = refl
or_right false b h = h

-- a first byte and bytes in the ranges that follow it are a sequence
follow_fits : (rows : List (List Range)) (b : ℕ) (rs : List Range) (s : Bytes) → following b rows ≡ Some rs → fits rs s ≡ true → is_sequence rows (b ∷ s) ≡ true
follow_fits [] b rs s e h = not_some e
follow_fits ([] ∷ rows) b rs s e h = follow_fits rows b rs s e h
follow_fits ((r ∷ row) ∷ rows) b rs s e h = pick (in_range r b) refl e (λ k. follow_fits rows b rs s k h)
  where
    pick : (t : Bool) → in_range r b ≡ t → elim t as (λ z. Option (List Range)) [ true ↦ Some row | false ↦ following b rows ] ≡ Some rs → (following b rows ≡ Some rs → is_sequence rows (b ∷ s) ≡ true) → ((in_range r b && fits row s) || is_sequence rows (b ∷ s)) ≡ true
    pick true t g next =
        let same : row ≡ rs = cc in
        or_left (in_range r b && fits row s) (is_sequence rows (b ∷ s)) (rw (t, same, h))
    pick false t g next = or_right (in_range r b && fits row s) (is_sequence rows (b ∷ s)) (next g)

abbrev all_sequences : List Bytes → Rule
all_sequences ss = each (λ s. is (is_sequence table s)) ss

abbrev Parts : List Range → Bytes → Type 0
Parts rs b = (s : Bytes) × (ss : List Bytes) × (fits rs s ≡ true) × Meets (all_sequences ss) × (s ++ concat ss ≡ b)

-- a first byte before the parts of what follows it
begun : (x : ℕ) (b : Bytes) (o : Option (List Range)) → following x table ≡ o → go_on o b ≡ true → ((rs : List Range) → sequences rs b ≡ true → Parts rs b) → Parts [] (x ∷ b)
begun x b None e k next = never k
begun x b (Some rs) e k next =
    let p = next rs k in
    ([], (x ∷ p.0) ∷ p.1, refl, (follow_fits table x rs p.0 e p.2, p.3), ap (λ y. x ∷ y) p.4)

-- one byte more
longer : (r : Range) (rs : List Range) (x : ℕ) (b : Bytes) → in_range r x ≡ true → Parts rs b → Parts (r ∷ rs) (x ∷ b)
longer r rs x b t p = (x ∷ p.0, p.1, rw (t, p.2), p.3, ap (λ y. x ∷ y) p.4)

parts : (b : Bytes) (rs : List Range) → sequences rs b ≡ true → Parts rs b
parts [] [] h = ([], [], refl, refl, refl)
parts (x ∷ b) [] h = begun x b (following x table) refl (sym (begin x b) ∙ h) (λ rs. parts b rs)
parts [] (r ∷ rs) h = never h
parts (x ∷ b) (r ∷ rs) h =
    longer r rs x b (and_left (in_range r x) (sequences rs b) h) (parts b rs (and_right (in_range r x) (sequences rs b) h))

-- each row begins above n
abbrev above : ℕ → List (List Range) → Rule
above n [] = is true
above n ([] ∷ rows) = above n rows
above n ((r ∷ row) ∷ rows) = is (ltb n r.first) and above n rows

-- the rows' first bytes ascend, so no byte begins two rows
abbrev ascending : List (List Range) → Rule
ascending [] = is true
ascending ([] ∷ rows) = ascending rows
ascending ((r ∷ row) ∷ rows) = above r.last rows and ascending rows

not_later : (rows : List (List Range)) (n x : ℕ) (s : Bytes) → Meets (above n rows) → x ≤ n → is_sequence rows (x ∷ s) ≡ false
not_later [] n x s h l = refl
not_later ([] ∷ rows) n x s h l = not_later rows n x s h l
not_later ((r ∷ row) ∷ rows) n x s h l =
    rw (lt-leb r.first x (omega (arith, ltb-true n r.first h.0))) (not_later rows n x s h.1 l)

abbrev Follows : List (List Range) → ℕ → Bytes → Type 0
Follows rows x s = (rs : List Range) × (following x rows ≡ Some rs) × (fits rs s ≡ true)

-- what follows a sequence's first byte fits the row that the byte begins
sequence_follows : (rows : List (List Range)) → Meets (ascending rows) → (x : ℕ) (s : Bytes) → is_sequence rows (x ∷ s) ≡ true → Follows rows x s
sequence_follows [] a x s h = never h
sequence_follows ([] ∷ rows) a x s h = sequence_follows rows a x s h
sequence_follows ((r ∷ row) ∷ rows) a x s h = pick (in_range r x) (fits row s) refl refl h (sequence_follows rows a.1 x s)
  where
    pick : (t f : Bool) → in_range r x ≡ t → fits row s ≡ f → ((t && f) || is_sequence rows (x ∷ s)) ≡ true → (is_sequence rows (x ∷ s) ≡ true → Follows rows x s) → Follows ((r ∷ row) ∷ rows) x s
    pick true true t f k next = (row, rw (t, following), f)
    pick true false t f k next =
        let below : x ≤ r.last = leb-true x r.last (and_right (leb r.first x) (leb x r.last) t) in
        let z : true ≡ false = sym k ∙ not_later rows r.last x s a.0 below in
        never (sym z)
    pick false f t e k next = let p = next k in (p.0, rw (t, following) p.1, p.2)

fits_then : (rs : List Range) (s k : Bytes) → fits rs s ≡ true → is_utf8 k ≡ true → sequences rs (s ++ k) ≡ true
fits_then [] [] k h u = u
fits_then [] (b ∷ s) k h u = never h
fits_then (r ∷ rs) [] k h u = never h
fits_then (r ∷ rs) (b ∷ s) k h u = rw (and_left (in_range r b) (fits rs s) h, fits_then rs s k (and_right (in_range r b) (fits rs s) h) u)

joined : (ss : List Bytes) → Meets (all_sequences ss) → is_utf8 (concat ss) ≡ true
joined [] h = refl
joined ([] ∷ ss) h = never h.0
joined ((x ∷ s) ∷ ss) h =
    let p = sequence_follows table (meets (ascending table) refl) x s h.0 in
    begin x (s ++ concat ss) ∙ ap (λ o. go_on o (s ++ concat ss)) p.1 ∙ fits_then p.0 s (concat ss) p.2 (joined ss h.1)

-- the test decides the standard's definition
pub utf8_well_formed : (b : Bytes) → (is_utf8 b ≡ true) ↔ WellFormed b
utf8_well_formed b = (there, back)
  where
    none_first : (s c : Bytes) → fits [] s ≡ true → s ++ c ≡ b → c ≡ b
    none_first [] c h e = e
    none_first (x ∷ s) c h e = never h

    there : is_utf8 b ≡ true → WellFormed b
    there h = let p = parts b [] h in (p.1, p.3, none_first p.0 (concat p.1) p.2 p.4)

    back : WellFormed b → is_utf8 b ≡ true
    back w = subst (λ c. is_utf8 c ≡ true) w.2 (joined w.0 w.1)
