-- The names that a format is compared with: in an arm of a `match` the definition computes at the arm's digits; a first byte that is in no arm has no name of that
-- length, by one test computed over the 256 bytes; and the theorem of document 02, #103, on what the code answers. Assumes nothing.
use mathlib.Core.Path.{◌≡◌, refl, sym, ap, subst, ◌∙◌}
use mathlib.Core.Logic.{◌≢◌, inl, inr}
use mathlib.Core.Bool.{Bool, true, false, ◌&&◌, ◌||◌, cond}
use mathlib.Core.List.{List, [], ◌∷◌}
use Rattle.std.specs.Prelude.{None, Some}
use Prim.Native.Nat.{ℕ, ◌/◌, ◌≤◌, ◌<◌}
use native.Mathlib.Omega.{arith}
use lib.Dec.{eqb}
use lib.ListN.{length, take, length-take}
use lib.Seq.{take_all}
use denote.Enum.Declared.{tag_of}
use types.Run.{OneOf}
use borrow.Author.Tests.{eqb-true, ne_eqb, ltb-true, not-true}
use Rattle.sheets.specs.Rule.{is, each, Meets}
use Rattle.sheets.specs.Bytes.{Bytes, all, is_byte, same}
use Rattle.sheets.specs.Text.{hex}
use Rattle.sheets.specs.Metadata.{little_value}
use Rattle.sheets.specs.Format.{FormatRow, row_named}
use Rattle.sheets.specs.FixedNames.{fixed_rows, is_nested, cell_of, chosen, compared_with, has_length, times, once_if_alike}
use Rattle.sheets.proofs.Tests.{never, meets, every, at_each}
use Rattle.sheets.proofs.BytesLaws.{same_refl}
use Rattle.sheets.proofs.FixedNameLaws.{found_compared, chosen_first, chosen_length, compared_once, compared_none}
use Rattle.hexadecimal.specs.Hex.{is_hex, bytes_of}
use Rattle.hexadecimal.proofs.HexLaws.{length_bytes, bytes_below}
use Rattle.hexadecimal.proofs.PartLaws.{hex_bytes, bytes_take}
use Rattle.words.specs.Words.{WordAt, low_bytes}
use Rattle.words.proofs.WordLaws.{low_word, length_low}
use Rattle.datatypes.proofs.AtLaws.{Rest, listed, not_listed}
use Rattle.format_names.specs.Candidates.{candidate_rows, AreCandidates}
use Rattle.format_names.specs.declared.candidates.Candidates.{Candidates}
use Rattle.format_names.specs.declared.candidates.Candidates.TheVariants as C
use Rattle.format_names.specs.Names.{rows_from, HasRows, leaf_of, leaf_named}
use Rattle.format_names.specs.ShortNames.{short_rows, kind_among}
use Rattle.format_names.specs.contracts.candidates.Candidates.{the_type}
use Rattle.format_names.proofs.NameLaws.{or_right}
use Rattle.format_names.proofs.ShortLaws.{no_bytes, first_kind, kind_first}

-- ── an arm

-- where the two digits are those of the arm
pub at_digits : {n : ℕ} {r : Candidates} {key w : ℕ} → w ≡ key → AreCandidates n (bytes_of (low_bytes 2 key)) r → AreCandidates n (bytes_of (low_bytes 2 w)) r
at_digits {n} {r} e h = subst (λ (x : ℕ). AreCandidates n (bytes_of (low_bytes 2 x)) r) (sym e) h

pub at_length : {n k : ℕ} {r : Candidates} (w : ℕ) → n ≡ k → AreCandidates k (bytes_of (low_bytes 2 w)) r → AreCandidates n (bytes_of (low_bytes 2 w)) r
at_length {n} {k} {r} w e h = subst (λ (m : ℕ). AreCandidates m (bytes_of (low_bytes 2 w)) r) (sym e) h

-- ── no arm

cell_none : (n : ℕ) (l : List FormatRow) → cell_of n [] l ≡ []
cell_none n [] = refl
cell_none n (r ∷ l) = pick (eqb (length r.name) n) (cell_none n l)
  where
    pick : (u : Bool) → cell_of n [] l ≡ [] → cond (u && false) (r ∷ cell_of n [] l) (cell_of n [] l) ≡ []
    pick true next = next
    pick false next = next

abbrev is_none : List FormatRow → Bool
is_none [] = true
is_none (r ∷ l) = false

none_is : (l : List FormatRow) → is_none l ≡ true → [] ≡ l
none_is [] h = refl
none_is (r ∷ l) h = never h

-- a byte is in an arm, by its digits, or no name of n bytes begins with it
abbrev pub armed : ℕ → List (List ℕ) → ℕ → Bool
armed n kss b = listed kss (little_value (hex (b ∷ []))) || is_none (chosen n (b ∷ []))

low_pair : (w : ℕ) → w < 65536 → little_value (low_bytes 2 w) ≡ w
unfolding low_bytes
low_pair w h = omega arith

pub no_candidates : (n : ℕ) (kss : List (List ℕ)) → Meets (every 256 (armed n kss)) → (w : ℕ) → w < 65536 → Rest kss w → AreCandidates n (bytes_of (low_bytes 2 w)) C.Nothing
no_candidates n kss test w h rest = record { chosen = pick (is_hex (low_bytes 2 w)) refl; placed = tt }
  where
    t : Bytes
    t = low_bytes 2 w

    one : (b : Bytes) → length b ≡ 1 → Meets (all is_byte b) → hex b ≡ t → [] ≡ chosen n b
    one [] m k e = absurd (omega arith)
    one (x ∷ []) m k e =
        let same : little_value (hex (x ∷ [])) ≡ w = ap little_value e ∙ low_pair w h in
        none_is (chosen n (x ∷ []))
        (or_right (listed kss w) (is_none (chosen n (x ∷ []))) (not-true (listed kss w) (not_listed w kss rest))
        (ap (λ (i : ℕ). listed kss i || is_none (chosen n (x ∷ []))) (sym same) ∙ at_each 256 (armed n kss) test x (ltb-true x 256 k.0)))
    one (x ∷ y ∷ b) m k e = absurd (omega arith)

    pick : (u : Bool) → is_hex t ≡ u → [] ≡ chosen n (bytes_of t)
    pick true e = one (bytes_of t) (length_bytes t e ∙ ap (λ (i : ℕ). i / 2) (length_low 2 w)) (bytes_below t) (hex_bytes t e)
    pick false e = sym (ap (chosen n) (no_bytes t e) ∙ cell_none n fixed_rows)

-- ── no name has another length

abbrev is_length : ℕ → Bool
is_length m = eqb m 1 || (eqb m 2 || (eqb m 3 || eqb m 7))

module _ (k : ℕ) (p : k ≢ 1) (q : k ≢ 2) (r : k ≢ 3) (s : k ≢ 7) where
  not_length : (m : ℕ) → is_length m ≡ true → eqb m k ≡ false
  not_length m h = ne_eqb m k (λ e. let z : is_length k ≡ false = rw (ne_eqb k 1 p, ne_eqb k 2 q, ne_eqb k 3 r, ne_eqb k 7 s) in never (sym z ∙ ap is_length (sym e) ∙ h))

  no_rows : (f : Bytes) (l : List FormatRow) → Meets (each (λ x. is (is_length (length x.name))) l) → [] ≡ cell_of k f l
  no_rows f [] m = refl
  no_rows f (x ∷ l) m = rw (not_length (length x.name) m.0) (no_rows f l m.1)

  pub other_length : (f : Bytes) → AreCandidates k f C.Nothing
  unfolding fixed_rows
  other_length f = record { chosen = no_rows f fixed_rows (meets (each (λ x. is (is_length (length x.name))) fixed_rows) refl); placed = tt }

-- ── a name of one byte

two_here : (w : ℕ) → length (low_bytes 2 w) / 2 ≡ 1
two_here w = ap (λ (n : ℕ). n / 2) (length_low 2 w)

-- the one name that the first byte is
pub one_kind : (w kind : ℕ) (r : Candidates) → AreCandidates 1 (bytes_of (low_bytes 2 w)) r → r ≡ C.One kind → Some kind ≡ kind_among (low_bytes 2 w) short_rows
one_kind w kind r c e =
    let c1 = subst (AreCandidates 1 (bytes_of (low_bytes 2 w))) e c in
    ap first_kind c1.chosen ∙ sym (kind_first (low_bytes 2 w) (two_here w))

pub no_kind : (w : ℕ) (r : Candidates) → AreCandidates 1 (bytes_of (low_bytes 2 w)) r → r ≡ C.Nothing → None ≡ kind_among (low_bytes 2 w) short_rows
no_kind w r c e =
    let c1 = subst (AreCandidates 1 (bytes_of (low_bytes 2 w))) e c in
    ap first_kind c1.chosen ∙ sym (kind_first (low_bytes 2 w) (two_here w))

-- rows are of longer names
pub no_rows_of_one : {A : Type 0} (f : Bytes) (r : Candidates) (row count : ℕ) → AreCandidates 1 f r → r ≡ C.Rows row count → A
no_rows_of_one f r row count c e = never (subst (AreCandidates 1 f) e c).placed.0

-- what is none of these is no name
pub not_one : (w : ℕ) (r : Candidates) → AreCandidates 1 (bytes_of (low_bytes 2 w)) r → OneOf (0 ∷ 2 ∷ []) (tag_of the_type r) → None ≡ kind_among (low_bytes 2 w) short_rows
not_one w C.Nothing c o = no_kind w C.Nothing c refl
not_one w (C.One kind) c (inl e) = absurd (omega (arith, e))
not_one w (C.One kind) c (inr e) = absurd (omega (arith, e))
not_one w (C.Rows row count) c o = no_rows_of_one (bytes_of (low_bytes 2 w)) (C.Rows row count) row count c refl

-- ── a format

-- the candidates of a format's length and first digits
pub record Chosen (f : Bytes) (r : Candidates) : Type 0 where
  pub is_text : is_hex f ≡ true
  pub some : 2 ≤ length f
  pub word : ℕ
  pub first : WordAt 2 f 0 word
  pub are : AreCandidates (length f / 2) (bytes_of (low_bytes 2 word)) r

module _ {f : Bytes} {r : Candidates} (k : Chosen f r) where
  first_is : bytes_of (low_bytes 2 k.word) ≡ take 1 (bytes_of f)
  first_is = ap bytes_of (low_word k.first k.some) ∙ bytes_take f k.is_text 1

  -- are the names that it is compared with
  pub candidates_are : candidate_rows (take 1 (bytes_of f)) r ≡ compared_with (bytes_of f)
  candidates_are =
      ap (λ (b : Bytes). candidate_rows b r) (sym first_is) ∙ k.are.chosen ∙ ap (chosen (length f / 2)) first_is ∙ chosen_first (length f / 2) (bytes_of f)
      ∙ ap (λ (n : ℕ). chosen n (bytes_of f)) (sym (length_bytes f k.is_text))

  -- it finds its row among them
  pub among_candidates : leaf_of (row_named (bytes_of f) (candidate_rows (take 1 (bytes_of f)) r)) ≡ leaf_named (bytes_of f)
  among_candidates = ap leaf_of (ap (row_named (bytes_of f)) candidates_are ∙ sym (found_compared (bytes_of f)))

  -- their names have its length
  pub candidates_length : Meets (each (has_length (length f / 2)) (candidate_rows (take 1 (bytes_of f)) r))
  candidates_length =
      subst (λ (l : List FormatRow). Meets (each (has_length (length f / 2)) l)) (sym candidates_are)
      (subst (λ (n : ℕ). Meets (each (has_length n) (compared_with (bytes_of f)))) (length_bytes f k.is_text) (chosen_length (length (bytes_of f)) (bytes_of f)))

-- a format that is empty finds none
pub none_empty : (b : Bytes) → length b ≡ 0 → None ≡ leaf_named b
none_empty [] e = sym (ap leaf_of (found_compared [] ∙ ap (row_named []) compared_none))
none_empty (x ∷ b) e = absurd (omega arith)

pub named_nothing : {f : Bytes} (r : Candidates) → Chosen f r → r ≡ C.Nothing → None ≡ leaf_named (bytes_of f)
named_nothing {f} r k e = among_candidates (subst (Chosen f) e k)

-- a name that is its first byte is the format
pub named_one : {f : Bytes} (r : Candidates) (kind : ℕ) → Chosen f r → r ≡ C.One kind → (Some (kind, 0) ≡ leaf_named (bytes_of f)) × (is_nested kind ≡ false)
named_one {f} r kind k e =
    let b = bytes_of f in
    let k1 = subst (Chosen f) e k in
    let size : length (take 1 b) ≡ length f / 2 = eqb-true (length (take 1 b)) (length f / 2) (candidates_length k1).0 in
    let whole : take 1 b ≡ b = take_all 1 b (omega (arith, length-take 1 b, length_bytes f k.is_text, k.some)) in
    let same_name : same b (take 1 b) ≡ true = ap (same b) whole ∙ same_refl b in
    (ap (λ (u : Bool). leaf_of (cond u (Some (record { name = take 1 b; kind = kind; unit = 0 })) None)) (sym same_name) ∙ among_candidates k1, k1.are.placed)

pub has_rows : {f : Bytes} (r : Candidates) (row count : ℕ) → Chosen f r → r ≡ C.Rows row count → HasRows f row count
has_rows {f} r row count k e =
    let k1 = subst (Chosen f) e k in
    record { digits = record { is_text = k.is_text; longer = k1.are.placed.0 }; fit = k1.are.placed.1; long = candidates_length k1 }

pub named_rows_lem : {f : Bytes} (r : Candidates) (row count : ℕ) → Chosen f r → r ≡ C.Rows row count → leaf_of (row_named (bytes_of f) (rows_from row count)) ≡ leaf_named (bytes_of f)
named_rows_lem {f} r row count k e = among_candidates (subst (Chosen f) e k)

-- ── document 02, #103

-- "The names so chosen are proved to be exactly the fixed ones of that length and first byte, each once": any bytes stand once among the names that the code compares
-- a format with if they are a fixed name of its length and first byte, and else not at all
pub candidates_once : {f : Bytes} {r : Candidates} → Chosen f r → (name : Bytes) → times name (candidate_rows (take 1 (bytes_of f)) r) ≡ once_if_alike (bytes_of f) name
candidates_once {f} k name = ap (times name) (candidates_are k) ∙ compared_once (bytes_of f) name
