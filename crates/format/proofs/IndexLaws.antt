-- A dictionary's index type by the row of its name: one test computed over the table. Assumes nothing.
use mathlib.Core.Path.{◌≡◌, refl, sym, ◌∙◌, ap}
use mathlib.Core.Logic.{◌≢◌}
use mathlib.Core.Bool.{Bool, true, false, ◌&&◌, ◌||◌, cond}
use mathlib.Core.List.{List, [], ◌∷◌}
use Rattle.std.specs.Prelude.{Option, None, Some}
use Prim.Native.Nat.{ℕ, ◌≤◌}
use native.Mathlib.Omega.{arith}
use lib.Dec.{leb}
use borrow.Author.Tests.{leb-true}
use Rattle.sheets.specs.Refusal.{bad_index}
use Rattle.sheets.specs.Bytes.{Bytes, same}
use Rattle.sheets.specs.Answer.{refused}
use Rattle.sheets.specs.Format.{FormatRow, row_named, to_integer_type}
use Rattle.sheets.specs.FixedNames.{fixed_rows}
use Rattle.sheets.proofs.Tests.{not_some, and_left, and_right}
use Rattle.sheets.proofs.BytesLaws.{same_eq}
use Rattle.format_names.specs.Names.{leaf_of}
use Rattle.format.specs.Dictionary.{is_index_kind, index_of}

-- ── other kinds

or_cases : (s t : Bool) → (s || t) ≡ true → (s ≡ true → ⊥) → (t ≡ true → ⊥) → ⊥
or_cases true t h p q = p refl
or_cases false t h p q = q h

between : (a b k : ℕ) → (leb a k && leb k b) ≡ true → (a ≤ k) × (k ≤ b)
between a b k h = (leb-true a k (and_left (leb a k) (leb k b) h), leb-true k b (and_right (leb a k) (leb k b) h))

low_kind : (k : ℕ) → k ≢ 2 → k ≢ 3 → k ≢ 4 → k ≢ 5 → (leb 2 k && leb k 5) ≡ true → ⊥
low_kind k a b c d h = let z = between 2 5 k h in omega arith

high_kind : (k : ℕ) → k ≢ 7 → k ≢ 8 → k ≢ 9 → k ≢ 10 → (leb 7 k && leb k 10) ≡ true → ⊥
high_kind k a b c d h = let z = between 7 10 k h in omega arith

pub other_kind : (k : ℕ) → k ≢ 2 → k ≢ 3 → k ≢ 4 → k ≢ 5 → k ≢ 7 → k ≢ 8 → k ≢ 9 → k ≢ 10 → refused bad_index ≡ index_of k
other_kind k a b c d e f g h = pick (is_index_kind k) refl
  where
    pick : (t : Bool) → is_index_kind k ≡ t → refused bad_index ≡ index_of k
    pick true x = absurd (or_cases (leb 2 k && leb k 5) (leb 7 k && leb k 10) x (low_kind k a b c d) (high_kind k e f g h))
    pick false x = rw x

-- ── the row of a name

-- of each row, its name says the index type that its kind says
abbrev Indexes : List FormatRow → Type 0
Indexes [] = Unit {0}
Indexes (r ∷ l) = (to_integer_type r.name ≡ index_of r.kind) × Indexes l

rows_index : Indexes fixed_rows
unfolding fixed_rows
rows_index = (refl, (refl, (refl, (refl, (refl, (refl, (refl, (refl, (refl, (refl, (refl, (refl, (refl, (refl, (refl, (refl, (refl, (refl, (refl, (refl, (refl, (refl, (refl, (refl, (refl, (refl, (refl, (refl, (refl, (refl, (refl, (refl, (refl, (refl, (refl, (refl, (refl, (refl, tt))))))))))))))))))))))))))))))))))))))

index_row : (b : Bytes) (l : List FormatRow) → Indexes l → (r : FormatRow) → row_named b l ≡ Some r → to_integer_type b ≡ index_of r.kind
index_row b [] h r e = not_some e
index_row b (x ∷ l) h r e = pick (same b x.name) refl e (index_row b l h.1 r)
  where
    pick : (t : Bool) → same b x.name ≡ t → cond t (Some x) (row_named b l) ≡ Some r → (row_named b l ≡ Some r → to_integer_type b ≡ index_of r.kind) → to_integer_type b ≡ index_of r.kind
    pick true s g next =
        let q : x ≡ r = cc in
        ap to_integer_type (same_eq b x.name s) ∙ h.0 ∙ ap (λ (y : FormatRow). index_of y.kind) q
    pick false s g next = next g

-- what a name's kind says
pub index_named : (b : Bytes) (k u : ℕ) → Some (k, u) ≡ leaf_of (row_named b fixed_rows) → to_integer_type b ≡ index_of k
index_named b k u e = pick (row_named b fixed_rows) refl e
  where
    pick : (o : Option FormatRow) → row_named b fixed_rows ≡ o → Some (k, u) ≡ leaf_of o → to_integer_type b ≡ index_of k
    pick None n e = not_some (sym e)
    pick (Some r) n e =
        let q : ◌≡◌ {A = ℕ × ℕ} (k, u) (r.kind, r.unit) = cc in
        index_row b fixed_rows rows_index r n ∙ ap (λ (x : ℕ × ℕ). index_of x.0) (sym q)

-- ── no row

abbrev NoneNamed : Bytes → List FormatRow → Type 0
NoneNamed b [] = Unit {0}
NoneNamed b (r ∷ l) = (same b r.name ≡ false) × NoneNamed b l

none_named : (b : Bytes) (l : List FormatRow) → None ≡ leaf_of (row_named b l) → NoneNamed b l
none_named b [] e = tt
none_named b (x ∷ l) e = pick (same b x.name) refl e (none_named b l)
  where
    pick : (t : Bool) → same b x.name ≡ t → None ≡ leaf_of (cond t (Some x) (row_named b l)) → (None ≡ leaf_of (row_named b l) → NoneNamed b l) → NoneNamed b (x ∷ l)
    pick true s g next = not_some g
    pick false s g next = (s, next g)

pub no_index : (b : Bytes) → None ≡ leaf_of (row_named b fixed_rows) → refused bad_index ≡ to_integer_type b
unfolding fixed_rows
no_index b e =
    let n = (none_named b fixed_rows e).1.1 in
    rw (n.0, n.1.0, n.1.1.0, n.1.1.1.0, n.1.1.1.1.0, n.1.1.1.1.1.0, n.1.1.1.1.1.1.0, n.1.1.1.1.1.1.1.0)
