-- Digits, at least one, are what `digits_below` says, and what they give is within the limit. Assumes nothing.
use mathlib.Core.Path.{◌≡◌, refl}
use mathlib.Core.Bool.{Bool, true, false, ◌&&◌}
use mathlib.Core.List.{◌∷◌}
use Prim.Native.Nat.{ℕ, suc, ◌≤◌, ◌<◌}
use native.Mathlib.Omega.{arith}
use lib.Dec.{ltb}
use lib.ListN.{length, get_or, drop, drop_of_length-le}
use lib.Seq.{drop-cons}
use borrow.Author.Tests.{ltb-true}
use Rattle.sheets.specs.Refusal.{bad_number}
use Rattle.sheets.specs.Rule.{is, passes}
use Rattle.sheets.specs.Answer.{refused, given, ◌>>=◌, when, decide}
use Rattle.sheets.specs.Bytes.{Bytes, all}
use Rattle.sheets.specs.Number.{is_digit, value_from}
use Rattle.sheets.specs.Format.{unsigned}
use Rattle.sheets.proofs.Tests.{first_gave, met_when}
use Rattle.decimal.specs.Digits.{digits_below}
use Rattle.parse.specs.Parse.{number_below}

-- no byte at all, and one or more
pub no_digits : (limit : ℕ) (s : Bytes) (i : ℕ) → length s ≤ i → number_below limit (drop i s) ≡ refused bad_number
unfolding number_below
no_digits limit s i e = rw (drop_of_length-le s e)

both : (n limit : ℕ) (t : Bool) → (decide bad_number t n >>= λ m. decide bad_number (ltb m limit) m) ≡ decide bad_number (t && ltb n limit) n
both n limit true = refl
both n limit false = refl

pub some_digits : (limit : ℕ) (s : Bytes) (i : ℕ) → i < length s → number_below limit (drop i s) ≡ digits_below bad_number limit 0 (drop i s)
unfolding number_below digits_below
some_digits limit s i h =
    rw (drop-cons s i 0) (both (value_from 0 (get_or s i 0 ∷ drop (suc i) s)) limit (passes (all is_digit (get_or s i 0 ∷ drop (suc i) s))))

-- what is read is within the limit
pub within_limit : (limit : ℕ) (bs : Bytes) (n : ℕ) → number_below limit bs ≡ given n → n < limit
unfolding number_below
within_limit limit bs n e =
    let q = first_gave (unsigned bs) (λ m. when bad_number (is (ltb m limit)) m) n e in
    let m = met_when bad_number (is (ltb q.0 limit)) q.0 n q.2 in
    omega (arith, ltb-true q.0 limit m.0, m.1)
