-- What `?` passes on: the error that it met, since an error is converted into its own type unchanged. Assumes nothing.
use mathlib.Core.Path.{◌≡◌, ap}
use Rattle.std.specs.Prelude.{Result, Ok, Err, IsErrAnd}

pub passed : {A E : Type 0} (r : Result A E) (q : E) → IsErrAnd r (λ e. e ≡ q) → r ≡ Err q
passed (Err e) q h = ap (λ x. Err x) h
passed (Ok a) q h = absurd h
