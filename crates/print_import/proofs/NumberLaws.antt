-- What is known of a number or a text that was printed goes over to an equal one. Assumes nothing.
use mathlib.Core.Path.{subst, ◌≡◌, ◌∙◌}
use Prim.Native.Nat.{ℕ}
use Rattle.std.specs.Prelude.{Result, Ok, Err, IfOk, OnOk, Option, List}
use Rattle.std.specs.Io.KnownBytes.{Appends}
use Rattle.sheets.specs.Bytes.{Bytes}

pub number_known : {E : Type 0} (r : Result ℕ E) (a b : ℕ) → a ≡ b → IfOk r (λ n. n ≡ a) → IfOk r (λ n. n ≡ b)
number_known (Ok n) a b e p = p ∙ e
number_known (Err x) a b e p = p

pub text_known : {T E : Type 0} (r : Result T E) (x y : Option (List ℕ)) (a b : Bytes) → a ≡ b → OnOk r (Appends x y a) → OnOk r (Appends x y b)
text_known r x y a b e p = subst (λ (l : Bytes). OnOk r (Appends x y l)) e p
