-- What a buffer holds after bytes were written into it, as much of them as fits. Both are total, so that a writer can go on counting after its
-- buffer is full. Assumes nothing.
use Rattle.std.specs.Prelude.{◌≡◌, [], ◌∷◌, ℕ, zero, suc, ◌+◌, ◌^◌, ◌<◌, length}
use Rattle.sheets.specs.Bytes.{Bytes}

-- the bytes written, then what the buffer held
unfoldable pub over : Bytes → Bytes → Bytes
over [] out = out
over (b ∷ s) [] = []
over (b ∷ s) (o ∷ out) = b ∷ over s out

-- the same from a place on; past the end nothing is written
unfoldable pub over_at : ℕ → Bytes → Bytes → Bytes
unfolding over
over_at zero s out = over s out
over_at (suc at) s [] = []
over_at (suc at) s (o ∷ out) = o ∷ over_at at s out

-- what every writer tells: the text t stands over the buffer from place `at` on, as much of it as fits, and r is the place after it
abbrev pub PutAt : ℕ → Bytes → ℕ → Bytes → Bytes → Type 0
PutAt at t r out out' = (r ≡ at + length t) × (out' ≡ over_at at t out)

-- the same over the buffer's first bytes: `PutAt` at place 0 (`put_first`), so that r is the text's length
abbrev pub PutFirst : Bytes → ℕ → Bytes → Bytes → Type 0
PutFirst t r out out' = (r ≡ length t) × (out' ≡ over t out)

-- a number that `usize` holds
abbrev pub IsUsize : ℕ → Type 0
IsUsize n = n < 2 ^ 64
