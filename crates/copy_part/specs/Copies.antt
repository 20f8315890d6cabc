-- Copying bytes from place to place. Assumes nothing.
use Rattle.std.specs.Prelude.{ℕ, ◌+◌, ◌-◌, ◌≤◌, length}
use Rattle.sheets.specs.Bytes.{Bytes}

-- the bytes of s from `from` up to `end` are there, and out has room for them from `to` on
pub record CanCopy (out : Bytes) (to : ℕ) (s : Bytes) (from end : ℕ) : Type 0 where
  pub low : from ≤ end
  pub high : end ≤ length s
  pub room : to + (end - from) ≤ length out
