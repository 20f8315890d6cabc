-- The comparison of two byte strings, and the numbers by which it takes four bytes at a time. Assumes nothing.
use Rattle.std.specs.Prelude.{◌≡◌, Bool, true, false, ℕ, ◌+◌, ◌*◌, ◌<◌, get_or}
use Rattle.sheets.specs.Bytes.{Bytes, same}
use Rattle.sheets.specs.Field.{before}
use Rattle.std.specs.declared.cmp.Ordering.{Ordering}
use Rattle.std.specs.declared.cmp.Ordering.TheVariants.{Less, Equal, Greater}

-- how two byte strings stand: whether the first comes before the second, and whether they are the same
unfoldable pub ordering : Bytes → Bytes → Bool × Bool
ordering a b = (before a b, same a b)

-- the same for each case of `Ord::cmp`
abbrev pub ordering_answer : Ordering → Bool × Bool
ordering_answer Less = (true, false)
ordering_answer Equal = (false, true)
ordering_answer Greater = (false, false)

-- the number that the four bytes from i on are in big-endian order
pub record Word (s : Bytes) (i w : ℕ) : Type 0 where
  pub second : get_or s (i + 1) 0 < 256
  pub third : get_or s (i + 2) 0 < 256
  pub fourth : get_or s (i + 3) 0 < 256
  pub value : w ≡ get_or s i 0 * 16777216 + get_or s (i + 1) 0 * 65536 + get_or s (i + 2) 0 * 256 + get_or s (i + 3) 0
