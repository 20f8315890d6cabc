-- The window: what stands in it after bytes were moved to its front and more was read behind them. Assumes nothing.
use mathlib.Core.Path.{◌≡◌, refl, ap, ◌∙◌}
use mathlib.Core.Bool.{false}
use Prim.Native.Nat.{ℕ, ◌+◌, ◌-◌, ◌≤◌, min}
use native.Mathlib.Nat.{le_refl}
use native.Mathlib.Omega.{arith}
use lib.Dec.{ltb}
use lib.ListN.{length, take, drop, length-drop}
use lib.Seq.{length-take-le, take-paste}
use borrow.Author.Tests.{ltb-false}
use borrow.Rule.Slice.PartMut.{mid_of, put_mid, same_len_mid, take_put}
use Rattle.std.specs.List.{copy_within}
use Rattle.sheets.specs.Bytes.{Bytes}
use Rattle.recorded_list.specs.Moving.{longest_record, Within, Refilled}
use Rattle.recorded_list.specs.declared.window.Window.{Window}

-- what was to be read stands at the front
pub to_front : (text moved : Bytes) (at end : ℕ) → moved ≡ copy_within text at end 0 → end ≤ length text → take (end - at) moved ≡ take (end - at) (drop at text)
to_front text moved at end e h =
    let n = end - at in
    let whole : n ≡ 0 + n = omega arith in
    ap (take n) e ∙ ap (λ (k : ℕ). take k (copy_within text at end 0)) whole ∙ take-paste text 0 (drop at text) n (omega arith) (omega (arith, length-drop at text))

-- as it was
pub unmoved : (text : Bytes) (w : Window) → Within w (length text) → (w.ended ≡ false → min longest_record (length text) ≤ w.end - w.at) → Refilled text w text w
unmoved text w h e = record { within = h; most = le_refl _; kept = refl; enough = e }

module _ (before moved read : Bytes) (w : Window) (h : Within w (length before)) (size : length moved ≡ length before) where
  -- what was to be read was moved to the front, and more was read behind it
  pub refilled : take (w.end - w.at) moved ≡ take (w.end - w.at) (drop w.at before) → length read ≡ length (mid_of (w.end - w.at) (length moved - (w.end - w.at)) moved) → (got : ℕ) → got ≤ length read
      → Refilled before w (put_mid (w.end - w.at) (length moved - (w.end - w.at)) moved read) (record { at = 0; end = w.end - w.at + got; ended = ltb (w.end - w.at + got) (length (put_mid (w.end - w.at) (length moved - (w.end - w.at)) moved read)) })
  refilled front kept got some =
      let n = w.end - w.at in
      let k = length moved - n in
      let low = h.low in
      let high = h.high in
      let whole : length (put_mid n k moved read) ≡ length moved = same_len_mid n k moved read kept in
      let rest : length (mid_of n k moved) ≡ k = length-take-le k (drop n moved) (omega (arith, length-drop n moved)) in
      record {
        within = record { low = omega arith; high = omega arith };
        most = omega arith;
        kept = take_put n k moved read (omega arith) ∙ front;
        enough = λ f. omega (arith, ltb-false (n + got) (length (put_mid n k moved read)) f);
      }
