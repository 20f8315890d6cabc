-- `window::refill` meets its contract: behind what was moved to the front stands what was read (`behind`). Assumes nothing.
use Rattle.std.proofs.Common.{◌≡◌, ℕ, ◌+◌, ◌-◌, ◌≤◌, length, take, ◌++◌, ap, ◌∙◌, arith}
use borrow.Rule.Slice.PartMut.{put_mid}
use Rattle.streams.proofs.ReadingLaws.{behind}
use Rattle.sheets.specs.Bytes.{Bytes}
use Rattle.recorded_list.proofs.WindowLaws.{to_front}
use Rattle.recorded_list.proofs.window.refill.Goals as goal

pub returns-clause-read : goal.returns-clause-read
returns-clause-read g c =
    let n = c.args.w.end - c.args.w.at in
    let moved = c.copy_within.new.self in
    let front = to_front c.args.text.now moved c.args.w.at c.args.w.end c.copy_within.ensures.after c.requires.high in
    let got = c.in_ok-end.field-0 in
    let more = take got c.read_full.new.text in
    let from : n ≤ length moved = omega (arith, c.requires.low, c.requires.high, c.copy_within.ensures.len) in
    let after = put_mid n (length moved - n) moved c.read_full.new.text in
    let whole : n + got - 0 ≡ n + got = omega arith in
    record { more = more; behind = ap (λ (k : ℕ). take k after) whole ∙ behind n (length moved - n) got moved c.read_full.new.text from c.in_ok-end.ensures.bound.0 ∙ ap (λ (l : Bytes). l ++ more) front; taken = c.in_ok-end.ensures.bytes }
