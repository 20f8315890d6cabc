-- The counts after a record, by what was told of it: a law for each way out of `count` and `tally`. Assumes nothing.
use Rattle.std.specs.Prelude.{Option, Some, None}
use Rattle.std.proofs.Common.{◌≡◌, ℕ, ◌+◌, ◌%◌, ◌^◌, ◌<◌, ◌≤◌, true, false, List, get_or, set, sym, refl, ap, ◌∙◌, subst, le-ltb, lt-ltb}
use Rattle.recorded_list.specs.Codes.{calls}
use Rattle.judge.specs.declared.Numbers.{Numbers}
use Rattle.judge.specs.Tally.{counted, tallied, differs}

module _ (from call : ℕ) (kept : List ℕ) where
  pub counted_call : (v : ℕ) → call < calls → v ≡ (get_or kept (from + call) 0 + 1) % 2 ^ 64 → set kept (from + call) v ≡ counted from call kept
  counted_call v l e = rw (lt-ltb call calls l) (ap (set kept (from + call)) e)

  pub counted_none : calls ≤ call → kept ≡ counted from call kept
  counted_none l = rw (le-ltb call calls l)

module _ (r : Option Numbers) (call : ℕ) (kept end : List ℕ) where
  pub tally_agrees : r ≡ None → end ≡ counted 0 call kept → (false ≡ differs r) × (end ≡ tallied r call kept)
  tally_agrees e h = subst (λ (x : Option Numbers). (false ≡ differs x) × (end ≡ tallied x call kept)) (sym e) (refl, h)

  pub tally_differs : (came : Numbers) (mid : List ℕ) → r ≡ Some came → mid ≡ counted 0 call kept → end ≡ counted calls call mid
      → (true ≡ differs r) × (end ≡ tallied r call kept)
  tally_differs came mid e g h = subst (λ (x : Option Numbers). (true ≡ differs x) × (end ≡ tallied x call kept)) (sym e) (refl, h ∙ ap (counted calls call) g)
