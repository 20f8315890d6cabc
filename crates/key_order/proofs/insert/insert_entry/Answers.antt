-- `insert_entry` meets its contract. The invariant: the list with p put in is its first `j` entries, and then the others with p put in.
-- Assumes nothing.
use mathlib.Core.List.{◌++◌}
use mathlib.Core.Path.{sym, ap, ◌∙◌}
use borrow.Author.Rules.{rules}
use lib.ListN.{get_or, take}
use Rattle.key_order.specs.Entry.{rest_at}
use Rattle.key_order.proofs.InsertLaws.{place_start, place_here, place_there, place_later, place_last}
use Rattle.byte_order.proofs.CompareLaws.{is_less, is_equal, is_greater}
use Rattle.key_order.proofs.insert.insert_entry.Goals as goal

pub loop-j-init : goal.loop-j-init
loop-j-init c = place_start (rest_at c.args.text.now c.args.shared) c.args.p c.args.out.now c.args.n

pub returns-in-Less : goal.returns-in-Less
returns-in-Less c =
    let key = rest_at c.args.text.now c.args.shared in
    let m = c.loop-j.out in
    let j = c.loop-j.j in
    let n = c.args.n in
    let p = c.args.p in
    let compared = c.compare_keys in
    let found = is_less (key p) (key (get_or m j 0)) compared.result compared.ensures c.in-Less.is in
    let put = c.open_at.ensures in
    (search rules, put.1 ∙ ap (λ s. take j m ++ s) (sym (place_here key p m n (search rules) j (search rules) found)) ∙ sym c.loop-j.invariant)

pub returns-in-Equal : goal.returns-in-Equal
returns-in-Equal c =
    let key = rest_at c.args.text.now c.args.shared in
    let m = c.loop-j.out in
    let j = c.loop-j.j in
    let n = c.args.n in
    let p = c.args.p in
    let compared = c.compare_keys in
    let found = is_equal (key p) (key (get_or m j 0)) compared.result compared.ensures c.in-Equal.is in
    (search rules, sym (c.loop-j.invariant ∙ place_there key p m n (search rules) j (search rules) found))

pub loop-j-preserved : goal.loop-j-preserved
loop-j-preserved c =
    let key = rest_at c.args.text.now c.args.shared in
    let m = c.loop-j.out in
    let j = c.loop-j.j in
    let n = c.args.n in
    let p = c.args.p in
    let compared = c.compare_keys in
    let found = is_greater (key p) (key (get_or m j 0)) compared.result compared.ensures c.in-Greater.is in
    c.loop-j.invariant ∙ place_later key p m n (search rules) j (search rules) found

pub returns : goal.returns
returns c =
    let put = c.open_at-2.ensures in
    (search rules, put.1 ∙ sym (c.loop-j.invariant ∙ place_last (rest_at c.args.text.now c.args.shared) c.args.p c.loop-j.out c.args.n (search rules) c.loop-j.j (search rules) (search rules)))
