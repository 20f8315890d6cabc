-- The walk over a column's pairs: steps one after the other, a pair, the pairs before a key. Assumes nothing.
use mathlib.Core.Path.{◌≡◌, refl, sym, ap, ap₂, ◌∙◌}
use mathlib.Core.Bool.{Bool, true, false, true≢false}
use mathlib.Core.List.{List, [], ◌∷◌, ◌++◌, append_assoc, append-nil}
use Prim.Native.Nat.{ℕ, ◌+◌, ◌-◌, ◌≤◌}
use native.Mathlib.Omega.{arith}
use lib.ListN.{length, get_or, drop, length-append, length-take, length-drop}
use borrow.Author.Tests.{ltb-true}
use Rattle.sheets.specs.Bytes.{Bytes, same}
use Rattle.sheets.specs.Text.{hex}
use Rattle.sheets.specs.Field.{Pair, before}
use Rattle.sheets.proofs.OrderLaws.{not_back, not_same, same_back}
use Rattle.buffer.specs.Over.{over_at}
use Rattle.buffer.proofs.OverLaws.{Written, and_then, over_at_nothing}
use Rattle.columns.specs.Columns.{part}
use Rattle.field_pairs.specs.Pairs.{Pairs, pairs_of, PairAt, later_text}
use Rattle.field_pairs.specs.declared.PairPlace.{PairPlace}
use Rattle.field_pairs.proofs.PairsLaws.{pairs_end, first_later}
use Rattle.put_metadata.specs.Block.{pair_pieces, block_text, before_text, from_text, after_text}
use Rattle.put_metadata.specs.Walks.{Moves, left_of, PutsFound, PutsUntil, IsAfter, CanWalk}
use Rattle.put_metadata.specs.declared.Walk.{Walk}
use Rattle.put_metadata.proofs.BlockLaws.{pieces_length, pair_block, block_append, block_none}

-- ── steps

pub no_move : (column : Bytes) (w : Walk) (old : Bytes) → Pairs column w.place → Moves column w w [] 0 0 (pairs_of (drop w.place column)) old old
no_move column w old h =
    record {
      stands = h;
      left = refl;
      counted = omega arith;
      place = omega arith;
      holds = sym (over_at_nothing w.end old);
      room = omega arith;
      few = omega arith;
    }

pub then_move : (column : Bytes) (w r s : Walk) (t u : Bytes) (m n x y : ℕ) (rest rest' : List Pair) (old mid out : Bytes)
    → Moves column w r t m x rest old mid → Moves column r s u n y rest' mid out → Moves column w s (t ++ u) (m + n) (x + y) rest' old out
then_move column w r s t u m n x y rest rest' old mid out a b =
    let all : Written w.end (t ++ u) old s.end out = and_then {at = w.end} {s = t} {out = old} {n = r.end} {l = mid} u {m = s.end} {k = out} (record { place = a.place; holds = a.holds }) (b.place, b.holds) in
    record {
      stands = b.stands;
      left = b.left;
      counted = omega (arith, a.counted, b.counted);
      place = all.place;
      holds = all.holds;
      room = omega (arith, a.room, b.room);
      few = omega (arith, a.few, b.few);
    }

-- the same step, said otherwise
pub as_move : (column : Bytes) (w r : Walk) (t u : Bytes) (m n x y : ℕ) (rest rest' : List Pair) (old out : Bytes)
    → t ≡ u → m ≡ n → x ≤ y → rest ≡ rest' → Moves column w r t m x rest old out → Moves column w r u n y rest' old out
as_move column w r t u m n x y rest rest' old out e f l g a =
    record {
      stands = a.stands;
      left = a.left ∙ g;
      counted = omega (arith, a.counted, f);
      place = a.place ∙ ap (λ (z : Bytes). w.end + length z) e;
      holds = a.holds ∙ ap (λ (z : Bytes). over_at w.end z old) e;
      room = omega (arith, a.room);
      few = omega (arith, a.few);
    }

-- a walk goes on where a step left it
pub walk_on : (column : Bytes) (w r : Walk) (t : Bytes) (n x y : ℕ) (rest : List Pair) (old out : Bytes)
    → Moves column w r t n x rest old out → CanWalk column w (x + y) → CanWalk column r y
walk_on column w r t n x y rest old out a h = record { stands = a.stands; room = omega (arith, a.room, h.room); few = omega (arith, a.few, h.few) }

-- ── a pair

module _ (big : Bool) where
  module _ (column : Bytes) (w : Walk) (p : PairPlace) (h : CanWalk column w 0) (k : PairAt column w.place p) where
    pub key_size : length (part column w.place p.equals) ≡ p.equals - w.place
    key_size = length-take (p.equals - w.place) (drop w.place column) ∙ omega (arith, length-drop w.place column, k.low, k.sign, k.grows, k.rest.within)

    pub value_size_lem : length (part column (p.equals + 1) p.end) ≡ p.end - (p.equals + 1)
    value_size_lem = length-take (p.end - (p.equals + 1)) (drop (p.equals + 1) column) ∙ omega (arith, length-drop (p.equals + 1) column, k.sign, k.grows, k.rest.within)

    pub found : (end : ℕ) (old out : Bytes)
        → (end ≡ w.end + length (pair_pieces big (part column w.place p.equals) (part column (p.equals + 1) p.end)))
        × (out ≡ over_at w.end (pair_pieces big (part column w.place p.equals) (part column (p.equals + 1) p.end)) old)
        → PutsFound big column w p (record { place = p.next; end = end; count = w.count + 1 }) old out
    found end old out a = (
      record {
        stands = k.rest;
        left = refl;
        counted = refl;
        place = a.0;
        holds = a.1;
        room =
            omega (
              arith,
              a.0,
              pieces_length big (part column w.place p.equals) (part column (p.equals + 1) p.end),
              key_size,
              value_size_lem,
              k.low,
              k.sign,
              k.grows,
              k.rest.within,
            );
        few = omega (arith, k.low, k.sign, k.grows, k.rest.within);
      },
      refl,
    )

-- ── the pairs before a key

module _ (key : Bytes) (p : Pair) (ps : List Pair) where
  before_more : before (hex p.0) key ≡ true → before_text key (p ∷ ps) ≡ p ∷ before_text key ps
  unfolding before_text
  before_more e = rw e

  before_stop : before (hex p.0) key ≡ false → before_text key (p ∷ ps) ≡ []
  unfolding before_text
  before_stop e = rw e

  from_more : before (hex p.0) key ≡ true → from_text key (p ∷ ps) ≡ from_text key ps
  unfolding from_text
  from_more e = rw e

  from_stop : before (hex p.0) key ≡ false → from_text key (p ∷ ps) ≡ p ∷ ps
  unfolding from_text
  from_stop e = rw e

  after_yes : same (hex p.0) key ≡ true → after_text key (p ∷ ps) ≡ ps
  unfolding after_text
  after_yes e = rw e

  after_no : same (hex p.0) key ≡ false → after_text key (p ∷ ps) ≡ p ∷ ps
  unfolding after_text
  after_no e = rw e

before_none : (key : Bytes) → before_text key [] ≡ []
unfolding before_text
before_none key = refl

from_none : (key : Bytes) → from_text key [] ≡ []
unfolding from_text
from_none key = refl

after_none : (key : Bytes) → after_text key [] ≡ []
unfolding after_text
after_none key = refl

-- a first pair that comes later is not before the key and does not have it
later_pairs : (key : Bytes) (ps : List Pair) → later_text key ps ≡ true → (before_text key ps ≡ []) × (from_text key ps ≡ ps) × (after_text key ps ≡ ps)
unfolding later_text
later_pairs key [] e = absurd (true≢false (sym e))
later_pairs key (p ∷ ps) e =
    let k = hex p.0 in
    let b : before key k ≡ true = first_later k key (ltb-true (get_or key 0 0) (get_or k 0 0) e) in
    (before_stop key p ps (not_back key k b), from_stop key p ps (not_back key k b), after_no key p ps (same_back key k (not_same key k b)))

module _ (big : Bool) where
  -- from walk w on, pairs before the key were written
  pub record Until (column key : Bytes) (w : Walk) (old out : Bytes) (r : Walk) : Type 0 where
    pub done : List Pair
    pub moves : Moves column w r (block_text big done) (length done) 0 (left_of column r) old out
    pub firsts : before_text key (left_of column w) ≡ done ++ before_text key (left_of column r)
    pub others : from_text key (left_of column w) ≡ from_text key (left_of column r)

  pub until_start : (column key : Bytes) (w : Walk) (old : Bytes) → Pairs column w.place → Until column key w old old w
  until_start column key w old h =
      record {
        done = [];
        moves = as_move column w w [] (block_text big []) 0 0 0 0 (left_of column w) (left_of column w) old old (sym (block_none big)) refl (omega arith) refl (no_move column w old h);
        firsts = refl;
        others = refl;
      }

  module _ (column key : Bytes) (w : Walk) (old out : Bytes) (r : Walk) (u : Until column key w old out r) where
    finished : before_text key (left_of column r) ≡ [] → from_text key (left_of column r) ≡ left_of column r → PutsUntil big column key w r old out
    finished e f =
        let d : u.done ≡ before_text key (left_of column w) = sym (u.firsts ∙ ap (λ (l : List Pair). u.done ++ l) e ∙ append-nil u.done) in
        as_move column w r (block_text big u.done) (block_text big (before_text key (left_of column w))) (length u.done) (length (before_text key (left_of column w))) 0 0 (left_of column r) (from_text key (left_of column w)) old out
        (ap (block_text big) d) (ap length d) (omega arith) (sym (u.others ∙ f)) u.moves

    pub until_end : length column ≤ r.place → PutsUntil big column key w r old out
    until_end h =
        let e = pairs_end column r.place h in
        finished (ap (before_text key) e ∙ before_none key) (ap (from_text key) e ∙ from_none key ∙ sym e)

    pub until_later : later_text key (left_of column r) ≡ true → PutsUntil big column key w r old out
    until_later e =
        let l = later_pairs key (left_of column r) e in
        finished l.0 l.1

    module _ (p : PairPlace) (k : PairAt column r.place p) where
      pub until_stop : before (part column r.place p.equals) key ≡ false → PutsUntil big column key w r old out
      until_stop e =
          let f : before (hex k.pair.0) key ≡ false = ap (λ (t : Bytes). before t key) (sym k.key) ∙ e in
          finished (ap (before_text key) k.first ∙ before_stop key k.pair (pairs_of (drop p.next column)) f)
          (ap (from_text key) k.first ∙ from_stop key k.pair (pairs_of (drop p.next column)) f ∙ sym k.first)

      pub until_more : before (part column r.place p.equals) key ≡ true → (s : Walk) (out' : Bytes) → PutsFound big column r p s out out' → Until column key w old out' s
      until_more e s out' m =
          let f : before (hex k.pair.0) key ≡ true = ap (λ (t : Bytes). before t key) (sym k.key) ∙ e in
          let g : pairs_of (drop p.next column) ≡ left_of column s = ap (λ (i : ℕ). pairs_of (drop i column)) (sym m.1) in
          let one : pair_pieces big (part column r.place p.equals) (part column (p.equals + 1) p.end) ≡ block_text big (k.pair ∷ []) = ap₂ (pair_pieces big) k.key k.value ∙ pair_block big k.pair.0 k.pair.1 in
          record {
            done = u.done ++ (k.pair ∷ []);
            moves =
                as_move column w s (block_text big u.done ++ pair_pieces big (part column r.place p.equals) (part column (p.equals + 1) p.end)) (block_text big (u.done ++ (k.pair ∷ []))) (length u.done + 1) (length (u.done ++ (k.pair ∷ []))) 0 0 (pairs_of (drop p.next column)) (left_of column s) old out'
                (ap (λ (t : Bytes). block_text big u.done ++ t) one ∙ sym (block_append big u.done (k.pair ∷ []))) (sym (length-append u.done (k.pair ∷ []))) (omega arith) g
                (then_move column w r s (block_text big u.done) (pair_pieces big (part column r.place p.equals) (part column (p.equals + 1) p.end)) (length u.done) 1 0 0 (left_of column r) (pairs_of (drop p.next column)) old out out' u.moves m.0);
            firsts =
                u.firsts
                ∙ ap (λ (l : List Pair). u.done ++ l) (ap (before_text key) k.first ∙ before_more key k.pair (pairs_of (drop p.next column)) f)
                ∙ sym (append_assoc u.done (k.pair ∷ []) (before_text key (pairs_of (drop p.next column))))
                ∙ ap (λ (l : List Pair). (u.done ++ (k.pair ∷ [])) ++ before_text key l) g;
            others = u.others ∙ ap (from_text key) k.first ∙ from_more key k.pair (pairs_of (drop p.next column)) f ∙ ap (from_text key) g;
          }

-- ── the pair after a reserved key

module _ (column key : Bytes) (place : ℕ) (h : Pairs column place) where
  pub after_end : length column ≤ place → IsAfter column key place place
  after_end l =
      let e = pairs_end column place l in
      (omega arith, h, e ∙ sym (after_none key) ∙ ap (after_text key) (sym e))

  pub after_later : later_text key (pairs_of (drop place column)) ≡ true → IsAfter column key place place
  after_later e = (omega arith, h, sym (later_pairs key (pairs_of (drop place column)) e).2)

  module _ (p : PairPlace) (k : PairAt column place p) where
    pub after_same : same (part column place p.equals) key ≡ true → IsAfter column key place p.next
    after_same e =
        let f : same (hex k.pair.0) key ≡ true = ap (λ (t : Bytes). same t key) (sym k.key) ∙ e in
        (omega (arith, k.more), k.rest, sym (ap (after_text key) k.first ∙ after_yes key k.pair (pairs_of (drop p.next column)) f))

    pub after_other : same (part column place p.equals) key ≡ false → IsAfter column key place place
    after_other e =
        let f : same (hex k.pair.0) key ≡ false = ap (λ (t : Bytes). same t key) (sym k.key) ∙ e in
        (omega arith, h, sym (ap (after_text key) k.first ∙ after_no key k.pair (pairs_of (drop p.next column)) f ∙ sym k.first))
