-- What two reads took from an input, one after the other, and where the second one put it. Assumes nothing.
use Rattle.std.proofs.Common.{◌≡◌, ℕ, ◌+◌, ◌-◌, ◌≤◌, List, [], ◌++◌, None, Some, arith, length, take, slice_range, refl, sym, ap, ◌∙◌, subst, le_refl, drop_at, length-take-le, append_assoc}
use Rattle.std.proofs.lemmas.Slice.{take-put_mid_below}
use Rattle.std.specs.Io.KnownBytes.{Consumes}
use Rattle.std.specs.Prelude.{Option}
use borrow.Rule.Slice.PartMut.{put_mid, post_of}
use lib.Seq.{take-add, take-append-le}

both : (a b c : Option (List ℕ)) (bs cs : List ℕ) → Consumes a b bs → Consumes b c cs → Consumes a c (bs ++ cs)
both None b c bs cs p q = tt
both (Some x) None c bs cs p q = absurd p
both (Some x) (Some y) None bs cs p q = absurd q
both (Some x) (Some y) (Some z) bs cs p q = p ∙ ap (λ l. bs ++ l) q ∙ sym (append_assoc bs cs z)

split : (a b : ℕ) (old new : List ℕ) → a ≤ b → take a new ≡ take a old → take a old ++ slice_range new a b ≡ take b new
split a b old new h front =
    let same : a + (b - a) ≡ b = omega arith in
    ap (λ l. l ++ slice_range new a b) (sym front) ∙ sym (take-add a (b - a) new) ∙ ap (λ n. take n new) same

part : (a k n : ℕ) (xs ys : List ℕ) → a ≤ length xs → n ≤ length ys → slice_range (put_mid a k xs ys) a (a + n) ≡ take n ys
part a k n xs ys within fits =
    let same : (a + n) - a ≡ n = omega arith in
    let after = post_of a k xs in
    ap (take ((a + n) - a)) (drop_at (take a xs) (ys ++ after) a (length-take-le a xs within)) ∙ ap (λ m. take m (ys ++ after)) same ∙ take-append-le n ys after fits

pub nothing : (a : Option (List ℕ)) → Consumes a a []
nothing None = tt
nothing (Some x) = refl

-- the front of the text, and behind it what was read
pub behind : (from k n : ℕ) (xs ys : List ℕ) → from ≤ length xs → n ≤ length ys → take (from + n) (put_mid from k xs ys) ≡ take from xs ++ take n ys
behind from k n xs ys within fits =
    let joined = split from (from + n) xs (put_mid from k xs ys) (omega arith) (take-put_mid_below _ _ _ _ _ (le_refl _) within) in
    sym (ap (λ l. take from xs ++ l) (sym (part from k n xs ys within fits)) ∙ joined)

-- the front of the text grows by what was read behind it
pub read_on : (a b c : Option (List ℕ)) (from k n : ℕ) (xs ys : List ℕ) → from ≤ length xs → n ≤ length ys → Consumes a b (take from xs) → Consumes b c (take n ys) → Consumes a c (take (from + n) (put_mid from k xs ys))
read_on a b c from k n xs ys within fits before now =
    subst (Consumes a c) (sym (behind from k n xs ys within fits)) (both a b c _ _ before now)
