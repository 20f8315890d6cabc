-- Laws of the mappings: applied twice they are applied once. Assumes nothing.
use mathlib.Core.Path.{◌≡◌, refl, subst}
use mathlib.Core.Bool.{Bool, true, false, ◌&&◌}
use native.Mathlib.Omega.{arith}
use Rattle.sheets.specs.Answer.{Answer, given, ◌>>=◌}
use Rattle.sheets.specs.Field.{Info, Nesting, Grouping, ArrowDataType, scalar, nested, grouped, dictionary, extension, Fields, nil, add}
use Rattle.sheets.specs.Mappings.{to_physical_type, to_storage, to_storage_recursive, fields_storage, unless, is_map, is_union}
use Rattle.sheets.proofs.Tests.{first_gave, not_given}

pub storage_twice : (t : ArrowDataType) → to_storage (to_storage t) ≡ to_storage t
storage_twice (scalar s) = refl
storage_twice (nested n i t) = refl
storage_twice (grouped g fs) = refl
storage_twice (dictionary ix ordered t) = refl
storage_twice (extension n m t) = storage_twice t

pub physical_storage : (t : ArrowDataType) → to_physical_type (to_storage t) ≡ to_physical_type t
physical_storage (scalar s) = refl
physical_storage (nested n i t) = refl
physical_storage (grouped g fs) = refl
physical_storage (dictionary ix ordered t) = refl
physical_storage (extension n m t) = physical_storage t

unless_gave : {A : Type 0} (b : Bool) (m : Answer A) (a : A) → unless b m ≡ given a → (b ≡ false) × (m ≡ given a)
unless_gave true m a e = not_given e
unless_gave false m a e = (refl, e)

-- a step over values that are no `let`s: `rw` sees through a `let`
nested_again : (n : Nesting) (i : Info) (v : ArrowDataType) → is_map n ≡ false → to_storage_recursive v ≡ given v → to_storage_recursive (nested n i v) ≡ given (nested n i v)
nested_again n i v h k = rw (h, k)

grouped_again : (g : Grouping) (vs : Fields) → is_union g ≡ false → fields_storage vs ≡ given vs → to_storage_recursive (grouped g vs) ≡ given (grouped g vs)
grouped_again g vs h k = rw (h, k)

mutual
  pub recursive_twice : (t u : ArrowDataType) → to_storage_recursive t ≡ given u → to_storage_recursive u ≡ given u
  recursive_twice (scalar s) u e =
      let same : scalar s ≡ u = cc in
      subst (λ v. to_storage_recursive v ≡ given v) same refl
  recursive_twice (nested n i t) u e =
      let a = unless_gave (is_map n) (to_storage_recursive t >>= λ v. given (nested n i v)) u e in
      let q = first_gave (to_storage_recursive t) (λ v. given (nested n i v)) u a.1 in
      let same : nested n i q.0 ≡ u = cc in
      subst (λ v. to_storage_recursive v ≡ given v) same (nested_again n i q.0 a.0 (recursive_twice t q.0 q.1))
  recursive_twice (grouped g fs) u e =
      let a = unless_gave (is_union g) (fields_storage fs >>= λ vs. given (grouped g vs)) u e in
      let q = first_gave (fields_storage fs) (λ vs. given (grouped g vs)) u a.1 in
      let same : grouped g q.0 ≡ u = cc in
      subst (λ v. to_storage_recursive v ≡ given v) same (grouped_again g q.0 a.0 (fields_twice fs q.0 q.1))
  recursive_twice (dictionary ix ordered t) u e =
      let q = first_gave (to_storage_recursive t) (λ v. given (dictionary ix ordered v)) u e in
      let same : dictionary ix ordered q.0 ≡ u = cc in
      subst (λ v. to_storage_recursive v ≡ given v) same (rw (recursive_twice t q.0 q.1))
  recursive_twice (extension n m t) u e = recursive_twice t u e

  fields_twice : (fs us : Fields) → fields_storage fs ≡ given us → fields_storage us ≡ given us
  fields_twice nil us e =
      let same : nil ≡ us = cc in
      subst (λ v. fields_storage v ≡ given v) same refl
  fields_twice (add i t fs) us e =
      let q = first_gave (to_storage_recursive t) (λ v. fields_storage fs >>= λ vs. given (add i v vs)) us e in
      let p = first_gave (fields_storage fs) (λ vs. given (add i q.0 vs)) us q.2 in
      let same : add i q.0 p.0 ≡ us = cc in
      subst (λ v. fields_storage v ≡ given v) same (rw (recursive_twice t q.0 q.1, fields_twice fs p.0 p.1))

-- ── no extension is left

abbrev mutual
  pub plainly : ArrowDataType → Bool
  plainly (scalar s) = true
  plainly (nested n i t) = plainly t
  plainly (grouped g fs) = all_plainly fs
  plainly (dictionary ix ordered t) = plainly t
  plainly (extension n m t) = false

  pub all_plainly : Fields → Bool
  all_plainly nil = true
  all_plainly (add i t fs) = plainly t && all_plainly fs

mutual
  pub none_left : (t u : ArrowDataType) → to_storage_recursive t ≡ given u → plainly u ≡ true
  none_left (scalar s) u e =
      let same : scalar s ≡ u = cc in
      subst (λ v. plainly v ≡ true) same refl
  none_left (nested n i t) u e =
      let a = unless_gave (is_map n) (to_storage_recursive t >>= λ v. given (nested n i v)) u e in
      let q = first_gave (to_storage_recursive t) (λ v. given (nested n i v)) u a.1 in
      let same : nested n i q.0 ≡ u = cc in
      subst (λ v. plainly v ≡ true) same (none_left t q.0 q.1)
  none_left (grouped g fs) u e =
      let a = unless_gave (is_union g) (fields_storage fs >>= λ vs. given (grouped g vs)) u e in
      let q = first_gave (fields_storage fs) (λ vs. given (grouped g vs)) u a.1 in
      let same : grouped g q.0 ≡ u = cc in
      subst (λ v. plainly v ≡ true) same (fields_left fs q.0 q.1)
  none_left (dictionary ix ordered t) u e =
      let q = first_gave (to_storage_recursive t) (λ v. given (dictionary ix ordered v)) u e in
      let same : dictionary ix ordered q.0 ≡ u = cc in
      subst (λ v. plainly v ≡ true) same (none_left t q.0 q.1)
  none_left (extension n m t) u e = none_left t u e

  fields_left : (fs us : Fields) → fields_storage fs ≡ given us → all_plainly us ≡ true
  fields_left nil us e =
      let same : nil ≡ us = cc in
      subst (λ v. all_plainly v ≡ true) same refl
  fields_left (add i t fs) us e =
      let q = first_gave (to_storage_recursive t) (λ v. fields_storage fs >>= λ vs. given (add i v vs)) us e in
      let p = first_gave (fields_storage fs) (λ vs. given (add i q.0 vs)) us q.2 in
      let same : add i q.0 p.0 ≡ us = cc in
      subst (λ v. all_plainly v ≡ true) same (rw (none_left t q.0 q.1, fields_left fs p.0 p.1))
