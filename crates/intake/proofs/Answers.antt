-- What the buffer holds after a read.
use Rattle.std.proofs.Common.{◌≡◌, sym, ap, ap₂, subst, ◌∙◌, ℕ, ◌+◌, ◌≤◌, List, ◌++◌, length, take, drop_at, le_refl, length-take-le, Option}
use Rattle.std.proofs.lemmas.Slice.{take-put_mid_below}
use Rattle.std.proofs.KnownBytes.{Consumes-trans}
use Rattle.std.specs.Io.KnownBytes.{Consumes}
use lib.Seq.{take-add, take-append-le}
use borrow.Rule.Slice.PartMut.{put_mid, post_of}

-- what was read into the part of a buffer behind its first a bytes stands there
read_in : (a k n : ℕ) (xs ys : List ℕ) → a ≤ length xs → n ≤ length ys → take (a + n) (put_mid a k xs ys) ≡ take a xs ++ take n ys
read_in a k n xs ys within fits =
    let after = post_of a k xs in
    let behind = ap (take n) (drop_at (take a xs) (ys ++ after) a (length-take-le a xs within)) ∙ take-append-le n ys after fits in
    take-add a n (put_mid a k xs ys) ∙ ap₂ (λ u v. u ++ v) (take-put_mid_below a k xs ys a (le_refl a) within) behind

-- the bytes that are there after a read that gave n bytes are all that was taken of the reader, in order
pub taken : (before between left : Option (List ℕ)) (done k n : ℕ) (xs ys : List ℕ) → done ≤ length xs → n ≤ length ys
    → Consumes between left (take n ys) → Consumes before between (take done xs) → Consumes before left (take (done + n) (put_mid done k xs ys))
taken before between left done k n xs ys within fits gave first =
    subst (Consumes before left) (sym (read_in done k n xs ys within fits)) (Consumes-trans before between left _ _ first gave)

-- the same, where m is how many bytes are there then
pub taken_so : (before between left : Option (List ℕ)) (done k n m : ℕ) (xs ys : List ℕ) → m ≡ done + n → done ≤ length xs → n ≤ length ys
    → Consumes between left (take n ys) → Consumes before between (take done xs) → Consumes before left (take m (put_mid done k xs ys))
taken_so before between left done k n m xs ys e within fits gave first =
    subst (λ (i : ℕ). Consumes before left (take i (put_mid done k xs ys))) (sym e) (taken before between left done k n xs ys within fits gave first)
