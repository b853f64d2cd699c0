-- What a read answered, by where an input stands after it, and what the buffer holds then: where a read gives nothing, where it fails, and at the end.
use Rattle.std.proofs.Common.{◌≡◌, refl, sym, ap, subst, ◌∙◌, ℕ, zero, suc, ◌+◌, ◌≤◌, ◌<◌, ℤ, List, length, take, add-zero, le_refl, w64, FitsSigned, to_z, of_z, Option, Result, Ok, Err}
use Rattle.std.specs.Prelude.{pos, negsuc}
use Rattle.std.proofs.Math.Facts.{to_z-of_z}
use Rattle.std.proofs.lemmas.Slice.{take-put_mid_below}
use Rattle.std.proofs.KnownBytes.{Consumes-kept}
use Rattle.std.specs.declared.io.Error.{Error}
use Rattle.std.specs.Io.{ReadsAtMost}
use Rattle.std.specs.Io.KnownBytes.{Consumes, IsAtEnd, ReadConsumes}
use borrow.Rule.Slice.PartMut.{put_mid}
use Rattle.intake.proofs.Answers.{taken}

-- ---- by where the input stands

-- where an input stands after a read: n bytes are there and more may come, those n are all of it, or the read failed
pub data Stand : Type 0 where
  More : ℕ → Stand
  All : ℕ → Stand
  Failed : Stand

-- what a read answers as one number: how many bytes it added, and -1 where it failed
abbrev pub read_answer : Result ℕ Error → ℤ
read_answer (Ok n) = pos n
read_answer (Err e) = negsuc 0

-- `done` bytes came before the read. It answers 0 at the end of the input and only there, a number below 0 where it fails,
-- and else how many bytes it added
unfoldable pub after_read : ℕ → ℤ → Stand
after_read done (pos zero) = All done
after_read done (pos (suc k)) = More (done + suc k)
after_read done (negsuc k) = Failed

-- more is what a read gave, behind what was there; all is what was there, and the read gave nothing; else the read failed
abbrev pub Read : ℕ → Result ℕ Error → Stand → Type 0
Read done r (More n) = (k : ℕ) × (r ≡ Ok (suc k)) × (n ≡ done + suc k)
Read done r (All n) = (r ≡ Ok 0) × (n ≡ done)
Read done r Failed = (e : Error) × (r ≡ Err e)

-- so it is for every read
pub read_by : (done : ℕ) (r : Result ℕ Error) → Read done r (after_read done (read_answer r))
unfolding after_read
read_by done (Ok zero) = (refl, refl)
read_by done (Ok (suc k)) = (k, refl, refl)
read_by done (Err e) = (e, refl)

-- and so it is where the number of the read's answer was kept in a word of 64 bits
pub stood : (done : ℕ) (z : ℤ) (r : Result ℕ Error) (s : Stand) → FitsSigned w64 z → z ≡ read_answer r → s ≡ after_read done (to_z w64 (of_z w64 z)) → Read done r s
stood done z r s fits said e =
    subst (Read done r) (sym (e ∙ ap (after_read done) (to_z-of_z fits ∙ said))) (read_by done r)

-- ---- by what a read may give

-- the bytes that are there after a read that gives none are all that was taken of the reader, in order
pub taken_none : (before between left : Option (List ℕ)) (done k : ℕ) (r : Result ℕ Error) (xs ys : List ℕ) → done ≤ length xs → r ≡ Ok 0 → ReadsAtMost r ys
    → ReadConsumes between left r ys → Consumes before between (take done xs) → Consumes before left (take done (put_mid done k xs ys))
taken_none before between left done k r xs ys within read fits bytes first =
    let fit = subst (λ (q : Result ℕ Error). ReadsAtMost q ys) read fits in
    let gave = subst (λ (q : Result ℕ Error). ReadConsumes between left q ys) read bytes in
    subst (λ (m : ℕ). Consumes before left (take m (put_mid done k xs ys))) (add-zero done) (taken before between left done k 0 xs ys within fit.0 gave.0 first)

-- and so are those after one that fails
pub taken_before : (before between left : Option (List ℕ)) (done k : ℕ) (r : Result ℕ Error) (e : Error) (xs ys : List ℕ) → done ≤ length xs → r ≡ Err e
    → ReadConsumes between left r ys → Consumes before between (take done xs) → Consumes before left (take done (put_mid done k xs ys))
taken_before before between left done k r e xs ys within read bytes first =
    let kept = subst (λ (q : Result ℕ Error). ReadConsumes between left q ys) read bytes in
    subst (Consumes before left) (sym (take-put_mid_below done k xs ys done (le_refl done) within)) (Consumes-kept before between left _ first kept)

-- a read that found the end, with room for more, leaves the reader nothing
pub at_end : (between left : Option (List ℕ)) (r : Result ℕ Error) (ys : List ℕ) → r ≡ Ok 0 → 0 < length ys → ReadConsumes between left r ys → IsAtEnd left
at_end between left r ys read room bytes = (subst (λ (q : Result ℕ Error). ReadConsumes between left q ys) read bytes).1 refl room
