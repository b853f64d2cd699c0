-- What a wire line is answered, test by test.
use Rattle.std.specs.Prelude.{◌≡◌, true, false, Ok, Err, ℕ}
use Rattle.document.specs.Reading.{made, is_next, earlier, has_room, make}
use Rattle.data.specs.declared.Kind.{Kind}
use Rattle.data.specs.declared.Refusal.TheVariants as No
use Rattle.data.specs.declared.State.{State}

module _ (st : State) (w : ℕ) (k : Kind) (a b : ℕ) where
  -- it is not the next wire's: refused as that
  pub make_not_next : is_next st w ≡ false → make st w k a b ≡ Err No.Next
  unfolding make
  make_not_next h = simp h

  -- an operand does not come before the wire
  pub make_not_earlier : is_next st w ≡ true → earlier w k a b ≡ false → make st w k a b ≡ Err No.Operand
  unfolding make
  make_not_earlier h i = simp (h, i)

  -- there is no room under a ceiling
  pub make_no_room : is_next st w ≡ true → earlier w k a b ≡ true → has_room st k ≡ false → make st w k a b ≡ Err No.Ceiling
  unfolding make
  make_no_room h i j = simp (h, i, j)

  -- all three tests are passed: the wire is made
  pub make_done : is_next st w ≡ true → earlier w k a b ≡ true → has_room st k ≡ true → make st w k a b ≡ Ok (made st k a b)
  unfolding make
  make_done h i j = simp (h, i, j)
